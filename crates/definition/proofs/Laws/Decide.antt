-- What each test of a record decides, in the order in which code makes them. Here the tests themselves; the kinds are in DecideTheory, DecideRule and DecideCertificate.
use Rattle.std.specs.Prelude.{◌≡◌, refl, Bool, true, false, not, List, [], ◌∷◌, ℕ, zero, suc, ◌<◌, ◌≤◌, eqb, ltb, length, get_or, drop}
use Rattle.std.proofs.Common.{sym, ap, ◌∙◌, arith, lt-ltb, le-ltb, eq-eqb, ne_eqb}
use Rattle.definition.specs.Test.{is, see, ◌and◌, all, any, same, same_true, same_refl}
use Rattle.definition.specs.Little.{le}
use Rattle.definition.specs.Pack.{prop, Node, Pack, no_node, symbol_of, sort_of}
use Rattle.definition.specs.Frame.{Checked, bad, over, ◌>>=◌, right, within}
use Rattle.definition.specs.Theory.{is_name, new_name, words, is_sort, is_output}
use Rattle.definition.specs.Certificate.{is_arguments, same_node, is_judgment, is_step}
use Rattle.definition.proofs.Laws.Agreement.{any_some, some_any}
use Rattle.definition.proofs.Laws.Store.{same-node, node-same}

-- a test of form that passes leads on, one that fails ends the reading
pub pass_right : {B : Type 0} (t : Bool) (f : Unit {0} → Checked B) → t ≡ true → right t >>= f ≡ f tt
unfolding ◌>>=◌ right
pass_right t f e = rw (e, right, ◌>>=◌)

pub stop_right : {B : Type 0} (t : Bool) (f : Unit {0} → Checked B) → t ≡ false → right t >>= f ≡ bad
unfolding ◌>>=◌ right
stop_right t f e = rw (e, right, ◌>>=◌)

-- so does a test of a limit
pub pass_within : {B : Type 0} (t : Bool) (f : Unit {0} → Checked B) → t ≡ true → within t >>= f ≡ f tt
unfolding ◌>>=◌ within
pass_within t f e = rw (e, within, ◌>>=◌)

pub stop_within : {B : Type 0} (t : Bool) (f : Unit {0} → Checked B) → t ≡ false → within t >>= f ≡ over
unfolding ◌>>=◌ within
stop_within t f e = rw (e, within, ◌>>=◌)

-- both of two tests pass, or one fails
pub and_yes : (a b : Bool) → a ≡ true → b ≡ true → a and b ≡ true
unfolding ◌and◌
and_yes a b p q = rw (p, ◌and◌) q

pub and_no_left : (a b : Bool) → a ≡ false → a and b ≡ false
unfolding ◌and◌
and_no_left a b p = rw (p, ◌and◌)

pub and_no_right : (a b : Bool) → b ≡ false → a and b ≡ false
unfolding ◌and◌
and_no_right true b q = q
and_no_right false b q = refl

-- the name of a new thing: no name at all, one that is there, or a new one
pub name_wrong : (n : List ℕ) (names : List (List ℕ)) → is_name n ≡ false → new_name n names ≡ false
unfolding new_name
name_wrong n names p = and_no_left (is_name n) (not (any (same n) names)) p

pub name_again : (n : List ℕ) (names : List (List ℕ)) → any (same n) names ≡ true → new_name n names ≡ false
unfolding new_name
name_again n names p = and_no_right (is_name n) (not (any (same n) names)) (ap not p)

pub name_new : (n : List ℕ) (names : List (List ℕ)) → is_name n ≡ true → any (same n) names ≡ false → new_name n names ≡ true
unfolding new_name
name_new n names p q = and_yes (is_name n) (not (any (same n) names)) p (ap not q)

-- a name is there at some place, or at none
pub names_any : (n : List ℕ) (names : List (List ℕ)) (i : ℕ) → i < length names → get_or names i [] ≡ n → any (same n) names ≡ true
names_any n names i h e = some_any (same n) [] names i h (ap (same n) e ∙ same_refl n)

pub names_none : (n : List ℕ) (names : List (List ℕ)) → ((i : ℕ) → i < length names → get_or names i [] ≡ n → ⊥) → any (same n) names ≡ false
names_none n names h = elim (see (any (same n) names)) [
  | is true p ↦ let r = any_some (same n) [] names p in absurd (h r.0 r.1 (sym (same_true n _ r.2)))
  | is false p ↦ p
]

-- so is a node
pub nodes-any : (n : Node) (ns : List Node) (i : ℕ) → i < length ns → get_or ns i no_node ≡ n → any (same_node n) ns ≡ true
nodes-any n ns i h e = some_any (same_node n) no_node ns i h (ap (same_node n) e ∙ node-same n)

pub nodes-none : (n : Node) (ns : List Node) → ((i : ℕ) → i < length ns → get_or ns i no_node ≡ n → ⊥) → any (same_node n) ns ≡ false
nodes-none n ns h = elim (see (any (same_node n) ns)) [
  | is true p ↦ let r = any_some (same_node n) no_node ns p in absurd (h r.0 r.1 (sym (same-node n _ r.2)))
  | is false p ↦ p
]

-- numbers of sorts are numbers below a length
pub sorts-all : (P : Pack) (ws : List ℕ) → all (is_sort P) ws ≡ all (λ w. ltb w (length P.sorts)) ws
unfolding is_sort
sorts-all P ws = refl

-- an output sort: the mark of a predicate, a sort, or neither
pub output_prop : (P : Pack) (s : ℕ) → s ≡ prop → is_output P s ≡ true
unfolding is_output
output_prop P s e = rw (eq-eqb s prop e, is_output)

pub output_yes : (P : Pack) (s : ℕ) → s < length P.sorts → is_output P s ≡ true
unfolding is_output
output_yes P s h = elim (see (eqb s prop)) [ is true p ↦ rw (p, is_output) | is false p ↦ rw (p, is_output) (lt-ltb _ _ h) ]

pub output_no : (P : Pack) (s : ℕ) → (s ≡ prop → ⊥) → length P.sorts ≤ s → is_output P s ≡ false
unfolding is_output
output_no P s n h = rw (ne_eqb s prop n, is_output) (le-ltb _ _ h)

-- numbers of steps are numbers below a length
pub steps_all : (P : Pack) (ws : List ℕ) → all (is_step P) ws ≡ all (λ w. ltb w (length P.steps)) ws
unfolding is_step
steps_all P ws = refl

-- a judgment: no node, a node of another sort, or a node with a predicate on top
pub judgment_outside : (P : Pack) (n : ℕ) → length P.nodes ≤ n → is_judgment P n ≡ false
unfolding is_judgment
judgment_outside P n h = and_no_left (ltb n (length P.nodes)) (eqb (sort_of P n) prop) (le-ltb _ _ h)

pub judgment_unsorted : (P : Pack) (n : ℕ) → (sort_of P n ≡ prop → ⊥) → is_judgment P n ≡ false
unfolding is_judgment
judgment_unsorted P n h = and_no_right (ltb n (length P.nodes)) (eqb (sort_of P n) prop) (ne_eqb _ _ h)

pub judgment_yes : (P : Pack) (n : ℕ) → n < length P.nodes → sort_of P n ≡ prop → is_judgment P n ≡ true
unfolding is_judgment
judgment_yes P n h e = and_yes (ltb n (length P.nodes)) (eqb (sort_of P n) prop) (lt-ltb _ _ h) (eq-eqb _ _ e)

-- the arguments from the i-th on: one that passes leads on, one that does not decides, as does the end
pub arguments_turn : (P : Pack) (ss args : List ℕ) (i : ℕ) → i < length ss → i < length args → get_or args i 0 < length P.nodes → sort_of P (get_or args i 0) ≡ get_or ss i 0
    → is_arguments P (drop i ss) (drop i args) ≡ is_arguments P (drop (suc i) ss) (drop (suc i) args)
unfolding is_arguments
arguments_turn P [] args i h k l e = absurd (omega arith)
arguments_turn P (s ∷ ss) [] i h k l e = absurd (omega arith)
arguments_turn P (s ∷ ss) (a ∷ args) zero h k l e = rw (lt-ltb a (length P.nodes) l, eq-eqb (sort_of P a) s e, ◌and◌)
arguments_turn P (s ∷ ss) (a ∷ args) (suc i) h k l e = arguments_turn P ss args i (omega arith) (omega arith) l e

pub arguments_outside : (P : Pack) (ss args : List ℕ) (i : ℕ) → i < length ss → i < length args → length P.nodes ≤ get_or args i 0 → is_arguments P (drop i ss) (drop i args) ≡ false
unfolding is_arguments
arguments_outside P [] args i h k l = absurd (omega arith)
arguments_outside P (s ∷ ss) [] i h k l = absurd (omega arith)
arguments_outside P (s ∷ ss) (a ∷ args) zero h k l = rw (le-ltb a (length P.nodes) l, ◌and◌)
arguments_outside P (s ∷ ss) (a ∷ args) (suc i) h k l = arguments_outside P ss args i (omega arith) (omega arith) l

pub arguments_unsorted : (P : Pack) (ss args : List ℕ) (i : ℕ) → i < length ss → i < length args → (sort_of P (get_or args i 0) ≡ get_or ss i 0 → ⊥) → is_arguments P (drop i ss) (drop i args) ≡ false
unfolding is_arguments
arguments_unsorted P [] args i h k n = absurd (omega arith)
arguments_unsorted P (s ∷ ss) [] i h k n = absurd (omega arith)
arguments_unsorted P (s ∷ ss) (a ∷ args) zero h k n =
    and_no_left (ltb a (length P.nodes) and eqb (sort_of P a) s) (is_arguments P ss args) (and_no_right (ltb a (length P.nodes)) (eqb (sort_of P a) s) (ne_eqb _ _ n))
arguments_unsorted P (s ∷ ss) (a ∷ args) (suc i) h k n = arguments_unsorted P ss args i (omega arith) (omega arith) n

pub arguments_done : (P : Pack) (ss args : List ℕ) (i : ℕ) → length ss ≡ length args → length args ≤ i → is_arguments P (drop i ss) (drop i args) ≡ true
unfolding is_arguments
arguments_done P [] [] zero e h = refl
arguments_done P [] [] (suc i) e h = refl
arguments_done P [] (a ∷ args) i e h = absurd (omega arith)
arguments_done P (s ∷ ss) [] i e h = absurd (omega arith)
arguments_done P (s ∷ ss) (a ∷ args) zero e h = absurd (omega arith)
arguments_done P (s ∷ ss) (a ∷ args) (suc i) e h = arguments_done P ss args i (omega arith) (omega arith)

-- the node that a body gives
abbrev pub node_by : Pack → List ℕ → Node
node_by P b = record { head = le 4 b 0; args = words (length (symbol_of P (le 4 b 0)).inputs) (drop 4 b) }
