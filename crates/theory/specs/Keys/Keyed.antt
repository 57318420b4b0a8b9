-- Keys: two needed steps have one class just where their keys are equal, each class begins with a needed step, and counts add up.
use Rattle.std.specs.Prelude.{◌≡◌, refl, Bool, true, false, List, [], ◌∷◌, ◌++◌, map, ℕ, zero, suc, ◌+◌, ◌<◌, ◌≤◌, eqb, length, get_or, set}
use Rattle.std.proofs.Common.{sym, ap, ap₂, ◌∙◌, arith, eqb-true, eq-eqb}
use Rattle.std.proofs.Math.Option.{none, some}
use Rattle.std.proofs.Math.ListN.{get_or-append}
use Rattle.definition.specs.Test.{is, see, never, any, ◌and◌, and_parts, same, same_true, same_refl}
use Rattle.definition.specs.Pack.{Pack, step_of}
use Rattle.definition.specs.Good.{Below, Good}
use Rattle.definition.specs.Store.{nothing}
use Rattle.definition.specs.Graph.{up_to}
use Rattle.definition.specs.Classes.{count_of}
use Rattle.definition.specs.Keys.{first_of, predicate_of, is_a_cut, Key, cut_key, rule_key, same_key_of, Keyed, no_keyed, class_in, key_of, one_more_of}
use Rattle.theory.specs.Keys.Needed.{first-earlier}

pub same_key : (k l : Key) → same_key_of k l ≡ true → k ≡ l
unfolding same_key_of
same_key (cut_key p) (cut_key q) e = ap cut_key (eqb-true p q e)
same_key (cut_key p) (rule_key r cs) e = never (cc)
same_key (rule_key r cs) (cut_key p) e = never (cc)
same_key (rule_key r cs) (rule_key q ds) e = let p = and_parts (eqb r q) (same cs ds) e in ap₂ rule_key (eqb-true r q p.0) (same_true cs ds p.1)

pub key-same : (k : Key) → same_key_of k k ≡ true
unfolding same_key_of ◌and◌
key-same (cut_key p) = eq-eqb p p refl
key-same (rule_key r cs) = rw (eq-eqb r r refl, ◌and◌) (same_refl cs)

-- the class that is found has the key
pub class_found : (k : Key) (xs : List Keyed) (c d : ℕ) → class_in k xs c ≡ some d → (i : ℕ) × (d ≡ c + i) × (i < length xs) × ((get_or xs i no_keyed).key ≡ k)
unfolding class_in
class_found k [] c d e = never (cc)
class_found k (x ∷ xs) c d e = elim (see (same_key_of x.key k)) [
  | is true p ↦ let q : some c ≡ some d = rw (p, class_in) at e in let r : c ≡ d = cc in (0, omega arith, omega arith, same_key x.key k p)
  | is false p ↦ let r = class_found k xs (suc c) d (rw (p, class_in) at e) in (suc r.0, omega (arith, r.1), omega (arith, r.2), r.3)
]

-- where none is found none has it
pub class_none : (k : Key) (xs : List Keyed) (c i : ℕ) → class_in k xs c ≡ none → i < length xs → (get_or xs i no_keyed).key ≡ k → ⊥
unfolding class_in
class_none k [] c i e h q = absurd (omega arith)
class_none k (x ∷ xs) c zero e h q = elim (see (same_key_of x.key k)) [
  | is true p ↦ never (let z : some c ≡ none = rw (p, class_in) at e in cc)
  | is false p ↦ never (let z : true ≡ false = sym (key-same k) ∙ ap (λ (l : Key). same_key_of l k) (sym q) ∙ p in cc)
]
class_none k (x ∷ xs) c (suc i) e h q = elim (see (same_key_of x.key k)) [
  | is true p ↦ never (let z : some c ≡ none = rw (p, class_in) at e in cc)
  | is false p ↦ class_none k xs (suc c) i (rw (p, class_in) at e) (omega arith) q
]

-- a place of a list has one element, whatever stands for none
pub get_d_any : (xs : List ℕ) (i d e : ℕ) → i < length xs → get_or xs i d ≡ get_or xs i e
get_d_any [] i d e h = absurd (omega arith)
get_d_any (x ∷ xs) zero d e h = refl
get_d_any (x ∷ xs) (suc i) d e h = get_d_any xs i d e (omega arith)

-- classes of refs, when all of them have their words
refs-kept : (P : Pack) (ws more : List ℕ) (refs : List ℕ) → Below (length ws) (map (first_of P) refs)
    → map (λ r. get_or (ws ++ more) (first_of P r) nothing) refs ≡ map (λ r. get_or ws (first_of P r) nothing) refs
refs-kept P ws more [] b = refl
refs-kept P ws more (r ∷ refs) b = ap₂ ◌∷◌ (get_or-append ws more nothing (first_of P r) b.0) (refs-kept P ws more refs b.1)

-- a key does not change when later steps get their classes
pub key-kept : (P : Pack) (ws more : List ℕ) (s : ℕ) → Below (length ws) (map (first_of P) (step_of P s).refs) → key_of P (ws ++ more) s ≡ key_of P ws s
unfolding key_of
key-kept P ws more s b = elim (see (is_a_cut P (predicate_of P s))) [
  | is true p ↦ rw (p, key_of)
  | is false p ↦ rw (p, key_of) (ap (rule_key (step_of P s).rule) (refs-kept P ws more (step_of P s).refs b))
]

-- a good step's refs stand for steps before it
pub firsts-below : (P : Pack) (s : ℕ) (refs : List ℕ) → s ≤ length P.steps → Below s refs → Below s (map (first_of P) refs)
firsts-below P s [] h b = tt
firsts-below P s (r ∷ refs) h b = let e = first-earlier P r (omega (arith, b.0)) in (omega (arith, b.0), firsts-below P s refs h b.1)

pub refs-below : (P : Pack) → Good P → (s : ℕ) → s < length P.steps → Below s (map (first_of P) (step_of P s).refs)
refs-below P G s h = firsts-below P s (step_of P s).refs (omega arith) (G.steps s h).earlier

-- the counts of classes added up
unfoldable pub counted : List Keyed → ℕ
counted [] = 0
counted (x ∷ xs) = x.count + counted xs

pub counted-more : (xs : List Keyed) (x : Keyed) → counted (xs ++ (x ∷ [])) ≡ counted xs + x.count
unfolding counted
counted-more [] x = omega arith
counted-more (y ∷ xs) x = let e = counted-more xs x in omega arith

pub counted-set : (xs : List Keyed) (c : ℕ) → c < length xs → counted (set xs c (one_more_of (get_or xs c no_keyed))) ≡ suc (counted xs)
unfolding counted
counted-set [] c h = absurd (omega arith)
counted-set (x ∷ xs) zero h = omega arith
counted-set (x ∷ xs) (suc c) h = let e = counted-set xs c (omega arith) in omega arith

-- a count over two lists
pub count-append : {A : Type 0} (f : A → Bool) (xs ys : List A) → count_of f (xs ++ ys) ≡ count_of f xs + count_of f ys
unfolding count_of
count-append f [] ys = omega arith
count-append f (x ∷ xs) ys = elim (see (f x)) [
  | is true p ↦ rw (p, count_of) (let e = count-append f xs ys in omega arith)
  | is false p ↦ rw (p, count_of) (count-append f xs ys)
]

-- how many of the first n are among these
pub count_up_to : (wanted : List ℕ) (n : ℕ) → count_of (λ s. any (eqb s) wanted) (up_to (suc n)) ≡ count_of (λ s. any (eqb s) wanted) (up_to n) + count_of (λ s. any (eqb s) wanted) (n ∷ [])
unfolding up_to
count_up_to wanted n = count-append (λ s. any (eqb s) wanted) (up_to n) (n ∷ [])
