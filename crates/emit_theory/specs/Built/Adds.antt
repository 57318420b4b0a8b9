-- A class added to those made so far, and a cut class: the store stays well sorted, each conclusion is a judgment's pattern, and its head stays.
use Rattle.std.specs.Prelude.{◌≡◌, refl, true, false, List, [], ◌∷◌, ◌++◌, map, ℕ, suc, ◌+◌, ◌<◌, eqb, length, get_or}
use Rattle.std.proofs.Common.{ap, ◌∙◌, arith, eqb-true, length-append}
use Rattle.std.proofs.Math.ListN.{get_or-append}
use Rattle.std.proofs.lemmas.List.{get_or_at}
use Rattle.definition.specs.Test.{is, see, tests}
use Rattle.definition.specs.Pack.{prop, Node, no_node, Pack, symbol_of}
use Rattle.definition.specs.Good.{Few}
use Rattle.definition.specs.Store.{variable_node, is_variable, intern}
use Rattle.definition.specs.Run.{Note, done, behind, ◌>>=◌}
use Rattle.definition.specs.Classes.{Class, no_class, Built, add_class, fresh_variables, make_cut}
use Rattle.theory.specs.Copies.Copying.{pattern_sort}
use Rattle.theory.specs.Patterns.Interned.{Grows, grows_long, grows_at, interned}
use Rattle.emit_theory.specs.Stores.{SortedStore}
use Rattle.emit_theory.specs.Graph.Intern.{sort_grows, symbol-node}
use Rattle.emit_theory.specs.Built.Lifts.{HoldsAll, holds_none, holds_first, holds_over, holds_variable}
use Rattle.emit_theory.specs.Built.Heads.{head_of}
use Rattle.emit_theory.specs.Built.Premises.{BuiltSorted}

-- class building with one class more
pub record Added (P : Pack) (b c : Built) : Type 0 where
  pub sorted : BuiltSorted P c
  pub longer : length c.classes ≡ suc (length b.classes)
  pub heads : (i : ℕ) → i < length b.classes → head_of c i ≡ head_of b i

-- what a class more leaves
built_is : (b : Built) (store : List Node) (x : Class) (ns : List Note) (c : Built) → add_class b store x ≡ done ns c
    → record { store = store; classes = b.classes ++ (x ∷ []); fill = b.fill + 3 + length x.flex } ≡ c
unfolding add_class ◌>>=◌ behind
built_is b store x ns c e = cc

-- a class whose conclusion is a judgment's pattern of the store that has grown, and the head of its conclusion
pub class_added : (P : Pack) (b : Built) (store : List Node) (x : Class) → BuiltSorted P b → Grows b.store store → SortedStore P store → x.conclusion < length store → pattern_sort P store x.conclusion ≡ prop → is_variable (get_or store x.conclusion no_node) ≡ false
    → (ns : List Note) (c : Built) → add_class b store x ≡ done ns c → Added P b c × (head_of c (length b.classes) ≡ (get_or store x.conclusion no_node).head)
class_added P b store x B G S l j v ns c e =
    let xs = b.classes in
    let long = grows_long b.store store G in
    let m = length-append xs (x ∷ []) in
    let last = get_or_at xs x [] no_class (length xs) refl in
    let old : (i : ℕ) → i < length xs → get_or (xs ++ (x ∷ [])) i no_class ≡ get_or xs i no_class = λ i o. get_or-append xs (x ∷ []) no_class i o in
    let head : Class → ℕ = λ k. (get_or store k.conclusion no_node).head in
    rw (← built_is b store x ns c e) (
      record {
        sorted = record {
          store = S;
          within = λ i h. elim (see (eqb i (length xs))) [
            | is true p ↦ rw (eqb-true i (length xs) p, last) l
            | is false p ↦ let o : i < length xs = omega tests in rw (old i o) (omega (arith, B.within i o))
          ];
          judged = λ i h. elim (see (eqb i (length xs))) [
            | is true p ↦ rw (eqb-true i (length xs) p, last) j
            | is false p ↦ let o : i < length xs = omega tests in rw (old i o) (sort_grows P b.store store G (get_or xs i no_class).conclusion (B.within i o) ∙ B.judged i o)
          ];
          applied = λ i h. elim (see (eqb i (length xs))) [
            | is true p ↦ rw (eqb-true i (length xs) p, last) v
            | is false p ↦ let o : i < length xs = omega tests in rw (old i o, grows_at b.store store no_node (get_or xs i no_class).conclusion G (B.within i o)) (B.applied i o)
          ];
        };
        longer = omega arith;
        heads = λ i o. ap head (old i o) ∙ ap (λ (n : Node). n.head) (grows_at b.store store no_node (get_or xs i no_class).conclusion G (B.within i o));
      },
      ap head last,
    )

-- fresh variables of these sorts
fresh_sorted : (P : Pack) (ss : List ℕ) (k : ℕ) (s : List Node) → SortedStore P s → HoldsAll P ss s (fresh_variables ss k s)
unfolding fresh_variables
fresh_sorted P [] k s S = holds_none P s S
fresh_sorted P (so ∷ ss) k s S =
    let first = intern s (variable_node k so) in
    let F = holds_variable P s k so S in
    holds_first P so ss s first (fresh_variables ss (suc k) first.store) F (fresh_sorted P ss (suc k) first.store F.sorted)

-- a cut class: its predicate over fresh variables, which is the head of its conclusion
pub cut_added : (P : Pack) → Few P → (p : ℕ) → p < length P.symbols → (symbol_of P p).output ≡ prop → (b : Built) → BuiltSorted P b → (ns : List Note) (c : Built) → make_cut P p b ≡ done ns c → Added P b c × (head_of c (length b.classes) ≡ p)
unfolding make_cut
cut_added P few p l o b B ns c e =
    let inputs = (symbol_of P p).inputs in
    let args = fresh_variables inputs 0 b.store in
    let top = intern args.store (record { head = p; args = args.numbers }) in
    let T = holds_over P few p b.store args l (fresh_sorted P inputs 0 b.store B.store) in
    let node = (interned args.store (record { head = p; args = args.numbers })).is in
    let A = class_added P b top.store (record { conclusion = top.number; flex = map (λ s. true) inputs; cut = true; fixed = 0; entries = 0; renamings = 0 }) B T.grows T.sorted T.within (T.sort ∙ o)
    (ap is_variable node ∙ symbol-node P few (record { head = p; args = args.numbers }) l) ns c e in
    (A.0, A.1 ∙ ap (λ (n : Node). n.head) node)
