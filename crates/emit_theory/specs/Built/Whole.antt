-- The store that class building leaves is well sorted, each class's conclusion is a judgment's pattern of it, and the classes have their keys'
-- heads: so for every pack that parses, whether its steps pass or not.
use Rattle.std.specs.Prelude.{◌≡◌, true, false, ℕ, ◌<◌, eqb}
use Rattle.std.proofs.Math.Path.{refl, sym, ap}
use Rattle.std.proofs.Common.{ap₂, ◌∙◌, arith, eqb-true}
use mathlib.Core.List.{List, [], ◌∷◌, ◌++◌, map, append_assoc, append-nil}
use Rattle.std.proofs.Math.ListN.{length, get_or, length-append}
use Rattle.std.proofs.Math.Seq.{get_or_at}
use Rattle.definition.specs.Test.{is, see, tests}
use Rattle.definition.specs.Pack.{Pack, rule_of, step_of}
use Rattle.definition.specs.Good.{Below, Good, Few}
use Rattle.definition.specs.Store.{nothing}
use Rattle.definition.specs.Run.{Note, done}
use Rattle.definition.specs.Keys.{cut_key, rule_key, Keyed, no_keyed, first_of, keyed}
use Rattle.definition.specs.Classes.{Built, make_class, make_classes, build_classes}
use Rattle.theory.specs.Keys.Keyed.{get_d_any}
use Rattle.theory.specs.Keys.KeyedLaws.{keyed-kept}
use Rattle.theory.specs.Classes.CutClass.{step_predicate}
use Rattle.theory.specs.Making.Firsts.{first_step_of, cut-key, rule-key, first-given, first_key, first_made, firsts-given}
use Rattle.emit_theory.specs.Built.Runs.{run_then}
use Rattle.emit_theory.specs.Built.Heads.{SameHeads, KeyHeads, ClassHeads, same_heads_stay, key_heads_stay}
use Rattle.emit_theory.specs.Built.Premises.{BuiltSorted}
use Rattle.emit_theory.specs.Built.Adds.{Added, cut_added}
use Rattle.emit_theory.specs.Built.Rules.{rule_added}

-- nothing built yet
none-built : (P : Pack) (fill : ℕ) → BuiltSorted P (record { store = []; classes = []; fill = fill })
none-built P fill = record { store = λ i l. absurd (omega arith); within = λ c l. absurd (omega arith); judged = λ c l. absurd (omega arith); applied = λ c l. absurd (omega arith) }

-- the classes of a step's refs, as its key has them
key_classes : (P : Pack) (words refs : List ℕ) → Below (length words) (map (first_of P) refs) → map (λ q. get_or words q 0) (map (first_of P) refs) ≡ map (λ r. get_or words (first_of P r) nothing) refs
key_classes P words [] b = refl
key_classes P words (r ∷ refs) b = ap₂ ◌∷◌ (get_d_any words (first_of P r) 0 nothing b.0) (key_classes P words refs b.1)

-- a class more, which has its key's heads
heads_more : (P : Pack) (b c : Built) → Added P b c → ClassHeads P b → KeyHeads P c (length b.classes) (get_or (keyed P).classes (length b.classes) no_keyed).key → ClassHeads P c
heads_more P b c A H new i l = elim (see (eqb i (length b.classes))) [
  | is true p ↦ rw (eqb-true i (length b.classes) p) new
  | is false p ↦
      let n = A.longer in
      let o : i < length b.classes = omega tests in
      key_heads_stay b c (omega arith) A.heads P i o (get_or (keyed P).classes i no_keyed).key (H i o)
]

module _ (P : Pack) (good : Good P) (few : Few P) where
  -- the next class, by its key
  class_made : (b : Built) → BuiltSorted P b → length b.classes < length (keyed P).classes → (ns : List Note) (c : Built)
      → make_class P (keyed P).words (get_or (keyed P).classes (length b.classes) no_keyed) b ≡ done ns c
      → Added P b c × KeyHeads P c (length b.classes) (get_or (keyed P).classes (length b.classes) no_keyed).key
  unfolding make_class
  class_made b B l ns c e =
      let i = length b.classes in
      let s = first_step_of P i in
      let words = (keyed P).words in
      let given = first-given P good i l in
      let key = first_key P good i l in
      elim (see (get_or (keyed P).classes i no_keyed).key) [
        | is (cut_key p) k ↦
            let q = (cut-key P words s p (sym key ∙ k)).1 in
            let j = step_predicate P good s given in
            let A = cut_added P few p (rw q j.0) (rw q j.1) b B ns c (rw (k, make_class) at e) in
            (A.0, rw k A.1)
        | is (rule_key r cs) k ↦
            let n = rule-key P words s r cs (sym key ∙ k) in
            let A = rule_added P good few s given words b B (first_made P good i l n.0 b refl) ns c (rw (k, make_class) at e) in
            let m = A.0.longer in
            let all = key_classes P words (step_of P s).refs (rw (keyed-kept P good).1 (firsts-given P good s given)) ∙ sym n.2 in
            let H : SameHeads b (rule_of P r).premises cs = rw (n.1, ← all) A.1 in
            (A.0, rw k (same_heads_stay b c (omega arith) A.0.heads (rule_of P r).premises cs H))
      ]

  -- the rest of the classes
  rest-made : (ks before : List Keyed) (b : Built) → BuiltSorted P b → ClassHeads P b → (keyed P).classes ≡ before ++ ks → length before ≡ length b.classes → (ns : List Note) (c : Built)
      → make_classes P (keyed P).words ks b ≡ done ns c → BuiltSorted P c × ClassHeads P c × (length c.classes ≡ length (keyed P).classes)
  unfolding make_classes
  rest-made [] before b B H e l ns c m = let q : b ≡ c = cc in rw (← q) (B, H, sym l ∙ sym (ap length (e ∙ append-nil before)))
  rest-made (k ∷ ks) before b B H e l ns c m =
      let head : get_or (keyed P).classes (length b.classes) no_keyed ≡ k = ap (λ xs. get_or xs (length b.classes) no_keyed) e ∙ get_or_at before k ks no_keyed (length b.classes) l in
      let n = ap length e ∙ length-append before (k ∷ ks) in
      let o = length-append before (k ∷ []) in
      run_then (make_class P (keyed P).words k b) (λ d. make_classes P (keyed P).words ks d) ns c m (λ ms d ns' one more.
      let M = class_made b B (omega arith) ms d (rw head one) in
      let A = M.0 in
      rest-made ks (before ++ (k ∷ [])) d A.sorted (heads_more P b d A H M.1) (e ∙ sym (append_assoc before (k ∷ []) ks)) (omega (arith, A.longer)) ns' c more)

  module _ (ns : List Note) (b : Built) (e : build_classes P ≡ done ns b) where
    whole : BuiltSorted P b × ClassHeads P b × (length b.classes ≡ length (keyed P).classes)
    unfolding build_classes
    whole = run_then _ _ ns b e (λ ms u ks one more.
        rest-made (keyed P).classes [] (record { store = []; classes = []; fill = length P.steps }) (none-built P (length P.steps)) (λ c l. absurd (omega arith)) refl refl ks b more)

    -- what class building leaves, a class for each key
    pub classes_sorted : BuiltSorted P b × (length b.classes ≡ length (keyed P).classes)
    classes_sorted = (whole.0, whole.2)

    -- and each class has its key's heads
    pub classes_heads : ClassHeads P b
    classes_heads = whole.1
