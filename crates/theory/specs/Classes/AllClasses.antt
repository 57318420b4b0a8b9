-- All classes made: where rule classes are made class building is done, and every class is exact.
use Rattle.std.specs.Prelude.{◌≡◌, ℕ, ◌<◌}
use Rattle.std.proofs.Math.Path.{refl, sym, ap}
use Rattle.std.proofs.Common.{◌∙◌, arith}
use mathlib.Core.List.{List, [], ◌∷◌, ◌++◌, append_assoc, append-nil}
use Rattle.std.proofs.Math.ListN.{length, get_or, length-append}
use Rattle.std.proofs.Math.Seq.{get_or_at}
use Rattle.definition.specs.Test.{is, see}
use Rattle.definition.specs.Pack.{Pack}
use Rattle.definition.specs.Good.{Good, Few}
use Rattle.definition.specs.Store.{nothing}
use Rattle.definition.specs.Run.{Note, Run, done, behind, ◌>>=◌}
use Rattle.definition.specs.Keys.{cut_key, rule_key, Keyed, no_keyed, keyed}
use Rattle.definition.specs.Classes.{Built, make_rule, make_class, make_classes, build_classes}
use Rattle.theory.specs.Classes.Built.{BuiltGood}
use Rattle.theory.specs.Classes.CutClass.{Makes, cut-made}

-- a class of a rule is made
abbrev pub RuleMade : Pack → Type 0
RuleMade P = (b : Built) → BuiltGood P (keyed P).words b → length b.classes < length (keyed P).classes → (r : ℕ) (cs : List ℕ)
    → (get_or (keyed P).classes (length b.classes) no_keyed).key ≡ rule_key r cs
    → Makes P (keyed P).words b (make_rule P (get_or (keyed P).classes (length b.classes) no_keyed).first (keyed P).words b)

-- what class building comes to: it is done, every class is exact
pub record MadeAll (P : Pack) (r : Run Built) : Type 0 where
  pub noted : List Note
  pub built : Built
  pub is : r ≡ done noted built
  pub good : BuiltGood P (keyed P).words built
  pub all : length built.classes ≡ length (keyed P).classes

-- a run that is done goes on to what follows it
pub done_then : {A B : Type 0} (r : Run A) (f : A → Run B) (ns ms : List Note) (a : A) (b : B) → r ≡ done ns a → f a ≡ done ms b → (r >>= f) ≡ done (ns ++ ms) b
unfolding ◌>>=◌ behind
done_then r f ns ms a b p q = ap (λ o. o >>= f) p ∙ ap (behind ns) q

-- nothing built yet is good
pub none-built : (P : Pack) (words : List ℕ) (fill : ℕ) → BuiltGood P words (record { store = []; classes = []; fill = fill })
none-built P words fill = record { earlier = λ p h. absurd (omega arith); once = λ p q h k e. absurd (omega arith); classes = λ c h. absurd (omega arith) }

module _ (P : Pack) (G : Good P) (F : Few P) (few : length P.steps < nothing) (R : RuleMade P) where
  -- the next class is made, by its key
  class_made : (b : Built) → BuiltGood P (keyed P).words b → length b.classes < length (keyed P).classes
      → Makes P (keyed P).words b (make_class P (keyed P).words (get_or (keyed P).classes (length b.classes) no_keyed) b)
  unfolding make_class
  class_made b B h = elim (see (get_or (keyed P).classes (length b.classes) no_keyed).key) [
    | is (cut_key p) e ↦ rw (e, make_class) (cut-made P G F few b B h p e)
    | is (rule_key r cs) e ↦ rw (e, make_class) (R b B h r cs e)
  ]

  -- the rest of the classes are made
  rest-made : (ks before : List Keyed) (b : Built) → BuiltGood P (keyed P).words b → (keyed P).classes ≡ before ++ ks → length before ≡ length b.classes
      → MadeAll P (make_classes P (keyed P).words ks b)
  unfolding make_classes
  rest-made [] before b B e l = record { noted = []; built = b; is = refl; good = B; all = sym l ∙ ap length (sym (append-nil before)) ∙ ap length (sym e) }
  rest-made (k ∷ ks) before b B e l =
      let head : get_or (keyed P).classes (length b.classes) no_keyed ≡ k = ap (λ xs. get_or xs (length b.classes) no_keyed) e ∙ get_or_at before k ks no_keyed (length b.classes) l in
      let n = ap length e ∙ length-append before (k ∷ ks) in
      let M : Makes P (keyed P).words b (make_class P (keyed P).words k b) = rw head at (class_made b B (omega arith)) in
      let m = length-append before (k ∷ []) in
      let N = rest-made ks (before ++ (k ∷ [])) M.built M.good (e ∙ sym (append_assoc before (k ∷ []) ks)) (omega (arith, M.longer)) in
      record { noted = M.noted ++ N.noted; built = N.built; is = done_then (make_class P (keyed P).words k b) (λ c. make_classes P (keyed P).words ks c) M.noted N.noted M.built N.built M.is N.is; good = N.good; all = N.all }

  -- class building is done, and every class is exact
  pub classes_made : MadeAll P (build_classes P)
  unfolding build_classes ◌>>=◌ behind
  classes_made =
      let N = rest-made (keyed P).classes [] (record { store = []; classes = []; fill = length P.steps }) (none-built P (keyed P).words (length P.steps)) refl refl in
      record { noted = (record { buffer = 1; fill = length P.steps } ∷ []) ++ N.noted; built = N.built; is = rw N.is; good = N.good; all = N.all }
