-- Classes built so far: each conclusion's instances are just what derivations of the class's shape conclude.
use Rattle.std.specs.Prelude.{◌≡◌, refl, true, false, List, [], ◌∷◌, ◌++◌, ℕ, zero, suc, ◌<◌, ◌≤◌, eqb, length, get_or}
use Rattle.std.proofs.Common.{sym, ap, ◌∙◌, arith, eqb-true, length-append}
use Rattle.std.proofs.Math.ListN.{get_or-append}
use Rattle.std.proofs.lemmas.List.{get_or_at}
use Rattle.definition.specs.Test.{is, see, tests, any}
use Rattle.definition.specs.Pack.{prop, Node, Pack}
use Rattle.definition.specs.Tree.{Tree}
use Rattle.definition.specs.Good.{Good}
use Rattle.definition.specs.Store.{nothing}
use Rattle.definition.specs.Keys.{no_keyed, key_of, needed, keyed}
use Rattle.definition.specs.Classes.{Class, no_class, Built}
use Rattle.definition.proofs.Laws.Store.{StoreOnce}
use Rattle.theory.specs.Derive.{InstanceOf, StepOf}
use Rattle.theory.specs.Classes.Steps.{Concludes}
use Rattle.theory.specs.Keys.Needed.{Among}
use Rattle.theory.specs.Keys.KeyedLaws.{keyed-kept}
use Rattle.theory.specs.Copies.Terms.{Earlier}
use Rattle.theory.specs.Patterns.Interned.{Grows}
use Rattle.theory.specs.Patterns.Sorted.{SortedPattern, sorted_grows, sorted_inside}
use Rattle.theory.specs.Patterns.Instances.{instance_grows, instance_before}

-- the pattern p of a store is the most general conclusion of class c
pub record Exact (P : Pack) (words : List ℕ) (store : List Node) (p c : ℕ) : Type 0 where
  pub sorts : ℕ → ℕ
  pub sorted : SortedPattern P store sorts p prop
  -- not too wide: each instance is concluded by a derivation of the class's shape
  pub derived : (j : Tree) → InstanceOf P store p j → Concludes P words c j
  -- not too narrow: whatever such a derivation concludes is an instance
  pub instances : (j : Tree) → Concludes P words c j → InstanceOf P store p j

-- it stays so when the store grows
pub exact_grows : (P : Pack) (words : List ℕ) (s t : List Node) (p c : ℕ) → Earlier s → Grows s t → Exact P words s p c → Exact P words t p c
exact_grows P words s t p c E G X =
    let l = sorted_inside P s X.sorts p prop X.sorted in
    record {
      sorts = X.sorts;
      sorted = sorted_grows P s t X.sorts G p prop X.sorted;
      derived = λ j i. X.derived j (instance_before P s t p j E G l i);
      instances = λ j d. instance_grows P s t p j E G l (X.instances j d);
    }

-- a good state of class building
pub record BuiltGood (P : Pack) (words : List ℕ) (b : Built) : Type 0 where
  pub earlier : Earlier b.store
  pub once : StoreOnce b.store
  pub classes : (c : ℕ) → c < length b.classes → Exact P words b.store (get_or b.classes c no_class).conclusion c

-- one class more
pub built-more : (P : Pack) (words : List ℕ) (b : Built) (store : List Node) (x : Class) (fill : ℕ) → BuiltGood P words b → Grows b.store store → Earlier store → StoreOnce store
    → Exact P words store x.conclusion (length b.classes) → BuiltGood P words (record { store = store; classes = b.classes ++ (x ∷ []); fill = fill })
built-more P words b store x fill B G E O X =
    let xs = b.classes in
    record {
      earlier = E;
      once = O;
      classes = λ c h. elim (see (eqb c (length xs))) [
        | is true p ↦
            let e = eqb-true c (length xs) p in
            let q : get_or (xs ++ (x ∷ [])) c no_class ≡ x = ap (λ (i : ℕ). get_or (xs ++ (x ∷ [])) i no_class) e ∙ get_or_at xs x [] no_class (length xs) refl in
            rw (q, e) X
        | is false p ↦
            let l = length-append xs (x ∷ []) in
            let o : c < length xs = omega tests in
            rw (get_or-append xs (x ∷ []) no_class c o) (exact_grows P words b.store store (get_or xs c no_class).conclusion c B.earlier G (B.classes c o))
      ];
    }

-- a class's number is at most its first step's
pub class_low : (P : Pack) → Good P → (c : ℕ) → c < length (keyed P).classes → c ≤ (get_or (keyed P).classes c no_keyed).first
class_low P G zero h = omega arith
class_low P G (suc c) h =
    let i = class_low P G c (omega arith) in
    let o = (keyed-kept P G).0.ordered c (suc c) (omega arith) h in
    omega arith

-- a step of a class is needed, and has the class's key
pub class_step : (P : Pack) → Good P → length P.steps < nothing → (c : ℕ) → c < length (keyed P).classes → (s : ℕ) → StepOf P (keyed P).words c s
    → Among s (needed P) × (key_of P (keyed P).words s ≡ (get_or (keyed P).classes c no_keyed).key)
class_step P G few c h s S =
    let K = keyed-kept P G in
    let l : s < length (keyed P).words = omega (arith, K.1, S.given) in
    elim (see (any (eqb s) (needed P))) [
      | is true n ↦ (n, sym (K.0.classed s l n).1 ∙ ap (λ (i : ℕ). (get_or (keyed P).classes i no_keyed).key) S.word)
      | is false n ↦
          let e : nothing ≡ c = sym (K.0.unneeded s l n) ∙ S.word in
          let f = class_low P G c h in
          let b = K.0.begun c h in
          absurd (omega (arith, b.0, K.1))
    ]
