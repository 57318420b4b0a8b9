-- Raising only adds to the memo: what was raised before stays in it as it was, and what is raised now is there.
use Rattle.std.specs.Prelude.{◌≡◌, eqb}
use Rattle.std.proofs.Math.Path.{sym}
use Rattle.std.proofs.Common.{◌∙◌}
use Rattle.std.proofs.Math.Bool.{true, false}
use mathlib.Core.List.{List, [], ◌∷◌}
use Rattle.std.proofs.Math.Option.{none, some}
use Prim.Native.Nat.{ℕ, zero, suc}
use Rattle.definition.specs.Test.{is, see, never}
use Rattle.definition.specs.Verdict.{Bound, value_of}
use Rattle.definition.specs.Store.{intern}
use Rattle.definition.specs.Graph.{Graph, vertex, root, is_var}
use Rattle.definition.specs.Analysis.{pairing}
use Rattle.emission.specs.Global.{node_of_l, Reading, RaisedOne, Raised, raises_none, raise_root, raise_one, raise_next, raise}
use Rattle.theory.specs.Copies.Copying.{value_of_new, value_of_old, value_apart}

-- what a memo has another has
abbrev pub Stays : List Bound → List Bound → Type 0
Stays m n = (r p : ℕ) → value_of r m ≡ some p → value_of r n ≡ some p

-- from one memo to the next
pub stays_then : (l m n : List Bound) → Stays l m → Stays m n → Stays l n
stays_then l m n A B r p e = B r p (A r p e)

-- a root more that the memo hadn't
stays_more : (m n : List Bound) (r p : ℕ) → value_of r m ≡ none → Stays m n → Stays m (pairing r p ∷ n)
stays_more m n r p e A q o f = value_of_old r p n q (value_apart m q r o f e) ∙ A q o f

-- what raising one root does to the memo
record One (r : ℕ) (m : Reading) (R : RaisedOne) : Type 0 where
  stays : Stays m.memo R.reading.memo
  there : (p : ℕ) → R.pattern ≡ some p → value_of r R.reading.memo ≡ some p

-- nodes whose roots the memo has with these patterns
abbrev pub Noted : Graph → List Bound → List ℕ → List ℕ → Type 0
Noted g memo [] [] = Unit {0}
Noted g memo [] (p ∷ ps) = ⊥
Noted g memo (x ∷ xs) [] = ⊥
Noted g memo (x ∷ xs) (p ∷ ps) = (value_of (root g x) memo ≡ some p) × Noted g memo xs ps

-- what raising nodes does to it
pub record Notes (g : Graph) (xs : List ℕ) (m : Reading) (R : Raised) : Type 0 where
  pub stays : Stays m.memo R.reading.memo
  pub there : (ps : List ℕ) → R.patterns ≡ some ps → Noted g R.reading.memo xs ps

module _ (g : Graph) where
  next-notes : (x : ℕ) (xs : List ℕ) (m : Reading) (first : RaisedOne) → One (root g x) m first → (rest : Reading → Raised) → ((k : Reading) → Notes g xs k (rest k)) → Notes g (x ∷ xs) m (raise_next first rest)
  unfolding raise_next
  next-notes x xs m first F rest ih =
      let others = rest first.reading in
      let O = ih first.reading in
      let A = stays_then m.memo first.reading.memo others.reading.memo F.stays O.stays in
      elim (see first.pattern) [
        | is none e ↦ rw (e, raise_next) (record { stays = F.stays; there = λ ps f. never (cc) })
        | is (some p) e ↦ elim (see others.patterns) [
          | is none f ↦ rw (e, f, raise_next) (record { stays = A; there = λ ps q. never (let z : none ≡ some ps = sym f ∙ q in cc) })
          | is (some ps) f ↦ rw (e, f, raise_next) (record { stays = A; there = λ qs q. let z : p ∷ ps ≡ qs = cc in rw (← z) (O.stays (root g x) p (F.there p e), O.there ps f) })
        ]
      ]

  asked-one : (anew : ℕ → Reading → RaisedOne) (r : ℕ) (m : Reading) → (value_of r m.memo ≡ none → One r m (anew r m)) → One r m (raise_one anew r m)
  unfolding raise_one
  asked-one anew r m A = elim (see (value_of r m.memo)) [
    | is none e ↦ rw (e, raise_one) (A e)
    | is (some p) e ↦ rw (e, raise_one) (record { stays = λ q o f. f; there = λ q f. let z : p ≡ q = cc in rw (← z) e })
  ]

  none-one : (r : ℕ) (m k : Reading) → Stays m.memo k.memo → One r m (raises_none k)
  none-one r m k A = record { stays = A; there = λ p e. never (cc) }

  root-one : (L : ℕ) (deeper : List ℕ → Reading → Raised) → ((ys : List ℕ) (k : Reading) → Notes g ys k (deeper ys k)) → (r : ℕ) (m : Reading) → value_of r m.memo ≡ none → One r m (raise_root L g deeper r m)
  unfolding raise_root
  root-one L deeper ih r m n = elim (see (is_var (vertex g r))) [
    | is true v ↦ elim (see (eqb r node_of_l)) [
      | is true e ↦ rw (v, e, raise_root) (record { stays = stays_more m.memo m.memo r L n (λ q o f. f); there = λ p f. let z : L ≡ p = cc in rw (← z) (value_of_new r L m.memo) })
      | is false e ↦ rw (v, e, raise_root) (none-one r m m (λ q o f. f))
    ]
    | is false v ↦
        let args = deeper (vertex g r).args m in
        let A = ih (vertex g r).args m in
        elim (see args.patterns) [
          | is none e ↦ rw (v, e, raise_root) (none-one r m args.reading A.stays)
          | is (some ps) e ↦
              let k = (intern args.reading.store (record { head = (vertex g r).head; args = ps })).number in
              rw (v, e, raise_root) (record { stays = stays_more m.memo args.reading.memo r k n A.stays; there = λ p f. let z : k ≡ p = cc in rw (← z) (value_of_new r k args.reading.memo) })
        ]
  ]

  -- nodes raised, however many levels are left
  pub raise-notes : (d L : ℕ) (xs : List ℕ) (m : Reading) → Notes g xs m (raise d L g xs m)
  unfolding raise
  raise-notes zero L [] m = record { stays = λ q o f. f; there = λ ps e. let z : [] ≡ ps = cc in rw (← z) tt }
  raise-notes zero L (x ∷ xs) m =
      let anew : ℕ → Reading → RaisedOne = λ r k. raises_none k in
      next-notes x xs m (raise_one anew (root g x) m) (asked-one anew (root g x) m (λ e. none-one (root g x) m m (λ q o f. f))) (λ k. raise zero L g xs k) (λ k. raise-notes zero L xs k)
  raise-notes (suc d) L [] m = record { stays = λ q o f. f; there = λ ps e. let z : [] ≡ ps = cc in rw (← z) tt }
  raise-notes (suc d) L (x ∷ xs) m =
      let anew : ℕ → Reading → RaisedOne = λ r k. raise_root L g (λ ys l. raise d L g ys l) r k in
      next-notes x xs m (raise_one anew (root g x) m) (asked-one anew (root g x) m (λ e. root-one L (λ ys l. raise d L g ys l) (λ ys k. raise-notes d L ys k) (root g x) m e)) (λ k. raise (suc d) L g xs k) (λ k. raise-notes (suc d) L xs k)
