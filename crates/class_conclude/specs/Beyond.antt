-- Ground values are of nodes of the graph, by the definition alone: a node that comes in later has none.
use Rattle.std.specs.Prelude.{◌≡◌, refl, Bool, eqb, length}
use Rattle.std.proofs.Math.Path.{subst}
use Rattle.std.proofs.Math.Bool.{true, false}
use mathlib.Core.List.{List, [], ◌∷◌}
use Rattle.std.proofs.Math.Option.{Option, none, some}
use Prim.Native.Nat.{ℕ, zero, suc, ◌≤◌, ◌<◌}
use Rattle.std.proofs.Common.{arith, eqb-true}
use Rattle.definition.specs.Test.{is, see, never}
use Rattle.definition.specs.Pack.{Pack, node_of}
use Rattle.definition.specs.Good.{Below}
use Rattle.definition.specs.Verdict.{Bound, value_of, provided}
use Rattle.definition.specs.Graph.{Graph, vertex, root, is_var}
use Rattle.definition.specs.Analysis.{pairing, value_at, valued}
use Rattle.definition.proofs.Laws.Agreement.{onwards_some}
use Rattle.theory.specs.Unification.Forest.{Forest, root_inside}
use Rattle.theory.specs.Unification.Inner.{Inner}

-- these are of numbers below n
abbrev pub Within : ℕ → List Bound → Type 0
Within n [] = Unit {0}
Within n (b ∷ bs) = (b.variable < n) × Within n bs

-- so others have none
pub within_none : (n : ℕ) (vs : List Bound) (r : ℕ) → Within n vs → n ≤ r → value_of r vs ≡ none
unfolding value_of
within_none n [] r h l = refl
within_none n (b ∷ vs) r h l = elim (see (eqb b.variable r)) [
  | is true p ↦ absurd (omega (arith, eqb-true b.variable r p, h.0))
  | is false p ↦ rw (p, value_of) (within_none n vs r h.1 l)
]

-- what a test lets through
let_through : (t : Bool) (o : Option (List Bound)) (ws : List Bound) → provided t o ≡ some ws → o ≡ some ws
unfolding provided
let_through true o ws e = e
let_through false o ws e = never (cc)

-- there is one such list
some_eq : {us ws : List Bound} → some us ≡ some ws → us ≡ ws
some_eq e = cc

module _ (P : Pack) (g : Graph) (F : Forest g) (I : Inner g) where
  -- a root's, if those below it are
  root-within : (deeper : List ℕ → List ℕ → List Bound → Option (List Bound)) → ((ys ms : List ℕ) (us ws : List Bound) → Below (length g) ys → Within (length g) us → deeper ys ms us ≡ some ws → Within (length g) ws)
      → (r n : ℕ) (vs ws : List Bound) → r < length g → Within (length g) vs → value_at P g deeper r n vs ≡ some ws → Within (length g) ws
  unfolding value_at
  root-within deeper ih r n vs ws l h e = elim (see (value_of r vs)) [
    | is (some m) p ↦ subst (Within (length g)) (some_eq (let_through (eqb m n) (some vs) ws (rw (p, value_at) at e))) h
    | is none p ↦ elim (see (is_var (vertex g r))) [
      | is true v ↦ let q : some (pairing r n ∷ vs) ≡ some ws = rw (p, value_at, v) at e in subst (Within (length g)) (some_eq q) (l, h)
      | is false v ↦
          let q = let_through (eqb (vertex g r).head (node_of P n).head) (deeper (vertex g r).args (node_of P n).args (pairing r n ∷ vs)) ws (rw (p, value_at, v) at e) in
          ih (vertex g r).args (node_of P n).args (pairing r n ∷ vs) ws (I r l) (l, h) q
    ]
  ]

  -- whatever nodes' values are asked for
  pub valued-within : (d : ℕ) (xs ns : List ℕ) (vs ws : List Bound) → Below (length g) xs → Within (length g) vs → valued d P g xs ns vs ≡ some ws → Within (length g) ws
  unfolding valued
  valued-within zero [] [] vs ws b h e = subst (Within (length g)) (some_eq e) h
  valued-within zero [] (n ∷ ns) vs ws b h e = never (cc)
  valued-within zero (x ∷ xs) [] vs ws b h e = never (cc)
  valued-within zero (x ∷ xs) (n ∷ ns) vs ws b h e = never (cc)
  valued-within (suc d) [] [] vs ws b h e = subst (Within (length g)) (some_eq e) h
  valued-within (suc d) [] (n ∷ ns) vs ws b h e = never (cc)
  valued-within (suc d) (x ∷ xs) [] vs ws b h e = never (cc)
  valued-within (suc d) (x ∷ xs) (n ∷ ns) vs ws b h e =
      let q = onwards_some (value_at P g (λ ys ms us. valued d P g ys ms us) (root g x) n vs) (λ us. valued (suc d) P g xs ns us) ws e in
      let i = root-within (λ ys ms us. valued d P g ys ms us) (λ ys ms us zs c k f. valued-within d ys ms us zs c k f) (root g x) n vs q.0 (root_inside g F x b.0) h q.1 in
      valued-within (suc d) xs ns q.0 ws b.1 i q.2

  -- a node that comes in later has none
  pub valued_beyond : (d : ℕ) (xs ns : List ℕ) (ws : List Bound) → Below (length g) xs → valued d P g xs ns [] ≡ some ws → (r : ℕ) → length g ≤ r → value_of r ws ≡ none
  valued_beyond d xs ns ws b e r l = within_none (length g) ws r (valued-within d xs ns [] ws b tt e) l
