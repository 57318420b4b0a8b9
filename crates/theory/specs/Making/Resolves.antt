-- Terms read back one by one: what stands in front is read first, and each gives one pattern.
use Rattle.std.specs.Prelude.{◌≡◌, Bool, length}
use Rattle.std.proofs.Math.Path.{refl, ap}
use Rattle.std.proofs.Common.{◌∙◌, arith}
use mathlib.Core.List.{List, [], ◌∷◌, ◌++◌}
use Prim.Native.Nat.{ℕ, zero, suc, ◌≤◌}
use Rattle.definition.specs.Pack.{Pack}
use Rattle.definition.specs.Verdict.{Bound}
use Rattle.definition.specs.Graph.{Graph, root}
use Rattle.definition.specs.Analysis.{Numbered, Resolved, resolve_at, resolve}

-- what was read back, and then more from there on
abbrev pub joined : Resolved → (Numbered → Resolved) → Resolved
joined a f = record { patterns = a.patterns ++ (f a.state).patterns; state = (f a.state).state }

-- what is read back, with a pattern in front
abbrev led : ℕ → Resolved → Resolved
led p r = record { patterns = p ∷ r.patterns; state = r.state }

module _ (d : ℕ) (P : Pack) (g : Graph) (values : List Bound) (everyone : Bool) where
  -- nothing to be read back
  pub resolve_nil : (st : Numbered) → resolve (suc d) P g values everyone [] st ≡ record { patterns = []; state = st }
  unfolding resolve
  resolve_nil st = refl

  -- the first by itself, then the rest
  pub resolve_cons : (x : ℕ) (xs : List ℕ) (st : Numbered) → resolve (suc d) P g values everyone (x ∷ xs) st ≡ joined (resolve (suc d) P g values everyone (x ∷ []) st) (λ s. resolve (suc d) P g values everyone xs s)
  unfolding resolve
  resolve_cons x xs st = refl

  -- some, then others
  pub resolve-append : (xs ys : List ℕ) (st : Numbered) → resolve (suc d) P g values everyone (xs ++ ys) st ≡ joined (resolve (suc d) P g values everyone xs st) (λ s. resolve (suc d) P g values everyone ys s)
  unfolding resolve
  resolve-append [] ys st = refl
  resolve-append (x ∷ xs) ys st =
      let first = resolve_at P g values everyone (λ zs s. resolve d P g values everyone zs s) (root g x) st in
      ap (led first.pattern) (resolve-append xs ys first.state)

  -- one more behind what was read back
  pub resolve_snoc : (xs : List ℕ) (x : ℕ) (st : Numbered) (r s : Resolved) → resolve (suc d) P g values everyone xs st ≡ r → resolve (suc d) P g values everyone (x ∷ []) r.state ≡ s
      → resolve (suc d) P g values everyone (xs ++ (x ∷ [])) st ≡ record { patterns = r.patterns ++ s.patterns; state = s.state }
  resolve_snoc xs x st r s e f =
      resolve-append xs (x ∷ []) st ∙ ap (λ (q : Resolved). joined q (λ z. resolve (suc d) P g values everyone (x ∷ []) z)) e ∙ ap (λ (q : Resolved). record { patterns = r.patterns ++ q.patterns; state = q.state }) f

  -- each gives one pattern
  pub resolve-length : (xs : List ℕ) (st : Numbered) → length (resolve (suc d) P g values everyone xs st).patterns ≡ length xs
  unfolding resolve
  resolve-length [] st = refl
  resolve-length (x ∷ xs) st = ap suc (resolve-length xs (resolve_at P g values everyone (λ zs s. resolve d P g values everyone zs s) (root g x) st).state)

-- at no depth none is given
pub resolve-most : (d : ℕ) (P : Pack) (g : Graph) (values : List Bound) (everyone : Bool) (xs : List ℕ) (st : Numbered) → length (resolve d P g values everyone xs st).patterns ≤ length xs
unfolding resolve
resolve-most zero P g values everyone [] st = omega arith
resolve-most zero P g values everyone (x ∷ xs) st = omega arith
resolve-most (suc d) P g values everyone xs st = omega (arith, resolve-length d P g values everyone xs st)
