-- Laws of `resolve`: node by node, at whatever depth is enough; and what the state has it finds.
use Rattle.std.specs.Prelude.{◌≡◌, Bool}
use Rattle.std.proofs.Math.Path.{refl, sym, ap}
use Rattle.std.proofs.Common.{◌∙◌, arith}
use Rattle.std.proofs.Math.Bool.{true, false}
use mathlib.Core.List.{List, [], ◌∷◌, map}
use Prim.Native.Nat.{ℕ, zero, suc, ◌<◌}
use Rattle.std.proofs.Math.ListN.{get_or}
use Rattle.definition.specs.Test.{is, see, never}
use Rattle.definition.specs.Pack.{Pack}
use Rattle.definition.specs.Tree.{tree_of}
use Rattle.definition.specs.Verdict.{Bound}
use Rattle.definition.specs.Store.{variable_node, Stored}
use Rattle.definition.specs.Graph.{Graph, vertex, root, is_var}
use Rattle.definition.specs.Analysis.{copied, Numbered, ResolvedOne, Resolved, resolve_variable, resolve_at, resolve}
use Rattle.theory.specs.Walks.Walk.{Under}
use Rattle.theory.specs.Walks.Again.{headed, intern-placed, lift_had}
use Rattle.theory.specs.Walks.Levels.{arg_roots, args-under}
use Rattle.theory.specs.Walks.Reading.{numbered_as, resolved_one, resolved_as, Reads, by_number, by_value, by_head, ReadsAll, no_reads, reads_then}

module _ (P : Pack) (g : Graph) (values : List Bound) (everyone : Bool) where
  -- roots are read back alike if what is below them is
  pub at_same : (f h : List ℕ → Numbered → Resolved) (r : ℕ) (st t : Numbered) → (is_var (vertex g r) ≡ true → st ≡ t) → (is_var (vertex g r) ≡ false → f (vertex g r).args st ≡ h (vertex g r).args t)
      → resolve_at P g values everyone f r st ≡ resolve_at P g values everyone h r t
  unfolding resolve_at
  at_same f h r st t a b = elim (see (is_var (vertex g r))) [
    | is true v ↦ rw (v, resolve_at) (ap (resolve_variable P g values everyone r) (a v))
    | is false v ↦ rw (v, resolve_at, b v)
  ]

  -- one node, and those after it
  pub resolve_then : (d x : ℕ) (xs : List ℕ) (st t : Numbered) (p : ℕ) → resolve_at P g values everyone (λ ys s. resolve d P g values everyone ys s) (root g x) st ≡ resolved_one p t
      → let o = resolve (suc d) P g values everyone xs t in resolve (suc d) P g values everyone (x ∷ xs) st ≡ resolved_as (p ∷ o.patterns) o.state
  unfolding resolve
  resolve_then d x xs st t p e =
      ap (λ (o : ResolvedOne). let r = resolve (suc d) P g values everyone xs o.state in resolved_as (o.pattern ∷ r.patterns) r.state) e

  -- one node by itself
  pub resolve-one : (d x : ℕ) (st t : Numbered) (p : ℕ) → resolve (suc d) P g values everyone (x ∷ []) st ≡ resolved_as (p ∷ []) t
      → resolve_at P g values everyone (λ ys s. resolve d P g values everyone ys s) (root g x) st ≡ resolved_one p t
  unfolding resolve
  resolve-one d x st t p e =
      let o = resolve_at P g values everyone (λ ys s. resolve d P g values everyone ys s) (root g x) st in
      let a : o.pattern ≡ p = ap (λ (r : Resolved). get_or r.patterns 0 0) e in
      let b : o.state ≡ t = ap (λ (r : Resolved). r.state) e in
      λ i. resolved_one (a i) (b i)

  -- no node
  pub resolve-none : (d : ℕ) (st : Numbered) → resolve d P g values everyone [] st ≡ resolved_as [] st
  unfolding resolve
  resolve-none zero st = refl
  resolve-none (suc d) st = refl

  -- ranks that fall from a root to its arguments' roots
  module _ (rank : ℕ → ℕ) (falls : (x : ℕ) → Under rank (rank x) (arg_roots g x)) where
    -- the depth does not matter where it exceeds the ranks
    pub resolve_deep : (d e : ℕ) (xs : List ℕ) (st : Numbered) → Under rank d (map (root g) xs) → Under rank e (map (root g) xs) → resolve d P g values everyone xs st ≡ resolve e P g values everyone xs st
    unfolding resolve
    resolve_deep zero e [] st u w = sym (resolve-none e st)
    resolve_deep zero e (x ∷ xs) st u w = absurd (omega (arith, u.0))
    resolve_deep (suc d) zero [] st u w = refl
    resolve_deep (suc d) zero (x ∷ xs) st u w = absurd (omega (arith, w.0))
    resolve_deep (suc d) (suc e) [] st u w = refl
    resolve_deep (suc d) (suc e) (x ∷ xs) st u w =
        let r = root g x in
        let first = at_same (λ ys s. resolve d P g values everyone ys s) (λ ys s. resolve e P g values everyone ys s) r st st (λ v. refl)
        (λ v. resolve_deep d e (vertex g r).args st (args-under g rank falls d r u.0 v) (args-under g rank falls e r w.0 v)) in
        let o = resolve_at P g values everyone (λ ys s. resolve e P g values everyone ys s) r st in
        resolve_then d x xs st o.state o.pattern first
        ∙ ap (λ (q : Resolved). resolved_as (o.pattern ∷ q.patterns) q.state) (resolve_deep (suc d) (suc e) xs o.state u.1 w.1)
        ∙ sym (resolve_then e x xs st o.state o.pattern refl)

    mutual
      unfolding resolve_at resolve_variable

      -- a root that the state has is read back as what it is, and the state stays
      at_reads : (d r : ℕ) (st : Numbered) (p : ℕ) → rank r < suc d → Reads P g values everyone st r p
          → resolve_at P g values everyone (λ ys s. resolve d P g values everyone ys s) r st ≡ resolved_one p st
      at_reads d _ st _ h (by_number r p k v n e) =
          rw (v, resolve_at, n, resolve_variable) (ap (λ (o : Stored). resolved_one o.number (numbered_as st.numbering o.store)) (intern-placed st.store (variable_node k (vertex g r).sort) p e))
      at_reads d _ st _ h (by_value r p v n f e) =
          rw (v, resolve_at, n, resolve_variable, f) (ap (λ (o : Stored). resolved_one o.number (numbered_as st.numbering o.store)) (lift_had st.store (tree_of P (copied values r)) p e))
      at_reads d _ st _ h (by_head r p rs ps v q R e) =
          let below = reads_back st rs ps R d (vertex g r).args (args-under g rank falls d r h v) (sym q) in
          rw (v, resolve_at, below) (ap (λ (o : Stored). resolved_one o.number (numbered_as st.numbering o.store)) (intern-placed st.store (headed (vertex g r).head ps) p e))

      -- and nodes by their roots
      pub reads_back : (st : Numbered) (rs ps : List ℕ) → ReadsAll P g values everyone st rs ps → (d : ℕ) (xs : List ℕ) → Under rank d (map (root g) xs) → map (root g) xs ≡ rs
          → resolve d P g values everyone xs st ≡ resolved_as ps st
      reads_back st _ _ no_reads d [] u q = resolve-none d st
      reads_back st _ _ no_reads d (x ∷ xs) u q = never (cc)
      reads_back st _ _ (reads_then r p rs ps R Rs) d [] u q = never (cc)
      reads_back st _ _ (reads_then r p rs ps R Rs) zero (x ∷ xs) u q = absurd (omega (arith, u.0))
      reads_back st _ _ (reads_then r p rs ps R Rs) (suc d) (x ∷ xs) u q =
          let a : root g x ≡ r = cc in
          let b : map (root g) xs ≡ rs = cc in
          resolve_then d x xs st st p (ap (λ (y : ℕ). resolve_at P g values everyone (λ ys s. resolve d P g values everyone ys s) y st) a ∙ at_reads d r st p (rw (← a) u.0) R)
          ∙ ap (λ (o : Resolved). resolved_as (p ∷ o.patterns) o.state) (reads_back st rs ps Rs (suc d) xs u.1 b)
