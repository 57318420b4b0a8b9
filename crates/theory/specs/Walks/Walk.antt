-- One memoised post-order walk: what it gives, how much it takes, and that neither depends on the fuel. Machine.antt has its stack.
use Rattle.std.specs.Prelude.{◌≡◌, Bool, length, get_or}
use Rattle.std.proofs.Math.Path.{refl, sym, ap, ap₂}
use Rattle.std.proofs.Common.{◌∙◌}
use Rattle.std.proofs.Math.Bool.{true, false}
use mathlib.Core.List.{List, [], ◌∷◌}
use Prim.Native.Nat.{ℕ, zero, suc, ◌+◌, ◌<◌, ◌≤◌}
use native.Mathlib.Omega.{arith}
use Rattle.definition.specs.Test.{is, see}
use Rattle.definition.specs.Good.{Below}

-- each node of a list has a rank below d
abbrev pub Under : (ℕ → ℕ) → ℕ → List ℕ → Type 0
Under rank d [] = Unit {0}
Under rank d (x ∷ xs) = (rank x < d) × Under rank d xs

-- ranks below d are below what is no less
pub under_more : (rank : ℕ → ℕ) (d e : ℕ) (xs : List ℕ) → d ≤ e → Under rank d xs → Under rank e xs
under_more rank d e [] h u = tt
under_more rank d e (x ∷ xs) h u = (omega (arith, u.0), under_more rank d e xs h u.1)

-- the node at each place has a rank below d
pub under_at : (rank : ℕ → ℕ) (d : ℕ) (xs : List ℕ) (i : ℕ) → Under rank d xs → i < length xs → rank (get_or xs i 0) < d
under_at rank d [] i u h = absurd (omega arith)
under_at rank d (x ∷ xs) zero u h = u.0
under_at rank d (x ∷ xs) (suc i) u h = under_at rank d xs i u.1 (omega arith)

-- where a number is its own rank, numbers below d have ranks below d
pub below-under : (d : ℕ) (xs : List ℕ) → Below d xs → Under (λ n. n) d xs
below-under d [] b = tt
below-under d (x ∷ xs) b = (b.0, below-under d xs b.1)

-- each node of a list is known
abbrev pub Known : {S : Type 0} → (S → ℕ → Bool) → S → List ℕ → Type 0
Known known s [] = Unit {0}
Known known s (x ∷ xs) = (known s x ≡ true) × Known known s xs

-- what stands below a node, whether a node has its result, and how it gets it when all below it have theirs
module _ {S : Type 0} (kids : ℕ → List ℕ) (known : S → ℕ → Bool) (finish : ℕ → S → S) where
  -- a known node is passed over; else what is below it is walked by `deeper`, then it is finished
  unfoldable pub visit : (List ℕ → S → S) → ℕ → S → S
  visit deeper x s = elim (known s x) [ true ↦ s | false ↦ finish x (deeper (kids x) s) ]

  -- nodes in their order, at most d deep
  unfoldable pub walk : ℕ → List ℕ → S → S
  unfolding visit
  walk zero [] s = s
  walk zero (x ∷ xs) s = s
  walk (suc d) [] s = s
  walk (suc d) (x ∷ xs) s = walk (suc d) xs (visit (λ ys t. walk d ys t) x s)

  -- the kids of a node that is visited and finished, and of those finished below it
  unfoldable pub visit_effort : (List ℕ → S → ℕ) → ℕ → S → ℕ
  visit_effort deeper x s = elim (known s x) [ true ↦ 0 | false ↦ length (kids x) + deeper (kids x) s ]

  -- how many kids the nodes have that the walk finishes
  unfoldable pub effort : ℕ → List ℕ → S → ℕ
  unfolding visit walk visit_effort
  effort zero [] s = 0
  effort zero (x ∷ xs) s = 0
  effort (suc d) [] s = 0
  effort (suc d) (x ∷ xs) s = visit_effort (λ ys t. effort d ys t) x s + effort (suc d) xs (visit (λ ys t. walk d ys t) x s)

  -- nothing is walked for no node
  pub walk_none : (d : ℕ) (s : S) → walk d [] s ≡ s
  unfolding walk
  walk_none zero s = refl
  walk_none (suc d) s = refl

  -- no node, no effort
  pub effort-none : (d : ℕ) (s : S) → effort d [] s ≡ 0
  unfolding effort
  effort-none zero s = refl
  effort-none (suc d) s = refl

  -- a known node changes nothing
  pub walk-known : (d x : ℕ) (s : S) → known s x ≡ true → walk d (x ∷ []) s ≡ s
  unfolding walk
  walk-known zero x s k = refl
  walk-known (suc d) x s k = rw (k, visit)

  -- a known node takes no effort
  pub effort-known : (d x : ℕ) (s : S) → known s x ≡ true → effort d (x ∷ []) s ≡ 0
  unfolding effort
  effort-known zero x s k = refl
  effort-known (suc d) x s k = rw (k, visit_effort)

  -- the first node, then the others
  pub walk_then : (d x : ℕ) (xs : List ℕ) (s : S) → walk d (x ∷ xs) s ≡ walk d xs (walk d (x ∷ []) s)
  unfolding walk
  walk_then zero x [] s = refl
  walk_then zero x (y ∷ xs) s = refl
  walk_then (suc d) x xs s = refl

  -- the effort of the first node, then of the others
  pub effort_then : (d x : ℕ) (xs : List ℕ) (s : S) → effort d (x ∷ xs) s ≡ effort d (x ∷ []) s + effort d xs (walk d (x ∷ []) s)
  unfolding effort
  effort_then zero x [] s = refl
  effort_then zero x (y ∷ xs) s = refl
  effort_then (suc d) x xs s = omega arith

  -- ranks that fall from a node to its kids
  module _ (rank : ℕ → ℕ) (falls : (x : ℕ) → Under rank (rank x) (kids x)) where
    -- what the fuel d leaves for the kids of a node
    pub kids_under : (d x : ℕ) → rank x < suc d → Under rank d (kids x)
    kids_under d x h = under_more rank (rank x) d (kids x) (omega arith) (falls x)

    -- the fuel does not matter where it exceeds the ranks
    pub walk_fuel : (d e : ℕ) (xs : List ℕ) (s : S) → Under rank d xs → Under rank e xs → walk d xs s ≡ walk e xs s
    unfolding walk
    walk_fuel zero e [] s u v = sym (walk_none e s)
    walk_fuel zero e (x ∷ xs) s u v = absurd (omega (arith, u.0))
    walk_fuel (suc d) zero [] s u v = refl
    walk_fuel (suc d) zero (x ∷ xs) s u v = absurd (omega (arith, v.0))
    walk_fuel (suc d) (suc e) [] s u v = refl
    walk_fuel (suc d) (suc e) (x ∷ xs) s u v =
        let deep = walk_fuel d e (kids x) s (kids_under d x u.0) (kids_under e x v.0) in
        let first : visit (λ ys t. walk d ys t) x s ≡ visit (λ ys t. walk e ys t) x s = elim (see (known s x)) [
          | is true k ↦ rw (k, visit)
          | is false k ↦ rw (k, visit, deep)
        ] in
        ap (walk (suc d) xs) first ∙ walk_fuel (suc d) (suc e) xs (visit (λ ys t. walk e ys t) x s) u.1 v.1

    -- nor does it matter to the effort
    pub effort_fuel : (d e : ℕ) (xs : List ℕ) (s : S) → Under rank d xs → Under rank e xs → effort d xs s ≡ effort e xs s
    unfolding effort
    effort_fuel zero e [] s u v = sym (effort-none e s)
    effort_fuel zero e (x ∷ xs) s u v = absurd (omega (arith, u.0))
    effort_fuel (suc d) zero [] s u v = refl
    effort_fuel (suc d) zero (x ∷ xs) s u v = absurd (omega (arith, v.0))
    effort_fuel (suc d) (suc e) [] s u v = refl
    effort_fuel (suc d) (suc e) (x ∷ xs) s u v =
        let deep = effort_fuel d e (kids x) s (kids_under d x u.0) (kids_under e x v.0) in
        let first : visit_effort (λ ys t. effort d ys t) x s ≡ visit_effort (λ ys t. effort e ys t) x s = elim (see (known s x)) [
          | is true k ↦ rw (k, visit_effort)
          | is false k ↦ rw (k, visit_effort, deep)
        ] in
        let rest = effort_fuel (suc d) (suc e) xs (visit (λ ys t. walk d ys t) x s) u.1 v.1 in
        let same : visit (λ ys t. walk d ys t) x s ≡ visit (λ ys t. walk e ys t) x s = walk_fuel (suc d) (suc e) (x ∷ []) s (u.0, tt) (v.0, tt) in
        ap₂ ◌+◌ first (rest ∙ ap (effort (suc e) xs) same)

    -- a node that is not known: its kids are walked, then it is finished
    pub walk_open : (d x : ℕ) (s : S) → rank x < d → known s x ≡ false → walk d (x ∷ []) s ≡ finish x (walk d (kids x) s)
    unfolding walk
    walk_open zero x s h k = absurd (omega arith)
    walk_open (suc d) x s h k =
        let u = kids_under d x h in
        let e = walk_fuel d (suc d) (kids x) s u (under_more rank d (suc d) (kids x) (omega arith) u) in
        rw (k, visit) (ap (finish x) e)

    -- the effort of a node that is not known: its kids, and what they take
    pub effort_open : (d x : ℕ) (s : S) → rank x < d → known s x ≡ false → effort d (x ∷ []) s ≡ length (kids x) + effort d (kids x) s
    unfolding effort
    effort_open zero x s h k = absurd (omega arith)
    effort_open (suc d) x s h k =
        let u = kids_under d x h in
        let e = effort_fuel d (suc d) (kids x) s u (under_more rank d (suc d) (kids x) (omega arith) u) in
        rw (k, visit_effort) (omega arith)

    -- a relation of nodes and the states before and after: it holds of no node and of a known one, and is handed on from the kids to a
    -- node that is finished, and from one node and others to all
    module _ (Q : List ℕ → S → S → Type 0)
        (none : (s : S) → Q [] s s)
        (old : (x : ℕ) (s : S) → known s x ≡ true → Q (x ∷ []) s s)
        (new : (x : ℕ) (s t : S) → known s x ≡ false → Q (kids x) s t → Q (x ∷ []) s (finish x t))
        (both : (x : ℕ) (xs : List ℕ) (s t u : S) → Q (x ∷ []) s t → Q xs t u → Q (x ∷ xs) s u) where
      -- then it holds of every walk that has enough fuel
      pub walk-induct : (d : ℕ) (xs : List ℕ) (s : S) → Under rank d xs → Q xs s (walk d xs s)
      unfolding walk
      walk-induct zero [] s u = none s
      walk-induct zero (x ∷ xs) s u = absurd (omega (arith, u.0))
      walk-induct (suc d) [] s u = none s
      walk-induct (suc d) (x ∷ xs) s u =
          let t = visit (λ ys r. walk d ys r) x s in
          let first : Q (x ∷ []) s t = elim (see (known s x)) [
            | is true k ↦ rw (k, visit) (old x s k)
            | is false k ↦ rw (k, visit) (new x s (walk d (kids x) s) k (walk-induct d (kids x) s (kids_under d x u.0)))
          ] in
          both x xs s t (walk (suc d) xs t) first (walk-induct (suc d) xs t u.1)

-- an image of the state on which the same nodes are known, and that goes along with finishing: the walk's image is the image's walk
pub walk_image : {S T : Type 0} (kids : ℕ → List ℕ) (known : S → ℕ → Bool) (finish : ℕ → S → S) (known' : T → ℕ → Bool) (finish' : ℕ → T → T) (image : S → T)
    → ((s : S) (x : ℕ) → known' (image s) x ≡ known s x) → ((x : ℕ) (s : S) → image (finish x s) ≡ finish' x (image s))
    → (d : ℕ) (xs : List ℕ) (s : S) → image (walk kids known finish d xs s) ≡ walk kids known' finish' d xs (image s)
unfolding walk
walk_image kids known finish known' finish' image same along zero [] s = refl
walk_image kids known finish known' finish' image same along zero (x ∷ xs) s = refl
walk_image kids known finish known' finish' image same along (suc d) [] s = refl
walk_image {S} {T} kids known finish known' finish' image same along (suc d) (x ∷ xs) s =
    let deeper : List ℕ → S → S = λ ys t. walk kids known finish d ys t in
    let deeper' : List ℕ → T → T = λ ys t. walk kids known' finish' d ys t in
    let first : image (visit kids known finish deeper x s) ≡ visit kids known' finish' deeper' x (image s) = elim (see (known s x)) [
      | is true k ↦ let k' = same s x ∙ k in rw (k, k', visit)
      | is false k ↦
          let k' = same s x ∙ k in
          let ih = walk_image kids known finish known' finish' image same along d (kids x) s in
          rw (k, k', visit) (along x (deeper (kids x) s) ∙ ap (finish' x) ih)
    ] in
    walk_image kids known finish known' finish' image same along (suc d) xs (visit kids known finish deeper x s) ∙ ap (walk kids known' finish' (suc d) xs) first
