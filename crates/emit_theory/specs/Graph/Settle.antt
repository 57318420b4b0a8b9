-- Open variables set to their ground values: the graph stays well sorted, and keeps its nodes.
use Rattle.std.specs.Prelude.{◌≡◌, refl, eqb, length}
use Rattle.std.proofs.Common.{sym, ◌∙◌, arith}
use Rattle.std.proofs.Math.Bool.{true, false}
use mathlib.Core.List.{List, [], ◌∷◌}
use Prim.Native.Nat.{ℕ, zero, suc, ◌<◌}
use borrow.Author.Tests.{eqb-true}
use Rattle.definition.specs.Test.{is, see, any}
use Rattle.definition.specs.Pack.{Pack, symbol_of, node_of, sort_of}
use Rattle.definition.specs.Good.{Below, Arguments, Good, Few}
use Rattle.definition.specs.Graph.{Graph, vertex, root, is_var, bind}
use Rattle.definition.specs.Analysis.{copied}
use Rattle.emission.specs.Global.{node_of_l, Lowered, lower, Settling, settle_root, settle}
use Rattle.theory.specs.Unification.Solve.{sort_at, SortsAt}
use Rattle.theory.specs.Unification.Kept.{same-sort}
use Rattle.emit_theory.specs.Graph.Kept.{Keeps, keeps_refl, keeps_trans, keeps_begins, keeps_same, keeps_sort}
use Rattle.emit_theory.specs.Graph.Unify.{root_inside, root-sort, Relinked, bind_sorted}
use Rattle.emit_theory.specs.Graph.Lower.{Lowers, copied_lowered, lower_sorted}

-- nodes of a graph beside ground nodes of their sorts, as far as both go
abbrev pub Beside : Pack → Graph → List ℕ → List ℕ → Type 0
Beside P g [] ns = Unit {0}
Beside P g (x ∷ xs) [] = Unit {0}
Beside P g (x ∷ xs) (n ∷ ns) = (x < length g) × (n < length P.nodes) × (sort_at P g x ≡ sort_of P n) × Beside P g xs ns

-- they are so in a graph that keeps the nodes
pub beside-kept : (P : Pack) (g h : Graph) → Keeps g h → (xs ns : List ℕ) → Beside P g xs ns → Beside P h xs ns
beside-kept P g h k [] ns B = tt
beside-kept P g h k (x ∷ xs) [] B = tt
beside-kept P g h k (x ∷ xs) (n ∷ ns) B = (omega (arith, B.0, k.longer), B.1, keeps_sort P g h k x B.0 ∙ B.2, beside-kept P g h k xs ns B.3)

-- what settling from w on comes to
pub record Settles (P : Pack) (w v : Settling) : Type 0 where
  pub keeps : Keeps w.lowered.graph v.lowered.graph
  pub lowers : Lowers P v.lowered

-- nothing was settled
settles_refl : (P : Pack) (w : Settling) → Lowers P w.lowered → Settles P w w
settles_refl P w W = record { keeps = keeps_refl w.lowered.graph; lowers = W }

-- from one to the next
settles_trans : (P : Pack) (u v w : Settling) → Settles P u v → Settles P v w → Settles P u w
settles_trans P u v w a b = record { keeps = keeps_trans u.lowered.graph v.lowered.graph w.lowered.graph a.keeps b.keeps; lowers = b.lowers }

-- one head's arguments are beside each other
arguments_beside : (P : Pack) (g : Graph) (i : ℕ) → i < length P.nodes → (ss xs ns : List ℕ) → Below (length g) xs → SortsAt P g xs ss → Arguments P i ss ns → Beside P g xs ns
arguments_beside P g i l ss [] ns b q a = tt
arguments_beside P g i l ss (x ∷ xs) [] b q a = tt
arguments_beside P g i l [] (x ∷ xs) (n ∷ ns) b q a = absurd q
arguments_beside P g i l (so ∷ ss) (x ∷ xs) (n ∷ ns) b q a = (b.0, omega (arith, a.0), q.0 ∙ sym a.1, arguments_beside P g i l ss xs ns b.1 q.1 a.2)

-- a graph of the same nodes lowers the same
relinked_lowers : (P : Pack) (w : Lowered) (h : Graph) → Lowers P w → Relinked P w.graph h → Lowers P (record { graph = h; nodes = w.nodes })
relinked_lowers P w h W R =
    let m = R.same.long in
    record { sorted = R.sorted; nodes = λ n x e. let q = W.nodes n x e in (rw m q.0, same-sort P w.graph h R.same x ∙ q.1) }

module _ (P : Pack) (good : Good P) (few : Few P) where
  -- a variable takes its value
  variable-settled : (r n : ℕ) (w : Settling) → Lowers P w.lowered → r < length w.lowered.graph → n < length P.nodes → sort_at P w.lowered.graph r ≡ sort_of P n → (put : Lowered)
      → put ≡ lower (suc n) P (n ∷ []) w.lowered → Settles P w (record { lowered = record { graph = bind put.graph r (copied put.nodes n); nodes = put.nodes }; met = r ∷ w.met })
  variable-settled r n w W l m s put e =
      let g = w.lowered.graph in
      let h = put.graph in
      let O = lower_sorted P good few (suc n) (n ∷ []) w.lowered (omega arith, tt) (m, tt) W in
      let B : Keeps g h = rw e (keeps_begins g (lower (suc n) P (n ∷ []) w.lowered).graph O.0.begins) in
      let W' : Lowers P put = rw e O.0.lowers in
      let c : (copied put.nodes n < length h) × (sort_at P h (copied put.nodes n) ≡ sort_of P n) =
      rw e (copied_lowered P (lower (suc n) P (n ∷ []) w.lowered) O.0.lowers n O.1.0) in
      let x = copied put.nodes n in
      let R = bind_sorted P h r x W'.sorted (omega (arith, B.longer)) c.0 (keeps_sort P g h B r l ∙ s ∙ sym c.1) in
      record { keeps = keeps_trans g h (bind h r x) B (keeps_same h (bind h r x) R.same); lowers = relinked_lowers P put (bind h r x) W' R }

  -- a root beside a ground node of its sort
  root-settled : (deeper : List ℕ → List ℕ → Settling → Settling) → ((ys ms : List ℕ) (v : Settling) → Beside P v.lowered.graph ys ms → Lowers P v.lowered → Settles P v (deeper ys ms v))
      → (r n : ℕ) (w : Settling) → Lowers P w.lowered → r < length w.lowered.graph → n < length P.nodes → sort_at P w.lowered.graph r ≡ sort_of P n
      → Settles P w (settle_root P deeper r n w)
  unfolding settle_root
  root-settled deeper ih r n w W l m s =
      let g = w.lowered.graph in
      let marked : Settling = record { lowered = w.lowered; met = r ∷ w.met } in
      let M : Settles P w marked = record { keeps = keeps_refl g; lowers = W } in
      elim (see (any (eqb r) w.met)) [
        | is true a ↦ rw (a, settle_root) (settles_refl P w W)
        | is false a ↦ elim (see (is_var (vertex g r))) [
          | is true v ↦ elim (see (eqb r node_of_l)) [
            | is true e ↦ rw (a, v, e, settle_root) M
            | is false e ↦ rw (a, v, e, settle_root) (variable-settled r n w W l m s (lower (suc n) P (n ∷ []) w.lowered) refl)
          ]
          | is false v ↦ elim (see (eqb (vertex g r).head (node_of P n).head)) [
            | is true e ↦
                let h = eqb-true (vertex g r).head (node_of P n).head e in
                let V' = W.sorted r l in
                let ss = (symbol_of P (vertex g r).head).inputs in
                let a' : Arguments P n ss (node_of P n).args = rw h (good.nodes n m).args in
                let B = arguments_beside P g n m ss (vertex g r).args (node_of P n).args V'.below (V'.sorts v) a' in
                rw (a, v, e, settle_root) (settles_trans P w marked (deeper (vertex g r).args (node_of P n).args marked) M (ih (vertex g r).args (node_of P n).args marked B W))
            | is false e ↦ rw (a, v, e, settle_root) M
          ]
        ]
      ]

  -- nodes beside ground nodes of their sorts, however deep
  pub settle_sorted : (d : ℕ) (xs ns : List ℕ) (w : Settling) → Beside P w.lowered.graph xs ns → Lowers P w.lowered → Settles P w (settle d P xs ns w)
  unfolding settle
  settle_sorted zero [] ns w B W = settles_refl P w W
  settle_sorted zero (x ∷ xs) ns w B W = settles_refl P w W
  settle_sorted (suc d) [] ns w B W = settles_refl P w W
  settle_sorted (suc d) (x ∷ xs) [] w B W = settles_refl P w W
  settle_sorted (suc d) (x ∷ xs) (n ∷ ns) w B W =
      let g = w.lowered.graph in
      let r = root g x in
      let v = settle_root P (λ ys ms v. settle d P ys ms v) r n w in
      let R = root-settled (λ ys ms v. settle d P ys ms v) (λ ys ms v C U. settle_sorted d ys ms v C U) r n w W (root_inside P g W.sorted x B.0) B.1 (sym (root-sort P g W.sorted x B.0) ∙ B.2) in
      settles_trans P w v (settle (suc d) P xs ns v) R (settle_sorted (suc d) xs ns v (beside-kept P g v.lowered.graph R.keeps xs ns B.3) R.lowers)
