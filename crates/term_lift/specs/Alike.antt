-- Liftings that are alike, with one store and the same values in another order: walks keep them so, and take the same turns.
use Rattle.std.specs.Prelude.{◌≡◌, eqb, drop}
use Rattle.std.proofs.Math.Path.{refl, ap, ap₂}
use Rattle.std.proofs.Common.{◌∙◌}
use Rattle.std.proofs.Math.Bool.{true, false}
use mathlib.Core.List.{List, [], ◌∷◌, map}
use Prim.Native.Nat.{ℕ, zero, suc, ◌+◌, ◌*◌}
use Rattle.std.proofs.Math.ListN.{length}
use Rattle.definition.specs.Test.{is, see}
use Rattle.definition.specs.Pack.{Pack, node_of}
use Rattle.definition.specs.Verdict.{value_of}
use Rattle.definition.specs.Store.{Stored, intern}
use Rattle.definition.specs.Analysis.{copied}
use Rattle.definition.specs.Classes.{is_some}
use Rattle.theory.specs.Patterns.Interned.{Grows, grows_none, grows_then, interned}
use Rattle.theory.specs.Walks.Walk.{visit, walk, visit_effort, effort}
use Rattle.theory.specs.Walks.Machine.{Frame, Walking, turn, Turned, passed, entered, finished, turned, frame_left, left, frame_turns, turns_left}
use Rattle.theory.specs.Walks.Lifting.{Lifting, args_of, is_lifted, over, lift_node}

-- one store, and the same value for each node
pub record Alike (s t : Lifting) : Type 0 where
  pub store : s.store ≡ t.store
  pub memo : (n : ℕ) → value_of n s.memo ≡ value_of n t.memo

-- each is like itself
pub alike_self : (s : Lifting) → Alike s s
alike_self s = record { store = refl; memo = λ n. refl }

-- one like another is like what that is like
pub alike_then : (s t u : Lifting) → Alike s t → Alike t u → Alike s u
alike_then s t u a b = record { store = a.store ∙ b.store; memo = λ n. a.memo n ∙ b.memo n }

-- the same nodes are lifted
pub alike_known : (s t : Lifting) → Alike s t → (x : ℕ) → is_lifted s x ≡ is_lifted t x
unfolding is_lifted
alike_known s t a x = ap is_some (a.memo x)

-- to the same patterns
pub alike_copied : (s t : Lifting) → Alike s t → (x : ℕ) → copied s.memo x ≡ copied t.memo x
unfolding copied
alike_copied s t a x = rw (a.memo x, copied)

-- so too for nodes
copied_all : (s t : Lifting) → Alike s t → (xs : List ℕ) → map (copied s.memo) xs ≡ map (copied t.memo) xs
copied_all s t a [] = refl
copied_all s t a (x ∷ xs) = ap₂ ◌∷◌ (alike_copied s t a x) (copied_all s t a xs)

module _ (P : Pack) where
  -- what a node gets is the same
  over_alike : (s t : Lifting) → Alike s t → (x : ℕ) → over P s.memo x ≡ over P t.memo x
  unfolding over
  over_alike s t a x = ap (λ (ps : List ℕ). record { head = (node_of P x).head; args = ps }) (copied_all s t a (node_of P x).args)

  -- lifting a node keeps them alike
  pub alike_finish : (s t : Lifting) → Alike s t → (x : ℕ) → Alike (lift_node P x s) (lift_node P x t)
  unfolding lift_node value_of
  alike_finish s t a x =
      let e : intern s.store (over P s.memo x) ≡ intern t.store (over P t.memo x) = ap₂ intern a.store (over_alike s t a x) in
      record {
        store = ap (λ (r : Stored). r.store) e;
        memo = λ n. elim (see (eqb x n)) [
          | is true q ↦ rw (q, value_of, e)
          | is false q ↦ rw (q, value_of) (a.memo n)
        ];
      }

  -- and so does visiting one, if walks below it do
  visit_alike : (deeper : List ℕ → Lifting → Lifting) (x : ℕ) (s t : Lifting) → Alike s t → Alike (deeper (args_of P x) s) (deeper (args_of P x) t)
      → Alike (visit (args_of P) is_lifted (lift_node P) deeper x s) (visit (args_of P) is_lifted (lift_node P) deeper x t)
  unfolding visit
  visit_alike deeper x s t a b =
      let k = alike_known s t a x in
      elim (see (is_lifted t x)) [
        | is true q ↦ rw (k, q, visit) a
        | is false q ↦ rw (k, q, visit) (alike_finish (deeper (args_of P x) s) (deeper (args_of P x) t) b x)
      ]

  -- walks of them are alike
  pub walk_alike : (d : ℕ) (xs : List ℕ) (s t : Lifting) → Alike s t → Alike (walk (args_of P) is_lifted (lift_node P) d xs s) (walk (args_of P) is_lifted (lift_node P) d xs t)
  unfolding walk
  walk_alike zero [] s t a = a
  walk_alike zero (x ∷ xs) s t a = a
  walk_alike (suc d) [] s t a = a
  walk_alike (suc d) (x ∷ xs) s t a =
      let deeper : List ℕ → Lifting → Lifting = λ ys r. walk (args_of P) is_lifted (lift_node P) d ys r in
      let go : Lifting → Lifting = λ r. visit (args_of P) is_lifted (lift_node P) deeper x r in
      walk_alike (suc d) xs (go s) (go t) (visit_alike deeper x s t a (walk_alike d (args_of P x) s t a))

  -- and take the same effort
  pub effort_alike : (d : ℕ) (xs : List ℕ) (s t : Lifting) → Alike s t → effort (args_of P) is_lifted (lift_node P) d xs s ≡ effort (args_of P) is_lifted (lift_node P) d xs t
  unfolding effort
  effort_alike zero [] s t a = refl
  effort_alike zero (x ∷ xs) s t a = refl
  effort_alike (suc d) [] s t a = refl
  effort_alike (suc d) (x ∷ xs) s t a =
      let deeper : List ℕ → Lifting → Lifting = λ ys r. walk (args_of P) is_lifted (lift_node P) d ys r in
      let go : Lifting → Lifting = λ r. visit (args_of P) is_lifted (lift_node P) deeper x r in
      let efforts : Lifting → ℕ = λ r. visit_effort (args_of P) is_lifted (lift_node P) (λ ys u. effort (args_of P) is_lifted (lift_node P) d ys u) x r in
      let k = alike_known s t a x in
      let first : efforts s ≡ efforts t = elim (see (is_lifted t x)) [
        | is true q ↦ rw (k, q, visit_effort)
        | is false q ↦ rw (k, q, visit_effort) (ap (λ (e : ℕ). length (args_of P x) + e) (effort_alike d (args_of P x) s t a))
      ] in
      ap₂ ◌+◌ first (effort_alike (suc d) xs (go s) (go t) (visit_alike deeper x s t a (walk_alike d (args_of P x) s t a)))

  -- what is left for a frame of them is alike
  frame_alike : (d x i : ℕ) (s t : Lifting) → Alike s t → Alike (frame_left (args_of P) is_lifted (lift_node P) d x i s) (frame_left (args_of P) is_lifted (lift_node P) d x i t)
  unfolding frame_left
  frame_alike d x zero s t a = walk_alike d (x ∷ []) s t a
  frame_alike d x (suc i) s t a =
      let go : Lifting → Lifting = λ r. walk (args_of P) is_lifted (lift_node P) d (drop (suc i) (args_of P x)) r in
      alike_finish (go s) (go t) (walk_alike d (drop (suc i) (args_of P x)) s t a) x

  -- and for a stack
  pub left_alike : (d : ℕ) (fs : List Frame) (s t : Lifting) → Alike s t → Alike (left (args_of P) is_lifted (lift_node P) d fs s) (left (args_of P) is_lifted (lift_node P) d fs t)
  unfolding left
  left_alike d [] s t a = a
  left_alike d (f ∷ fs) s t a =
      let go : Lifting → Lifting = λ r. frame_left (args_of P) is_lifted (lift_node P) d f.node f.taken r in
      left_alike d fs (go s) (go t) (frame_alike d f.node f.taken s t a)

  -- in as many turns
  turns-frame : (d x i : ℕ) (s t : Lifting) → Alike s t → frame_turns (args_of P) is_lifted (lift_node P) d x i s ≡ frame_turns (args_of P) is_lifted (lift_node P) d x i t
  unfolding frame_turns
  turns-frame d x zero s t a = ap (λ (e : ℕ). suc (2 * e)) (effort_alike d (x ∷ []) s t a)
  turns-frame d x (suc i) s t a = ap (λ (e : ℕ). suc (2 * (length (drop (suc i) (args_of P x)) + e))) (effort_alike d (drop (suc i) (args_of P x)) s t a)

  -- for all frames
  pub turns_alike : (d : ℕ) (fs : List Frame) (s t : Lifting) → Alike s t → turns_left (args_of P) is_lifted (lift_node P) d fs s ≡ turns_left (args_of P) is_lifted (lift_node P) d fs t
  unfolding turns_left
  turns_alike d [] s t a = refl
  turns_alike d (f ∷ fs) s t a =
      let go : Lifting → Lifting = λ r. frame_left (args_of P) is_lifted (lift_node P) d f.node f.taken r in
      ap₂ ◌+◌ (turns-frame d f.node f.taken s t a) (turns_alike d fs (go s) (go t) (frame_alike d f.node f.taken s t a))

  -- ---- what is lifted is put behind what the store has
  finish_grows : (x : ℕ) (s : Lifting) → Grows s.store (lift_node P x s).store
  unfolding lift_node
  finish_grows x s = (interned s.store (over P s.memo x)).grows

  -- by a walk
  walk_grows : (d : ℕ) (xs : List ℕ) (s : Lifting) → Grows s.store (walk (args_of P) is_lifted (lift_node P) d xs s).store
  unfolding walk
  walk_grows zero [] s = grows_none s.store
  walk_grows zero (x ∷ xs) s = grows_none s.store
  walk_grows (suc d) [] s = grows_none s.store
  walk_grows (suc d) (x ∷ xs) s =
      let deeper : List ℕ → Lifting → Lifting = λ ys r. walk (args_of P) is_lifted (lift_node P) d ys r in
      let t = visit (args_of P) is_lifted (lift_node P) deeper x s in
      let v : Grows s.store t.store = elim (see (is_lifted s x)) [
        | is true q ↦ rw (q, visit) (grows_none s.store)
        | is false q ↦ rw (q, visit) (grows_then s.store (deeper (args_of P x) s).store (lift_node P x (deeper (args_of P x) s)).store (walk_grows d (args_of P x) s) (finish_grows x (deeper (args_of P x) s)))
      ] in
      grows_then s.store t.store (walk (args_of P) is_lifted (lift_node P) (suc d) xs t).store v (walk_grows (suc d) xs t)

  -- by what is left of a frame
  frame_grows : (d x i : ℕ) (s : Lifting) → Grows s.store (frame_left (args_of P) is_lifted (lift_node P) d x i s).store
  unfolding frame_left
  frame_grows d x zero s = walk_grows d (x ∷ []) s
  frame_grows d x (suc i) s =
      let t = walk (args_of P) is_lifted (lift_node P) d (drop (suc i) (args_of P x)) s in
      grows_then s.store t.store (lift_node P x t).store (walk_grows d (drop (suc i) (args_of P x)) s) (finish_grows x t)

  -- by what is left of a stack
  pub left_grows : (d : ℕ) (fs : List Frame) (s : Lifting) → Grows s.store (left (args_of P) is_lifted (lift_node P) d fs s).store
  unfolding left
  left_grows d [] s = grows_none s.store
  left_grows d (f ∷ fs) s =
      let t = frame_left (args_of P) is_lifted (lift_node P) d f.node f.taken s in
      grows_then s.store t.store (left (args_of P) is_lifted (lift_node P) d fs t).store (frame_grows d f.node f.taken s) (left_grows d fs t)

  -- by one turn
  pub turn_grows : (f : Frame) (fs : List Frame) (s : Lifting) → Grows s.store (turn (args_of P) is_lifted (lift_node P) (f ∷ fs) s).state.store
  turn_grows f fs s = ways f.node f.taken (turn (args_of P) is_lifted (lift_node P) (f ∷ fs) s) (turned (args_of P) is_lifted (lift_node P) f.node f.taken fs s)
    where
      ways : (x i : ℕ) (w : Walking Lifting) → Turned (args_of P) is_lifted (lift_node P) x i fs s w → Grows s.store w.state.store
      ways x i _ (passed z k) = grows_none s.store
      ways x i _ (entered o h) = grows_none s.store
      ways x i _ (finished o h) = finish_grows x s
