-- What is read back is put behind what the store has.
use Rattle.std.specs.Prelude.{Bool, ◌||◌, length, drop}
use Rattle.std.proofs.Math.Bool.{true, false}
use mathlib.Core.List.{List, [], ◌∷◌, map}
use Rattle.std.proofs.Math.Option.{none, some}
use Prim.Native.Nat.{ℕ, zero, suc}
use Rattle.definition.specs.Test.{is, see}
use Rattle.definition.specs.Pack.{Pack}
use Rattle.definition.specs.Tree.{tree_of}
use Rattle.definition.specs.Verdict.{Bound}
use Rattle.definition.specs.Store.{variable_node}
use Rattle.definition.specs.Graph.{Graph, vertex, root, is_var}
use Rattle.definition.specs.Analysis.{copied, number_of, resolve_variable, resolve_at}
use Rattle.theory.specs.Patterns.Interned.{Grows, grows_none, grows_then, interned, lifted}
use Rattle.theory.specs.Walks.Again.{headed}
use Rattle.theory.specs.Walks.Walk.{visit, walk}
use Rattle.theory.specs.Walks.Machine.{Frame, Walking, turn, Turned, passed, entered, finished, turned, frame_left, left}
use Rattle.theory.specs.Walks.Levels.{arg_roots}
use Rattle.theory.specs.Walks.Resolving.{Resolving, is_read_whole, read_root}

module _ (P : Pack) (h : Graph) (vs : List Bound) (everyone : Bool) where
  -- by a root
  read_grows : (x : ℕ) (s : Resolving) → Grows s.state.store (read_root P h vs everyone x s).state.store
  unfolding read_root resolve_at resolve_variable
  read_grows x s = elim (see (is_var (vertex h x))) [
    | is false v ↦ rw (v, resolve_at) (interned s.state.store (headed (vertex h x).head (map (copied s.memo) (map (root h) (vertex h x).args)))).grows
    | is true v ↦ elim (see (number_of x s.state.numbering 0)) [
      | is (some k) e ↦ rw (v, resolve_at, e, resolve_variable) (interned s.state.store (variable_node k (vertex h x).sort)).grows
      | is none e ↦ elim (see (everyone || (vertex h x).flex)) [
        | is true f ↦ rw (v, resolve_at, e, resolve_variable, f) (interned s.state.store (variable_node (length s.state.numbering) (vertex h x).sort)).grows
        | is false f ↦ rw (v, resolve_at, e, resolve_variable, f) (lifted (tree_of P (copied vs x)) s.state.store).grows
      ]
    ]
  ]

  -- by a walk
  walk_grows : (d : ℕ) (xs : List ℕ) (s : Resolving) → Grows s.state.store (walk (arg_roots h) is_read_whole (read_root P h vs everyone) d xs s).state.store
  unfolding walk
  walk_grows zero [] s = grows_none s.state.store
  walk_grows zero (x ∷ xs) s = grows_none s.state.store
  walk_grows (suc d) [] s = grows_none s.state.store
  walk_grows (suc d) (x ∷ xs) s =
      let deeper : List ℕ → Resolving → Resolving = λ ys r. walk (arg_roots h) is_read_whole (read_root P h vs everyone) d ys r in
      let t = visit (arg_roots h) is_read_whole (read_root P h vs everyone) deeper x s in
      let v : Grows s.state.store t.state.store = elim (see (is_read_whole s x)) [
        | is true q ↦ rw (q, visit) (grows_none s.state.store)
        | is false q ↦ rw (q, visit) (grows_then s.state.store (deeper (arg_roots h x) s).state.store (read_root P h vs everyone x (deeper (arg_roots h x) s)).state.store (walk_grows d (arg_roots h x) s) (read_grows x (deeper (arg_roots h x) s)))
      ] in
      grows_then s.state.store t.state.store (walk (arg_roots h) is_read_whole (read_root P h vs everyone) (suc d) xs t).state.store v (walk_grows (suc d) xs t)

  -- by what is left of a frame
  frame_grows : (d x i : ℕ) (s : Resolving) → Grows s.state.store (frame_left (arg_roots h) is_read_whole (read_root P h vs everyone) d x i s).state.store
  unfolding frame_left
  frame_grows d x zero s = walk_grows d (x ∷ []) s
  frame_grows d x (suc i) s =
      let t = walk (arg_roots h) is_read_whole (read_root P h vs everyone) d (drop (suc i) (arg_roots h x)) s in
      grows_then s.state.store t.state.store (read_root P h vs everyone x t).state.store (walk_grows d (drop (suc i) (arg_roots h x)) s) (read_grows x t)

  -- by what is left of a stack
  pub left_grows : (d : ℕ) (fs : List Frame) (s : Resolving) → Grows s.state.store (left (arg_roots h) is_read_whole (read_root P h vs everyone) d fs s).state.store
  unfolding left
  left_grows d [] s = grows_none s.state.store
  left_grows d (f ∷ fs) s =
      let t = frame_left (arg_roots h) is_read_whole (read_root P h vs everyone) d f.node f.taken s in
      grows_then s.state.store t.state.store (left (arg_roots h) is_read_whole (read_root P h vs everyone) d fs t).state.store (frame_grows d f.node f.taken s) (left_grows d fs t)

  -- by one turn
  pub turn_grows : (f : Frame) (fs : List Frame) (s : Resolving) → Grows s.state.store (turn (arg_roots h) is_read_whole (read_root P h vs everyone) (f ∷ fs) s).state.state.store
  turn_grows f fs s = ways f.node f.taken (turn (arg_roots h) is_read_whole (read_root P h vs everyone) (f ∷ fs) s) (turned (arg_roots h) is_read_whole (read_root P h vs everyone) f.node f.taken fs s)
    where
      ways : (x i : ℕ) (w : Walking Resolving) → Turned (arg_roots h) is_read_whole (read_root P h vs everyone) x i fs s w → Grows s.state.store w.state.state.store
      ways x i _ (passed z k) = grows_none s.state.store
      ways x i _ (entered o h) = grows_none s.state.store
      ways x i _ (finished o h) = read_grows x s
