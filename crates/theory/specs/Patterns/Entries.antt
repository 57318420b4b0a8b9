-- Whatever is read back, the store stays sound: it grows, nodes rest on earlier ones, and none is twice.
use Rattle.std.specs.Prelude.{Bool, ◌||◌}
use Rattle.std.proofs.Math.Bool.{true, false}
use mathlib.Core.List.{List, [], ◌∷◌}
use Rattle.std.proofs.Math.Option.{none, some}
use Prim.Native.Nat.{ℕ, zero, suc, ◌<◌}
use Rattle.std.proofs.Common.{arith}
use Rattle.std.proofs.Math.ListN.{length}
use Rattle.definition.specs.Test.{is, see}
use Rattle.definition.specs.Pack.{Node, Pack}
use Rattle.definition.specs.Tree.{tree_of}
use Rattle.definition.specs.Verdict.{Bound}
use Rattle.definition.specs.Good.{Below}
use Rattle.definition.specs.Store.{variable_node, is_variable, below, intern}
use Rattle.definition.specs.Graph.{Graph, vertex, root, is_var}
use Rattle.definition.specs.Analysis.{copied, Numbered, Resolved, number_of, resolve_variable, resolve_at, resolve}
use Rattle.definition.proofs.Laws.Store.{StoreOnce}
use Rattle.theory.specs.Copies.Terms.{Earlier}
use Rattle.theory.specs.Patterns.Interned.{Grows, grows_none, grows_then, grows_long, interned, lifted, below-args}

-- a store that has grown and is sound
pub record Sound (s t : List Node) : Type 0 where
  pub grows : Grows s t
  pub earlier : Earlier s → Earlier t
  pub once : StoreOnce s → StoreOnce t

pub sound_then : (s t u : List Node) → Sound s t → Sound t u → Sound s u
sound_then s t u a b = record { grows = grows_then s t u a.grows b.grows; earlier = λ E. b.earlier (a.earlier E); once = λ O. b.once (a.once O) }

pub sound_none : (s : List Node) → Sound s s
sound_none s = record { grows = grows_none s; earlier = λ E. E; once = λ O. O }

-- an interned variable
variable_sound : (s : List Node) (k so : ℕ) → Sound s (intern s (variable_node k so)).store
unfolding below is_variable
variable_sound s k so = let I = interned s (variable_node k so) in record { grows = I.grows; earlier = λ E. I.earlier E tt; once = I.once }

module _ (P : Pack) (g : Graph) (values : List Bound) (everyone : Bool) where
  variable_keeps : (r : ℕ) (st : Numbered) → Sound st.store (resolve_variable P g values everyone r st).state.store × ((resolve_variable P g values everyone r st).pattern < length (resolve_variable P g values everyone r st).state.store)
  unfolding resolve_variable
  variable_keeps r st = elim (see (number_of r st.numbering 0)) [
    | is (some k) p ↦ rw (p, resolve_variable) (variable_sound st.store k (vertex g r).sort, (interned st.store (variable_node k (vertex g r).sort)).within)
    | is none p ↦ elim (see (everyone || (vertex g r).flex)) [
      | is true q ↦ let k = length st.numbering in rw (p, resolve_variable, q) (variable_sound st.store k (vertex g r).sort, (interned st.store (variable_node k (vertex g r).sort)).within)
      | is false q ↦ let L = lifted (tree_of P (copied values r)) st.store in rw (p, resolve_variable, q) (record { grows = L.grows; earlier = L.earlier; once = L.once }, L.within)
    ]
  ]

  pub at_keeps : (deeper : List ℕ → Numbered → Resolved) (r : ℕ) (st : Numbered)
      → (Sound st.store (deeper (vertex g r).args st).state.store × Below (length (deeper (vertex g r).args st).state.store) (deeper (vertex g r).args st).patterns)
      → Sound st.store (resolve_at P g values everyone deeper r st).state.store × ((resolve_at P g values everyone deeper r st).pattern < length (resolve_at P g values everyone deeper r st).state.store)
  unfolding resolve_at
  at_keeps deeper r st B = elim (see (is_var (vertex g r))) [
    | is true w ↦ rw (w, resolve_at) (variable_keeps r st)
    | is false w ↦
        let args = deeper (vertex g r).args st in
        let n : Node = record { head = (vertex g r).head; args = args.patterns } in
        let I = interned args.state.store n in
        let one : Sound args.state.store (intern args.state.store n).store = record { grows = I.grows; earlier = λ E. I.earlier E (below-args (length args.state.store) n B.1); once = I.once } in
        rw (w, resolve_at) (sound_then st.store args.state.store (intern args.state.store n).store B.0 one, I.within)
  ]

  -- whatever nodes are read back
  pub resolve_keeps : (d : ℕ) (xs : List ℕ) (st : Numbered)
      → Sound st.store (resolve d P g values everyone xs st).state.store × Below (length (resolve d P g values everyone xs st).state.store) (resolve d P g values everyone xs st).patterns
  unfolding resolve
  resolve_keeps zero [] st = (sound_none st.store, tt)
  resolve_keeps zero (x ∷ xs) st = (sound_none st.store, tt)
  resolve_keeps (suc d) [] st = (sound_none st.store, tt)
  resolve_keeps (suc d) (x ∷ xs) st =
      let first = resolve_at P g values everyone (λ ys s. resolve d P g values everyone ys s) (root g x) st in
      let A = at_keeps (λ ys s. resolve d P g values everyone ys s) (root g x) st (resolve_keeps d (vertex g (root g x)).args st) in
      let rest = resolve (suc d) P g values everyone xs first.state in
      let R = resolve_keeps (suc d) xs first.state in
      let l = grows_long first.state.store rest.state.store R.0.grows in
      (sound_then st.store first.state.store rest.state.store A.0 R.0, (omega (arith, A.1), R.1))
