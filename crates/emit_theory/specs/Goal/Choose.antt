-- Outputs of cut judgments chosen, use by use and round by round: the graph stays well sorted and keeps its nodes.
use Rattle.std.specs.Prelude.{◌≡◌, refl, Bool, true, false, eqb, length, get_or}
use Rattle.std.proofs.Common.{sym, ◌∙◌, subst, arith}
use mathlib.Core.List.{List, [], ◌∷◌, ◌++◌}
use Rattle.std.proofs.Math.Option.{Option}
use Prim.Native.Nat.{ℕ, zero, suc, ◌<◌}
use Rattle.definition.specs.Test.{never, any}
use Rattle.definition.specs.Pack.{prop, Pack, symbol_of, node_of}
use Rattle.definition.specs.Good.{Below, Good, Few}
use Rattle.definition.specs.Verdict.{value_of}
use Rattle.definition.specs.Graph.{Vertex, Graph, vertex, root, is_var}
use Rattle.definition.specs.Run.{Run}
use Rattle.emission.specs.State.{Emitter, Setting, Tried, give, grown_to}
use Rattle.emission.specs.Lay.{Use}
use Rattle.emission.specs.Choose.{raise_each, open_places, outputs_of, Chosen, choose_output, choose_one, choose_all, choose}
use Rattle.theory.specs.Unification.Solve.{SortsAt}
use Rattle.theory.specs.Copies.Begin.{sort_at-applied}
use Rattle.emit_theory.specs.Graph.Kept.{Keeps, keeps_refl, keeps_sort}
use Rattle.emit_theory.specs.Graph.Unify.{root_inside, root-sort}
use Rattle.emit_theory.specs.Graph.Read.{Reads}
use Rattle.emit_theory.specs.Sound.{Sound}
use Rattle.emit_theory.specs.Comes.{Comes, gives, then_comes, now_comes, weaker}
use Rattle.emit_theory.specs.Writes.{grown_comes}
use Rattle.emit_theory.specs.Goal.Heads.{root-head}
use Rattle.emit_theory.specs.Goal.Placed.{Shaped, UseIn, use_kept}
use Rattle.emit_theory.specs.Goal.Lay.{From, from_trans}
use Rattle.emit_theory.specs.Goal.Target.{HasL}
use Rattle.emit_theory.specs.Goal.Raised.{RaisedEach, each_raised, one_open, Filling}
use Rattle.emit_theory.specs.Search.Proving.{L_sort}
use Rattle.emit_theory.specs.Goal.Output.{ProvesCut, AllUses, Choosing, left_over, nothing_left, output_comes}

-- L stays where the nodes are kept
pub L_kept : (S : Setting) (g h : Graph) → Keeps g h → HasL S g → HasL S h
L_kept S g h k l = record { inside = omega (arith, l.inside, k.longer); sort = keeps_sort S.pack g h k 0 l.inside ∙ l.sort }

-- nothing was raised yet
pub reads_start : (S : Setting) (g : Graph) (e : Emitter) → Sound S e → HasL S g → Reads S.pack S.eigen [] g (record { memo = []; store = e.kept.store })
unfolding value_of
reads_start S g e s l = record { store = s.sorted; eigen = s.L_stored; eigen-sort = L_sort S e s ∙ sym l.sort; memo = λ r p q. never (cc) }

-- what a use's root is like: an application of its judgment's predicate
record Rooted (P : Pack) (g : Graph) (u : Use) (v : Vertex) : Type 0 where
  given : v.head < length P.symbols
  predicate : (symbol_of P v.head).output ≡ prop
  head : v.head ≡ (node_of P u.judgment).head
  below : Below (length g) v.args
  sorts : SortsAt P g v.args (symbol_of P v.head).inputs

use_root : (P : Pack) (g : Graph) (u : Use) → Shaped P g → UseIn P g u → Rooted P g u (vertex g (root g u.node))
unfolding is_var
use_root P g u G U =
    let r = root g u.node in
    let i = root_inside P g G.sorted u.node U.inside in
    let h = root-head g G.headed u.node U.applied in
    let v : is_var (vertex g r) ≡ false = rw h U.applied in
    let N = G.sorted r i in
    record {
      given = N.head v;
      predicate = sym (sort_at-applied P g r v) ∙ sym (root-sort P g G.sorted u.node U.inside) ∙ U.sort;
      head = h ∙ U.head;
      below = N.below;
      sorts = N.sorts v;
    }

module _ (S : Setting) (good : Good S.pack) (few : Few S.pack) (cut : ProvesCut S) where
  abbrev Chooses : Graph → Chosen → Emitter → Type 0
  Chooses g v e = Choosing S.pack g v

  -- an output, or not
  output_at : (g : Graph) (u : Use) (v : Vertex) (raised : List (Option ℕ)) (o : ℕ) (e : Emitter) → Sound S e → Shaped S.pack g → HasL S g → UseIn S.pack g u → Rooted S.pack g u v
      → o < length (symbol_of S.pack v.head).inputs → Filling S.pack S.eigen e.kept.store (get_or (symbol_of S.pack v.head).inputs o 0) (symbol_of S.pack v.head).inputs raised → (b : Bool)
      → Comes S (Chooses g) (elim b as (λ _. Emitter → Run (Tried Chosen)) [ true ↦ choose_output S g u v.args raised v.head o | false ↦ give (record { graph = g; pending = u ∷ [] }) ]) e
  output_at g u v raised o e s G l U R i F true = output_comes S good few cut g u v.args raised v.head o e s G l U R.given R.predicate R.head R.below R.sorts i F
  output_at g u v raised o e s G l U R i F false = gives S (Chooses g) (record { graph = g; pending = u ∷ [] }) e s (left_over S.pack g u G U)

  -- by the open places
  places-at : (g : Graph) (u : Use) (v : Vertex) (raised : List (Option ℕ)) (e : Emitter) → Sound S e → Shaped S.pack g → HasL S g → UseIn S.pack g u → Rooted S.pack g u v
      → RaisedEach S.pack S.eigen g e.kept.store v.args raised → (ks : List ℕ) → open_places raised 0 ≡ ks
      → Comes S (Chooses g) (elim ks [
        | [] ↦ give (record { graph = g; pending = [] })
        | o ∷ [] ↦ elim (any (eqb o) (outputs_of v.head S.pack.cuts)) [ true ↦ choose_output S g u v.args raised v.head o | false ↦ give (record { graph = g; pending = u ∷ [] }) ]
        | o ∷ q ∷ more ↦ give (record { graph = g; pending = u ∷ [] })
      ]) e
  places-at g u v raised e s G l U R A [] q = gives S (Chooses g) (record { graph = g; pending = [] }) e s (nothing_left S.pack g G)
  places-at g u v raised e s G l U R A (k ∷ []) q =
      let ss = (symbol_of S.pack v.head).inputs in
      let O = one_open S.pack S.eigen g e.kept.store 0 k v.args ss raised R.sorts A q in
      let z : O.0 ≡ k = omega (arith, O.1) in
      output_at g u v raised k e s G l U R (subst (λ x. x < length ss) z O.2) (subst (λ x. Filling S.pack S.eigen e.kept.store (get_or ss x 0) ss raised) z O.3) (any (eqb k) (outputs_of v.head S.pack.cuts))
  places-at g u v raised e s G l U R A (o ∷ k ∷ more) q = gives S (Chooses g) (record { graph = g; pending = u ∷ [] }) e s (left_over S.pack g u G U)

  -- one use
  one_comes : (g : Graph) (u : Use) (e : Emitter) → Sound S e → Shaped S.pack g → HasL S g → UseIn S.pack g u → Comes S (Chooses g) (choose_one S g u) e
  unfolding choose_one
  one_comes g u e s G l U =
      let P = S.pack in
      let v = vertex g (root g u.node) in
      let R = use_root P g u G U in
      let args = raise_each S.eigen g v.args (record { raised = []; reading = record { memo = []; store = e.kept.store } }) in
      let A = each_raised P S.eigen g G.sorted v.args [] (record { raised = []; reading = record { memo = []; store = e.kept.store } }) R.below (reads_start S g e s l) tt in
      now_comes S (Chooses g) _ e s (then_comes S (λ _ e₁. (e₁.kept.store ≡ args.reading.store) × (e₁.undone ≡ e.undone)) (Chooses g) (grown_to args.reading.store) _ e (grown_comes S e s args.reading.store A.grows A.reads.store)
      (λ _ e₁ _ s₁ z. places-at g u v args.raised e₁ s₁ G l U R (subst (λ x. RaisedEach P S.eigen g x v.args args.raised) (sym z.0) A.each) (open_places args.raised 0) refl))

  -- ---- uses
  uses_kept : (g h : Graph) → Keeps g h → (us : List Use) → AllUses S.pack g us → AllUses S.pack h us
  uses_kept g h k [] A = tt
  uses_kept g h k (u ∷ us) A = (use_kept S.pack g h k u A.0, uses_kept g h k us A.1)

  uses_both : (g : Graph) (us vs : List Use) → AllUses S.pack g us → AllUses S.pack g vs → AllUses S.pack g (us ++ vs)
  uses_both g [] vs A B = B
  uses_both g (u ∷ us) vs A B = (A.0, uses_both g us vs A.1 B)

  -- one round
  all_comes : (us : List Use) (w : Chosen) (e : Emitter) → Sound S e → Shaped S.pack w.graph → HasL S w.graph → AllUses S.pack w.graph w.pending → AllUses S.pack w.graph us
      → Comes S (Chooses w.graph) (choose_all S us w) e
  unfolding choose_all
  all_comes [] w e s G l A U = gives S (Chooses w.graph) w e s (record { from = record { shaped = G; keeps = keeps_refl w.graph }; pending = A })
  all_comes (u ∷ us) w e s G l A U =
      let g = w.graph in
      then_comes S (Chooses g) (Chooses g) (choose_one S g u) _ e (one_comes g u e s G l U.0)
      (λ one e₁ _ s₁ C.
      let h = one.graph in
      let k = C.from.keeps in
      let v : Chosen = record { graph = h; pending = w.pending ++ one.pending } in
      weaker S (Chooses h) (Chooses g) (choose_all S us v) e₁
      (all_comes us v e₁ s₁ C.from.shaped (L_kept S g h k l) (uses_both h w.pending one.pending (uses_kept g h k w.pending A) C.pending) (uses_kept g h k us U.1))
      (λ x _ _ _ X. record { from = from_trans S.pack g h x.graph C.from X.from; pending = X.pending }))

  -- what is to be shown of so many rounds
  abbrev Round : ℕ → Type 0
  Round n = (us : List Use) (g : Graph) (e : Emitter) → Sound S e → Shaped S.pack g → HasL S g → AllUses S.pack g us → Comes S (λ h _. From S.pack g h) (choose n S us g) e

  round_at : (n : ℕ) → Round n → (g : Graph) (w : Chosen) (e : Emitter) → Sound S e → HasL S g → Choosing S.pack g w → (b : Bool)
      → Comes S (λ h _. From S.pack g h) (elim b as (λ _. Emitter → Run (Tried Graph)) [ true ↦ give w.graph | false ↦ choose n S w.pending w.graph ]) e
  round_at n next g w e s l C true = gives S (λ h _. From S.pack g h) w.graph e s C.from
  round_at n next g w e s l C false =
      weaker S (λ h _. From S.pack w.graph h) (λ h _. From S.pack g h) (choose n S w.pending w.graph) e
      (next w.pending w.graph e s C.from.shaped (L_kept S g w.graph C.from.keeps l) C.pending)
      (λ h _ _ _ H. from_trans S.pack g w.graph h C.from H)

  -- so many rounds
  pub choose_comes : (n : ℕ) → Round n
  unfolding choose
  choose_comes zero us g e s G l U = gives S (λ h _. From S.pack g h) g e s (record { shaped = G; keeps = keeps_refl g })
  choose_comes (suc n) us g e s G l U =
      let start : Chosen = record { graph = g; pending = [] } in
      then_comes S (Chooses g) (λ h _. From S.pack g h) (choose_all S us start) _ e (all_comes us start e s G l tt U)
      (λ w e₁ _ s₁ C. round_at n (λ us₀ g₀ e₀ s₀ G₀ l₀ U₀. choose_comes n us₀ g₀ e₀ s₀ G₀ l₀ U₀) g w e₁ s₁ l C (eqb (length w.pending) (length us)))
