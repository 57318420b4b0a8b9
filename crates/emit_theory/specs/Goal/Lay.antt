-- A goal's own steps laid as one unification problem: the graph stays well sorted, and each step's conclusion and each use is there.
use Rattle.std.specs.Prelude.{◌≡◌, Bool, true, false, ℕ, ◌<◌, length}
use Rattle.std.proofs.Math.Path.{refl}
use Rattle.std.proofs.Common.{sym, ap, ◌∙◌, arith, eqb-true}
use mathlib.Core.List.{List, [], ◌∷◌, ◌++◌}
use Rattle.std.proofs.Math.Option.{none, some}
use Rattle.definition.specs.Test.{never}
use Rattle.definition.specs.Pack.{prop, Term, Terms, var, app, nil, cons, Pack, node_of, step_of}
use Rattle.definition.specs.Good.{Sorted, Judgments, Good, Few}
use Rattle.definition.specs.Graph.{Vertex, Graph, applied, vertex, push, is_var, unify, cells}
use Rattle.definition.specs.Analysis.{instantiate, instantiate_all}
use Rattle.definition.specs.Keys.{first_of, predicate_of, is_a_cut}
use Rattle.definition.specs.Run.{Run, behind, ◌>>=◌ as ◌>>=r◌}
use Rattle.emission.specs.State.{Emitter, Setting, Tried, ◌>>=◌, change, having_pairs, celled, unified}
use Rattle.emission.specs.Patterns.{has_head}
use Rattle.emission.specs.Lay.{Use, Placed, Premised, conclusion_of, lay_premises}
use Rattle.theory.specs.Unification.Solve.{sort_at, Begins}
use Rattle.theory.specs.Copies.Push.{push-new}
use Rattle.theory.specs.Patterns.Interned.{grows_none}
use Rattle.theory.specs.Keys.Needed.{first-earlier}
use Rattle.emit_theory.specs.Graphs.{SortedGraph}
use Rattle.emit_theory.specs.Graph.Kept.{Keeps, keeps_refl, keeps_trans, keeps_begins, keeps_same, Standing, standing_kept}
use Rattle.emit_theory.specs.Graph.Push.{Put, symbol-applied}
use Rattle.emit_theory.specs.Graph.Instantiate.{instantiate_sorted}
use Rattle.emit_theory.specs.Graph.Unify.{unify_sorted}
use Rattle.emit_theory.specs.Sound.{Sound, grew_none}
use Rattle.emit_theory.specs.Comes.{Comes, gives, changes, from_comes, then_comes, weaker}
use Rattle.emit_theory.specs.Writes.{sound_pairs}
use Rattle.emit_theory.specs.Goal.Heads.{unify-headed}
use Rattle.emit_theory.specs.Goal.Behind.{Behind, behind-headed, behind_instance}
use Rattle.emit_theory.specs.Goal.Needed.{RefReady, RefsReady}
use Rattle.emit_theory.specs.Goal.Placed.{Shaped, UseIn, UsesIn, AllPlaced, uses_kept, placed-kept, uses_none, uses_some, steps_of, conclusion-placed}

-- a graph made from another: in good shape, with all its nodes
pub record From (P : Pack) (g h : Graph) : Type 0 where
  pub shaped : Shaped P h
  pub keeps : Keeps g h

-- one made by putting nodes behind
pub from-behind : (P : Pack) (g h : Graph) → Shaped P g → SortedGraph P h → Begins g h → Behind g h → From P g h
from-behind P g h S T b B = record { shaped = record { sorted = T; headed = behind-headed P g h S.sorted S.headed B }; keeps = keeps_begins g h b }

-- one made from one that was made
pub from_trans : (P : Pack) (f g h : Graph) → From P f g → From P g h → From P f h
from_trans P f g h a b = record { shaped = b.shaped; keeps = keeps_trans f g h a.keeps b.keeps }

module _ (S : Setting) where
  -- a graph noted
  pub celled_comes : (g : Graph) (e : Emitter) → Sound S e → Comes S (λ _ e₁. e₁ ≡ e) (celled g) e
  unfolding celled ◌>>=r◌ behind
  celled_comes g e s = record { notes = record { buffer = 3; fill = cells g } ∷ []; result = some tt; state = e; is_so = refl; grew = grew_none e; sound = s; holds = λ _ _. refl }

  -- two nodes of one sort unified
  pub unified_comes : (g : Graph) (x y : ℕ) (e : Emitter) → Sound S e → Shaped S.pack g → x < length g → y < length g → sort_at S.pack g x ≡ sort_at S.pack g y
      → Comes S (λ h _. From S.pack g h) (unified g x y) e
  unfolding unified
  unified_comes g x y e s G hx hy q =
      let n = (unify g x y).taken in
      then_comes S _ (λ h _. From S.pack g h) (change (having_pairs n)) _ e
      (changes S (having_pairs n) e (record { lines = grows_none e.undone.lines; store = grows_none e.kept.store; names = λ p k z. (k, z) }) (sound_pairs S e s n))
      (λ _ e₁ _ t _. from_comes S (λ h _. From S.pack g h) (unify g x y).graph e₁ t (λ h z.
      let R = unify_sorted S.pack g x y G.sorted hx hy q h z in
      record { shaped = record { sorted = R.sorted; headed = unify-headed g x y G.headed h z }; keeps = keeps_same g h R.same }))

-- a premise of a predicate in the graph is an application of it
instance_head : (P : Pack) → Few P → (p : ℕ) (t : Term) (env : List ℕ) (g : Graph) → p < length P.symbols → has_head p t ≡ true
    → let r = instantiate t env g in (is_var (vertex r.graph r.at) ≡ false) × ((vertex r.graph r.at).head ≡ p)
unfolding has_head instantiate push
instance_head P few p (var k) env g l e = never (cc)
instance_head P few p (app h ts) env g l e =
    let rs = instantiate_all ts env g in
    let n = push-new rs.graph (applied h rs.ats) in
    let q = eqb-true h p e in
    (ap is_var n ∙ symbol-applied P few h rs.ats (rw q l), ap (λ (v : Vertex). v.head) n ∙ q)

-- what premises come to, from a graph on
pub record Premises (P : Pack) (g : Graph) (v : Premised) : Type 0 where
  pub from : From P g v.graph
  pub uses : UsesIn P v.graph v.uses

module _ (S : Setting) (good : Good S.pack) (few : Few S.pack) where
  -- the use of a cut ref
  use_in : (before : List ℕ) (t : Term) (r : ℕ) (env : List ℕ) (g : Graph) → RefReady S.pack before t r → is_a_cut S.pack (predicate_of S.pack (first_of S.pack r)) ≡ true → Put S.pack prop g (instantiate t env g)
      → UseIn S.pack (instantiate t env g).graph (record { node = (instantiate t env g).at; judgment = (step_of S.pack (first_of S.pack r)).judgment })
  unfolding predicate_of
  use_in before t r env g R c I =
      let P = S.pack in
      let f = first_of P r in
      let b = first-earlier P r R.given in
      let J = (good.steps f (omega (arith, R.given))).judgment in
      let N = good.nodes (step_of P f).judgment J.given in
      let H = instance_head P few (node_of P (step_of P f).judgment).head t env g N.head (R.head c) in
      record { inside = I.inside; sort = I.sort; applied = H.0; head = H.1; given = J.given; predicate = J.predicate }

  -- what is to be shown of premises, from any graph on
  abbrev Rest : List Placed → List ℕ → List ℕ → Terms → List ℕ → Type 0
  Rest placed vars env ts refs =
      (v : Premised) (e : Emitter) → Sound S e → Shaped S.pack v.graph → Standing S.pack vars env v.graph → AllPlaced S.pack v.graph placed → UsesIn S.pack v.graph v.uses
      → Comes S (λ x _. Premises S.pack v.graph x) (lay_premises S.pack placed env ts refs v) e

  module _ (placed : List Placed) (vars env : List ℕ) (t : Term) (ts : Terms) (r : ℕ) (refs : List ℕ) (rest : Rest placed vars env ts refs) (ready : RefReady S.pack (steps_of placed) t r) where
    -- from a graph with nodes more
    rest_from : (g : Graph) (v : Premised) (e : Emitter) → Sound S e → From S.pack g v.graph → Standing S.pack vars env g → AllPlaced S.pack g placed → UsesIn S.pack v.graph v.uses
        → Comes S (λ x _. Premises S.pack g x) (lay_premises S.pack placed env ts refs v) e
    rest_from g v e s F E A U =
        let P = S.pack in
        weaker S (λ x _. Premises P v.graph x) (λ x _. Premises P g x) (lay_premises P placed env ts refs v) e
        (rest v e s F.shaped (standing_kept P vars env g v.graph F.keeps E) (placed-kept P g v.graph F.keeps placed A) U)
        (λ x _ _ _ X. record { from = from_trans P g v.graph x.graph F X.from; uses = X.uses })

    -- one premise, its instance being in the graph, and then the rest
    premise_at : (w : Premised) (e : Emitter) → Sound S e → Standing S.pack vars env w.graph → AllPlaced S.pack w.graph placed → UsesIn S.pack w.graph w.uses
        → Put S.pack prop w.graph (instantiate t env w.graph) → From S.pack w.graph (instantiate t env w.graph).graph → (b : Bool) → is_a_cut S.pack (predicate_of S.pack (first_of S.pack r)) ≡ b
        → let inst = instantiate t env w.graph in Comes S (λ x _. Premises S.pack w.graph x) (elim b as (λ _. Emitter → Run (Tried Premised)) [
          | true ↦ lay_premises S.pack placed env ts refs (record { graph = inst.graph; uses = w.uses ++ (some (record { node = inst.at; judgment = (step_of S.pack (first_of S.pack r)).judgment }) ∷ []) })
          | false ↦ unified inst.graph inst.at (conclusion_of (first_of S.pack r) placed) >>= λ g. lay_premises S.pack placed env ts refs (record { graph = g; uses = w.uses ++ (none ∷ []) })
        ]) e
    premise_at w e s E A U I F true c =
        let P = S.pack in
        let g = w.graph in
        let inst = instantiate t env g in
        let u : Use = record { node = inst.at; judgment = (step_of P (first_of P r)).judgment } in
        rest_from g (record { graph = inst.graph; uses = w.uses ++ (some u ∷ []) }) e s F E A
        (uses_some P inst.graph w.uses u (uses_kept P g inst.graph F.keeps w.uses U) (use_in (steps_of placed) t r env g ready c I))
    premise_at w e s E A U I F false c =
        let P = S.pack in
        let g = w.graph in
        let inst = instantiate t env g in
        let C = conclusion-placed P inst.graph (first_of P r) placed (placed-kept P g inst.graph F.keeps placed A) (ready.placed c) in
        then_comes S (λ h _. From P inst.graph h) (λ x _. Premises P g x) (unified inst.graph inst.at (conclusion_of (first_of P r) placed)) _ e
        (unified_comes S inst.graph inst.at (conclusion_of (first_of P r) placed) e s F.shaped I.inside C.0 (I.sort ∙ sym C.1))
        (λ h e₁ _ s₁ H.
        let F₁ = from_trans P g inst.graph h F H in
        rest_from g (record { graph = h; uses = w.uses ++ (none ∷ []) }) e₁ s₁ F₁ E A (uses_none P h w.uses (uses_kept P g h F₁.keeps w.uses U)))

    premise_next : (w : Premised) (e : Emitter) → Sound S e → Shaped S.pack w.graph → Standing S.pack vars env w.graph → Sorted S.pack vars t prop → AllPlaced S.pack w.graph placed → UsesIn S.pack w.graph w.uses
        → Comes S (λ x _. Premises S.pack w.graph x) (lay_premises S.pack placed env (cons t ts) (r ∷ refs) w) e
    unfolding lay_premises
    premise_next w e s G E T A U =
        let P = S.pack in
        let g = w.graph in
        let inst = instantiate t env g in
        let I = instantiate_sorted P few vars env t prop g G.sorted E T in
        let F = from-behind P g inst.graph G I.sorted I.begins (behind_instance t env g) in
        then_comes S (λ _ e₁. e₁ ≡ e) (λ x _. Premises P g x) (celled inst.graph) _ e (celled_comes S inst.graph e s) (λ _ e₁ _ s₁ _. premise_at w e₁ s₁ E A U I F (is_a_cut P (predicate_of P (first_of P r))) refl)

  -- premises beside their refs
  pub premises_comes : (placed : List Placed) (vars env : List ℕ) (ts : Terms) (refs : List ℕ) → Judgments S.pack vars ts → RefsReady S.pack (steps_of placed) ts refs → Rest placed vars env ts refs
  unfolding lay_premises
  premises_comes placed vars env nil refs T R w e s G E A U = gives S (λ x _. Premises S.pack w.graph x) w e s (record { from = record { shaped = G; keeps = keeps_refl w.graph }; uses = U })
  premises_comes placed vars env (cons t ts) [] T R w e s G E A U = gives S (λ x _. Premises S.pack w.graph x) w e s (record { from = record { shaped = G; keeps = keeps_refl w.graph }; uses = U })
  premises_comes placed vars env (cons t ts) (r ∷ refs) T R w e s G E A U =
      premise_next placed vars env t ts r refs (λ v e₁ s₁ G₁ E₁ A₁ U₁. premises_comes placed vars env ts refs T.1 R.1 v e₁ s₁ G₁ E₁ A₁ U₁) R.0 w e s G E T.0 A U
