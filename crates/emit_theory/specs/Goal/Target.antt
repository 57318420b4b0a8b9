-- What is to be derived, put into a goal's graph: a node of a judgment's sort stands there for the goal.
use Rattle.std.specs.Prelude.{◌≡◌, Bool, true, false, ℕ, suc, ◌<◌, length}
use Rattle.std.proofs.Common.{◌∙◌}
use mathlib.Core.List.{List, [], ◌∷◌}
use native.Mathlib.Omega.{arith}
use Rattle.definition.specs.Test.{never, any}
use Rattle.definition.specs.Pack.{prop, Pack, sort_of}
use Rattle.definition.specs.Good.{Good, Few}
use Rattle.definition.specs.Verdict.{Bound, value_of}
use Rattle.definition.specs.Store.{term_of}
use Rattle.definition.specs.Graph.{Graph}
use Rattle.definition.specs.Analysis.{pairing, copied}
use Rattle.definition.specs.Run.{Run}
use Rattle.emission.specs.State.{Emitter, Setting, Tried, give, fail, celled}
use Rattle.emission.specs.Global.{node_of_l, Lowered, lower, lower_term}
use Rattle.emission.specs.Lay.{Target, as_open, as_ground, open_variable, lay_target}
use Rattle.emission.specs.Derive.{ground_nodes}
use Rattle.theory.specs.Unification.Solve.{sort_at}
use Rattle.theory.specs.Copies.Begin.{begins_refl}
use Rattle.theory.specs.Copies.Copying.{value_of_new, copied_is}
use Rattle.emit_theory.specs.Graphs.{SortedGraph}
use Rattle.emit_theory.specs.Graph.Lower.{Lowers, copied_lowered, lower_sorted}
use Rattle.emit_theory.specs.Graph.Terms.{TermOf, open_sort, variables_open, lower_term_sorted}
use Rattle.emit_theory.specs.Sound.{Sound}
use Rattle.emit_theory.specs.Comes.{Comes, gives, fails, then_comes, now_comes}
use Rattle.emit_theory.specs.Goal.Behind.{behind_term, behind_open, behind-lower}
use Rattle.emit_theory.specs.Goal.Placed.{Shaped}
use Rattle.emit_theory.specs.Goal.Lay.{From, from-behind, celled_comes}

-- L is the first node, of its sort
pub record HasL (S : Setting) (g : Graph) : Type 0 where
  pub inside : node_of_l < length g
  pub sort : sort_at S.pack g node_of_l ≡ S.sort

-- what is asked of a target in a state: an open conclusion is a judgment, L's sort being the chosen variables'
abbrev pub Sensible : Setting → Emitter → Target → Type 0
Sensible S e (as_open conclusion chosen values) = (conclusion < length e.kept.store) × TermOf S.pack (open_sort S.pack S.sort chosen values) (term_of e.kept.store conclusion) prop
Sensible S e as_ground = Unit {0}

-- the goal's node in a graph made from g
pub record Aims (P : Pack) (t : Target) (goal : ℕ) (g : Graph) (aim : Lowered) : Type 0 where
  pub from : From P g aim.graph
  pub inside : copied aim.nodes goal < length aim.graph
  pub sort : sort_at P aim.graph (copied aim.nodes goal) ≡ prop
  pub lowers : Lowers P (record { graph = aim.graph; nodes = ground_nodes t aim.nodes })

-- no ground node was lowered
pub none_lowered : (P : Pack) (g : Graph) → SortedGraph P g → Lowers P (record { graph = g; nodes = [] })
unfolding value_of
none_lowered P g G = record { sorted = G; nodes = λ n x e. never (cc) }

module _ (S : Setting) (good : Good S.pack) (few : Few S.pack) where
  -- a class's conclusion, if a variable in it is chosen
  open_at : (conclusion : ℕ) (chosen : ℕ → Bool) (values : List Bound) (goal : ℕ) (g : Graph) (aim : Lowered) (e : Emitter) → Sound S e → Aims S.pack (as_open conclusion chosen values) goal g aim → (b : Bool)
      → Comes S (λ x _. Aims S.pack (as_open conclusion chosen values) goal g x) (elim b as (λ _. Emitter → Run (Tried Lowered)) [ true ↦ give aim | false ↦ fail ]) e
  open_at conclusion chosen values goal g aim e s A true = gives S (λ x _. Aims S.pack (as_open conclusion chosen values) goal g x) aim e s A
  open_at conclusion chosen values goal g aim e s A false = fails S (λ x _. Aims S.pack (as_open conclusion chosen values) goal g x) e s

  -- its node
  open_aims : (conclusion : ℕ) (chosen : ℕ → Bool) (values : List Bound) (goal : ℕ) (g : Graph) (e : Emitter) → Shaped S.pack g → HasL S g → Sensible S e (as_open conclusion chosen values)
      → let made = lower_term (open_variable S.pack chosen values) (term_of e.kept.store conclusion) g in
      Aims S.pack (as_open conclusion chosen values) goal g (record { graph = made.graph; nodes = pairing goal made.at ∷ [] })
  unfolding ground_nodes
  open_aims conclusion chosen values goal g e G l h =
      let P = S.pack in
      let t = term_of e.kept.store conclusion in
      let made = lower_term (open_variable P chosen values) t g in
      let so = open_sort P S.sort chosen values in
      let M = lower_term_sorted P few so g (open_variable P chosen values) (variables_open P S.sort chosen values g l.inside l.sort) t prop g (begins_refl g) G.sorted h.1 in
      let c : copied (pairing goal made.at ∷ []) goal ≡ made.at = copied_is (pairing goal made.at ∷ []) goal made.at (value_of_new goal made.at []) in
      record {
        from = from-behind P g made.graph G M.sorted M.begins (behind_term (open_variable P chosen values) (behind_open P chosen values) t g);
        inside = rw c M.inside;
        sort = rw c M.sort;
        lowers = none_lowered P made.graph M.sorted;
      }

  -- a goal's own judgment
  ground_aims : (goal : ℕ) (g : Graph) → goal < length S.pack.nodes → sort_of S.pack goal ≡ prop → Shaped S.pack g → Aims S.pack as_ground goal g (lower (suc goal) S.pack (goal ∷ []) (record { graph = g; nodes = [] }))
  unfolding ground_nodes
  ground_aims goal g l q G =
      let P = S.pack in
      let w : Lowered = record { graph = g; nodes = [] } in
      let made = lower (suc goal) P (goal ∷ []) w in
      let M = lower_sorted P good few (suc goal) (goal ∷ []) w (omega arith, tt) (l, tt) (none_lowered P g G.sorted) in
      let c = copied_lowered P made M.0.lowers goal M.1.0 in
      record {
        from = from-behind P g made.graph G M.0.lowers.sorted M.0.begins (behind-lower (suc goal) P (goal ∷ []) w);
        inside = c.0;
        sort = c.1 ∙ q;
        lowers = M.0.lowers;
      }

  -- a sensible target of a judgment
  pub target_comes : (t : Target) (goal : ℕ) (g : Graph) (e : Emitter) → Sound S e → goal < length S.pack.nodes → sort_of S.pack goal ≡ prop → Shaped S.pack g → HasL S g → Sensible S e t
      → Comes S (λ aim _. Aims S.pack t goal g aim) (lay_target S t goal g) e
  unfolding lay_target
  target_comes (as_open conclusion chosen values) goal g e s l q G h k =
      let t = as_open conclusion chosen values in
      let made = lower_term (open_variable S.pack chosen values) (term_of e.kept.store conclusion) g in
      let A = open_aims conclusion chosen values goal g e G h k in
      let Q : Lowered → Emitter → Type 0 = λ aim _. Aims S.pack t goal g aim in
      now_comes S Q _ e s (then_comes S (λ _ e₁. e₁ ≡ e) Q (celled made.graph) _ e (celled_comes S made.graph e s)
      (λ _ e₁ _ s₁ _. open_at conclusion chosen values goal g (record { graph = made.graph; nodes = pairing goal made.at ∷ [] }) e₁ s₁ A (any (λ (b : Bound). chosen b.variable) values)))
  target_comes as_ground goal g e s l q G h k =
      let made = lower (suc goal) S.pack (goal ∷ []) (record { graph = g; nodes = [] }) in
      let Q : Lowered → Emitter → Type 0 = λ aim _. Aims S.pack as_ground goal g aim in
      then_comes S (λ _ e₁. e₁ ≡ e) Q (celled made.graph) _ e (celled_comes S made.graph e s) (λ _ e₁ _ s₁ _. gives S Q made e₁ s₁ (ground_aims goal g l q G))
