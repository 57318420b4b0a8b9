-- One attempt at a goal: from a sound state to a sound state, and the line that it comes to states the judgment that it comes to.
use Rattle.std.specs.Prelude.{◌≡◌, true, false, ℕ, zero, suc, ◌<◌}
use Rattle.std.proofs.Common.{sym, ◌∙◌, subst, arith}
use mathlib.Core.List.{List, [], ◌∷◌}
use Rattle.std.proofs.Math.Option.{some}
use Rattle.std.proofs.Math.ListN.{length}
use Rattle.definition.specs.Test.{never, any}
use Rattle.definition.specs.Pack.{prop, Pack, step_of}
use Rattle.definition.specs.Good.{Good, Few}
use Rattle.definition.specs.Verdict.{Bound, value_of}
use Rattle.definition.specs.Graph.{Graph, variable_vertex, vertex, push, root}
use Rattle.definition.specs.Analysis.{copied}
use Rattle.definition.specs.Keys.{predicate_of, is_a_cut, needed_below}
use Rattle.emission.specs.State.{Emitter, Setting, ◌>>=◌, give, celled, unified}
use Rattle.emission.specs.Global.{Lowered}
use Rattle.emission.specs.Lay.{Placed, Laid, conclusion_of, lay_steps, Target, as_open, as_ground, lay_target}
use Rattle.emission.specs.Choose.{choose}
use Rattle.emission.specs.Derive.{Stated, Lines, Derived, uses_of, settled, raise_judgment, step_lines, ground_nodes, derive_goal}
use Rattle.theory.specs.Copies.Copying.{copied_is}
use Rattle.theory.specs.Patterns.Interned.{grows_long}
use Rattle.theory.specs.Keys.Needed.{Among, among_here, wanted-needed}
use Rattle.emit_theory.specs.Graphs.{SortedGraph}
use Rattle.emit_theory.specs.Graph.Kept.{Keeps, keeps_sort}
use Rattle.emit_theory.specs.Graph.Push.{put-variable}
use Rattle.emit_theory.specs.Graph.Lower.{Lowers}
use Rattle.emit_theory.specs.Graph.Terms.{TermOf, open_sort}
use Rattle.emit_theory.specs.Patterns.{Of}
use Rattle.emit_theory.specs.Sound.{Told, Sound, Grew, grew_then, term_grows, told_grows}
use Rattle.emit_theory.specs.Comes.{Comes, gives, then_comes, weaker}
use Rattle.emit_theory.specs.Goal.Heads.{Headed}
use Rattle.emit_theory.specs.Goal.Needed.{StepMeets, needed_ready}
use Rattle.emit_theory.specs.Goal.Placed.{Shaped, AllPlaced, placed-kept, steps_of, conclusion-placed, Own}
use Rattle.emit_theory.specs.Goal.Lay.{From, celled_comes, unified_comes}
use Rattle.emit_theory.specs.Goal.Laid.{Laying, Lays, steps_comes}
use Rattle.emit_theory.specs.Goal.Target.{HasL, Sensible, Aims, target_comes}
use Rattle.emit_theory.specs.Goal.Output.{ProvesCut}
use Rattle.emit_theory.specs.Goal.Choose.{L_kept, reads_start, choose_comes}
use Rattle.emit_theory.specs.Goal.Settled.{uses_placed, settled_sorted}
use Rattle.emit_theory.specs.Goal.Steps.{States, raised_of, raise_comes}
use Rattle.emit_theory.specs.Goal.Lines.{Stepped, lines_come}

-- what an attempt comes to: its line states its judgment, in which L is the only variable
pub record Reaches (S : Setting) (d : Derived) (e : Emitter) : Type 0 where
  pub told : Told e.undone.lines e.kept.store d.judgment d.line
  pub judgment : Of S.pack S.eigen [] e.kept.store prop d.judgment

-- the graph of L alone
abbrev only_l : Setting → Graph
only_l S = variable_vertex S.sort false true ∷ []

no_node : (P : Pack) → SortedGraph P []
no_node P x l = absurd (omega arith)

L_headed : (S : Setting) → Headed (only_l S)
unfolding vertex
L_headed S zero y e n = never (cc)
L_headed S (suc x) y e n = never (cc)

L_shaped : (S : Setting) → Shaped S.pack (only_l S)
unfolding push
L_shaped S = record { sorted = (put-variable S.pack [] S.sort false true (no_node S.pack)).sorted; headed = L_headed S }

L_there : (S : Setting) → HasL S (only_l S)
unfolding push
L_there S = record { inside = omega arith; sort = (put-variable S.pack [] S.sort false true (no_node S.pack)).sort }

-- no step was laid yet
none_laid : (S : Setting) → Laying S.pack [] (record { graph = only_l S; steps = [] })
unfolding any
none_laid S = record { shaped = L_shaped S; placed = tt; has = λ s a c. never (cc); only = λ s a. never (cc); own = tt }

-- a target that is sensible stays so
sensible_later : (S : Setting) (a b : Emitter) → Grew a b → (t : Target) → Sensible S a t → Sensible S b t
sensible_later S a b G (as_open conclusion chosen values) h =
    let l = grows_long a.kept.store b.kept.store G.store in
    let q = term_grows a.kept.store b.kept.store G.store conclusion h.0 in
    (omega (arith, h.0), subst (λ x. TermOf S.pack (open_sort S.pack S.sort chosen values) x prop) (sym q) h.1)
sensible_later S a b G as_ground h = tt

-- ground nodes that were lowered are so where the nodes are kept
lowers-kept : (P : Pack) (g h : Graph) (nodes : List Bound) → Keeps g h → SortedGraph P h → Lowers P (record { graph = g; nodes = nodes }) → Lowers P (record { graph = h; nodes = nodes })
lowers-kept P g h nodes k H W = record { sorted = H; nodes = λ n x e. let w = W.nodes n x e in (omega (arith, w.0, k.longer), keeps_sort P g h k x w.0 ∙ w.1) }

some_eq : {a b : ℕ} → some a ≡ some b → a ≡ b
some_eq e = cc

module _ (S : Setting) (good : Good S.pack) (few : Few S.pack) (cut : ProvesCut S) (top : ℕ) where
  -- the line of the top step, and its judgment raised again: the memo has it
  top_reaches : (g : Graph) (all : List Placed) (w : Lines Bound) (a : Emitter) → Stepped S g all (record { lines = []; memo = [] }) all w a → Among top (steps_of all) → AllPlaced S.pack g all
      → (j : Stated) (e : Emitter) → Grew a e → States S g (conclusion_of top all) w.memo j e → Reaches S (record { line = copied w.lines top; judgment = j.judgment }) e
  top_reaches g all w a W i A j e G J =
      let v = W.new top i in
      let N = W.lined top v.0 v.1 in
      let c = copied_is w.lines top v.0 v.1 in
      let q : N.pattern ≡ j.judgment = some_eq (sym (J.stays (root g (conclusion_of top all)) N.pattern N.noted) ∙ J.noted) in
      let T = told_grows a.undone.lines e.undone.lines a.kept.store e.kept.store G.lines G.store N.pattern v.0 N.told in
      record {
        told = rw c (subst (λ p. Told e.undone.lines e.kept.store p v.0) q T);
        judgment = raised_of S g e (conclusion_of top all) j.judgment prop (conclusion-placed S.pack g top all A i).1 J.raised;
      }

  -- the lines, from a settled graph
  lines_reach : (g : Graph) (all : List Placed) (e : Emitter) → Sound S e → SortedGraph S.pack g → HasL S g → AllPlaced S.pack g all → Own all all → Among top (steps_of all)
      → Comes S (Reaches S) (step_lines S g all (record { lines = []; memo = [] }) >>= λ w. raise_judgment S g (conclusion_of top all) w.memo >>= λ j. give (record { line = copied w.lines top; judgment = j.judgment })) e
  unfolding value_of
  lines_reach g all e s G l A O i =
      let start : Lines Bound = record { lines = []; memo = [] } in
      then_comes S (Stepped S g all start all) (Reaches S) (step_lines S g all start) _ e (lines_come S g G cut all all A O start e s (reads_start S g e s l) (λ t n z. never (cc)))
      (λ w e₁ _ s₁ W. then_comes S (States S g (conclusion_of top all) w.memo) (Reaches S) (raise_judgment S g (conclusion_of top all) w.memo) _ e₁
      (raise_comes S g G (conclusion_of top all) w.memo e₁ s₁ (conclusion-placed S.pack g top all A i).0 W.reads)
      (λ j e₂ g₂ s₂ J. gives S (Reaches S) (record { line = copied w.lines top; judgment = j.judgment }) e₂ s₂ (top_reaches g all w e₁ W i A j e₂ g₂ J)))

  -- outputs chosen and the rest settled, from a graph in which the goal is unified with the last conclusion
  choice_reaches : (all : List Placed) (g : Graph) (nodes : List Bound) (e : Emitter) → Sound S e → Shaped S.pack g → HasL S g → AllPlaced S.pack g all → Own all all → Among top (steps_of all) → Lowers S.pack (record { graph = g; nodes = nodes })
      → let uses = uses_of all in
      Comes S (Reaches S) (choose (suc (length uses)) S uses g >>= λ h. let done = settled S.pack all (record { graph = h; nodes = nodes }) in
      celled done >>= λ _. step_lines S done all (record { lines = []; memo = [] }) >>= λ w. raise_judgment S done (conclusion_of top all) w.memo >>= λ j. give (record { line = copied w.lines top; judgment = j.judgment })) e
  choice_reaches all g nodes e s G l A O i W =
      let P = S.pack in
      let uses = uses_of all in
      then_comes S (λ h _. From P g h) (Reaches S) (choose (suc (length uses)) S uses g) _ e (choose_comes S good few cut (suc (length uses)) uses g e s G l (uses_placed P g all A))
      (λ h e₁ _ s₁ H.
      let low : Lowered = record { graph = h; nodes = nodes } in
      let done = settled P all low in
      let A₁ = placed-kept P g h H.keeps all A in
      let D = settled_sorted P good few all low (lowers-kept P g h nodes H.keeps H.shaped.sorted W) A₁ in
      then_comes S (λ _ e₂. e₂ ≡ e₁) (Reaches S) (celled done) _ e₁ (celled_comes S done e₁ s₁)
      (λ _ e₂ _ s₂ _. lines_reach done all e₂ s₂ D.sorted (L_kept S h done D.keeps (L_kept S g h H.keeps l)) (placed-kept P h done D.keeps all A₁) O i))

  module _ (t : Target) (given : top < length S.pack.steps) where
    -- the target, from the steps laid
    target_reaches : (laid : Laid) (e : Emitter) → Sound S e → Shaped S.pack laid.graph → HasL S laid.graph → AllPlaced S.pack laid.graph laid.steps → Own laid.steps laid.steps → Among top (steps_of laid.steps) → Sensible S e t
        → let goal = (step_of S.pack top).judgment in
        let uses = uses_of laid.steps in
        Comes S (Reaches S) (lay_target S t goal laid.graph >>= λ aim. unified aim.graph (conclusion_of top laid.steps) (copied aim.nodes goal) >>= λ g. choose (suc (length uses)) S uses g
        >>= λ h. let done = settled S.pack laid.steps (record { graph = h; nodes = ground_nodes t aim.nodes }) in
        celled done >>= λ _. step_lines S done laid.steps (record { lines = []; memo = [] }) >>= λ w. raise_judgment S done (conclusion_of top laid.steps) w.memo
        >>= λ j. give (record { line = copied w.lines top; judgment = j.judgment })) e
    target_reaches laid e s G l A O i k =
        let P = S.pack in
        let goal = (step_of P top).judgment in
        let all = laid.steps in
        let N = (good.steps top given).judgment in
        then_comes S (λ aim _. Aims P t goal laid.graph aim) (Reaches S) (lay_target S t goal laid.graph) _ e (target_comes S good few t goal laid.graph e s N.given N.predicate G l k)
        (λ aim e₁ _ s₁ T.
        let A₁ = placed-kept P laid.graph aim.graph T.from.keeps all A in
        let C = conclusion-placed P aim.graph top all A₁ i in
        then_comes S (λ g _. From P aim.graph g) (Reaches S) (unified aim.graph (conclusion_of top all) (copied aim.nodes goal)) _ e₁
        (unified_comes S aim.graph (conclusion_of top all) (copied aim.nodes goal) e₁ s₁ T.from.shaped C.0 T.inside (C.1 ∙ sym T.sort))
        (λ g e₂ _ s₂ U. choice_reaches all g (ground_nodes t aim.nodes) e₂ s₂ U.shaped (L_kept S aim.graph g U.keeps (L_kept S laid.graph aim.graph T.from.keeps l))
        (placed-kept P aim.graph g U.keeps all A₁) O i (lowers-kept P aim.graph g (ground_nodes t aim.nodes) U.keeps U.shaped.sorted T.lowers)))

-- what is asked of a goal's step: it isn't cut, and its own steps meet their refs
pub record Attemptable (P : Pack) (top : ℕ) : Type 0 where
  pub given : top < length P.steps
  pub uncut : is_a_cut P (predicate_of P top) ≡ false
  pub meets : (s : ℕ) → Among s (needed_below (length P.steps) P (top ∷ [])) → StepMeets P s

module _ (S : Setting) (good : Good S.pack) (few : Few S.pack) (cut : ProvesCut S) where
  -- an attempt at a goal, open or ground
  pub derive_reaches : (t : Target) (top : ℕ) (e : Emitter) → Sound S e → Attemptable S.pack top → Sensible S e t → Comes S (Reaches S) (derive_goal S t top) e
  unfolding derive_goal
  derive_reaches t top e s T k =
      let P = S.pack in
      let n = length P.steps in
      let own = needed_below n P (top ∷ []) in
      let start : Laid = record { graph = only_l S; steps = [] } in
      then_comes S (λ _ e₁. e₁ ≡ e) (Reaches S) (celled (only_l S)) _ e (celled_comes S (only_l S) e s)
      (λ _ e₁ g₁ s₁ _. then_comes S (λ v _. Lays P (only_l S) own v) (Reaches S) (lay_steps P own start) _ e₁ (steps_comes S good few own [] (needed_ready P good n (omega arith) (top ∷ []) T.meets) start e₁ s₁ (none_laid S))
      (λ laid e₂ g₂ s₂ W.
      let i = W.laying.has top (wanted-needed P n (top ∷ []) top T.given (among_here top [])) T.uncut in
      target_reaches S good few cut top t T.given laid e₂ s₂ W.laying.shaped (L_kept S (only_l S) laid.graph W.keeps (L_there S)) W.laying.placed W.laying.own i (sensible_later S e e₂ (grew_then e e₁ e₂ g₁ g₂) t k)))

  -- its line states its judgment
  pub derive_comes : (t : Target) (top : ℕ) (e : Emitter) → Sound S e → Attemptable S.pack top → Sensible S e t
      → Comes S (λ d e₁. Told e₁.undone.lines e₁.kept.store d.judgment d.line) (derive_goal S t top) e
  derive_comes t top e s T k =
      weaker S (Reaches S) (λ d e₁. Told e₁.undone.lines e₁.kept.store d.judgment d.line) (derive_goal S t top) e (derive_reaches t top e s T k) (λ d e₁ _ _ R. R.told)
