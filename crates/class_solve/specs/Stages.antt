-- The class that a step makes, in the stages of the definition's run.
use Rattle.std.specs.Prelude.{◌≡◌, true, false, List, [], ◌∷◌, map, ℕ, suc, ◌≤◌, ◌<◌, length, get_or}
use Rattle.std.proofs.Common.{sym, ap, ap₂, ◌∙◌}
use Rattle.std.proofs.Math.Bool.{not}
use Rattle.std.proofs.Math.Option.{Option, none, some}
use Rattle.definition.specs.Pack.{Pack, no_node, rule_of, step_of}
use Rattle.definition.specs.Frame.{fine, refuse}
use Rattle.definition.specs.Answer.{Lent}
use Rattle.definition.specs.Run.{Run, length_of, ◌>>=◌, note, or_else, need, outcome}
use Rattle.definition.specs.Verdict.{Bound}
use Rattle.definition.specs.Store.{is_variable}
use Rattle.definition.specs.Graph.{Graph, Grown, vertex, cells, circular, up_to}
use Rattle.definition.specs.Analysis.{instantiate, valued, Resolved, resolve}
use Rattle.definition.specs.Keys.{first_of}
use Rattle.definition.specs.Classes.{Class, Built, Premises, take_premises, count_of, is_fixed, add_class, make_rule}
use Rattle.definition.specs.declared.Refusal.TheVariants.{Circle, Instance, Short}
use Rattle.term_instantiate.specs.Variables.{variables_of}
use Rattle.theory.specs.Making.Runs.{outcome-note, outcome_short, outcome_some, outcome-none, outcome_holds, outcome_fails, outcome_fine}
use Rattle.class_premises.specs.AllPremises.{start}

-- the conclusion's instance, behind the premises' graph
abbrev pub top_of : Pack → ℕ → ℕ → Premises → Grown
top_of P r n ps = instantiate (rule_of P r).conclusion (up_to n) ps.graph

-- it read back, then the copies' variables
abbrev pub conclusion_of : Pack → Built → ℕ → ℕ → Premises → List Bound → Resolved
conclusion_of P b r n ps vs = resolve (suc (length (top_of P r n ps).graph)) P (top_of P r n ps).graph vs true ((top_of P r n ps).at ∷ []) (record { numbering = []; store = b.store })

abbrev pub entries_of : Pack → Built → ℕ → ℕ → Premises → List Bound → Resolved
entries_of P b r n ps vs = resolve (suc (length (top_of P r n ps).graph)) P (top_of P r n ps).graph vs false ps.copies (conclusion_of P b r n ps vs).state

-- the class
abbrev pub class_of : Pack → Built → ℕ → ℕ → Premises → List Bound → Class
class_of P b r n ps vs = record {
  conclusion = get_or (conclusion_of P b r n ps vs).patterns 0 0;
  flex = map (λ x. (vertex (top_of P r n ps).graph x).flex) (entries_of P b r n ps vs).state.numbering;
  cut = false;
  fixed = count_of (is_fixed (top_of P r n ps).graph vs (entries_of P b r n ps vs).state.numbering) (up_to (length (top_of P r n ps).graph));
  entries = length (entries_of P b r n ps vs).patterns;
  renamings = count_of (λ p. is_variable (get_or (entries_of P b r n ps vs).state.store p no_node)) (entries_of P b r n ps vs).patterns;
}

-- what is left to do behind the values
unfoldable pub rest : Pack → Built → ℕ → ℕ → Premises → List Bound → Run Built
unfolding instantiate cells resolve is_fixed count_of vertex up_to is_variable add_class
rest P b r n ps vs = do
  _ ← note 3 (cells (top_of P r n ps).graph)
  add_class b (entries_of P b r n ps vs).state.store (class_of P b r n ps vs)

-- the ground values of the premises
abbrev pub values_of : Pack → Premises → Option (List Bound)
values_of P ps = valued (suc (length ps.graph)) P ps.graph ps.instances ps.judgments []

-- behind the premises
unfoldable pub behind : Pack → ℕ → Built → ℕ → ℕ → Premises → Run Built
unfolding circular valued need or_else rest
behind P s b r n ps = do
  _ ← need (not (circular ps.graph)) (Circle s)
  vs ← or_else (values_of P ps) (Instance s)
  rest P b r n ps vs

-- all of it, for a rule and its number of variables
unfoldable pub staged : Pack → ℕ → List ℕ → Built → ℕ → ℕ → Run Built
unfolding take_premises cells up_to first_of step_of rule_of behind
staged P s words b r n = do
  _ ← note 3 (cells (variables_of (rule_of P r).vars))
  ps ← take_premises P s words b (up_to n) (rule_of P r).premises (map (first_of P) (step_of P s).refs) (start (variables_of (rule_of P r).vars))
  behind P s b r n ps

-- which is the definition's
pub staged_is : (P : Pack) (s : ℕ) (words : List ℕ) (b : Built) (r n : ℕ) → r ≡ (step_of P s).rule → n ≡ length (rule_of P r).vars → make_rule P s words b ≡ staged P s words b r n
unfolding staged behind rest make_rule
staged_is P s words b r n e f = ap₂ (staged P s words b) (sym e) (ap (λ (q : ℕ). length (rule_of P q).vars) (sym e) ∙ sym f)

-- ---- what it comes to, stage by stage
module _ (P : Pack) (s : ℕ) (words : List ℕ) (b : Built) (r n : ℕ) (L : Lent) where
  abbrev vars : Graph
  vars = variables_of (rule_of P r).vars

  abbrev premises : Run Premises
  premises = take_premises P s words b (up_to n) (rule_of P r).premises (map (first_of P) (step_of P s).refs) (start (variables_of (rule_of P r).vars))

  pub staged_short : L.graph < cells vars → outcome L (staged P s words b r n) ≡ refuse (Short 3)
  unfolding staged length_of
  staged_short h = outcome_short L 3 (cells vars) _ h

  module _ (room : cells vars ≤ L.graph) where
    pub staged-from : outcome L (staged P s words b r n) ≡ outcome L (premises >>= behind P s b r n)
    unfolding staged length_of
    staged-from = outcome-note L 3 (cells vars) _ room

    pub staged_on : (ps : Premises) → outcome L premises ≡ fine ps → outcome L (staged P s words b r n) ≡ outcome L (behind P s b r n ps)
    unfolding staged length_of
    staged_on ps e = outcome-note L 3 (cells vars) _ room ∙ outcome_fine L premises _ ps e

  module _ (ps : Premises) where
    pub behind_circle : circular ps.graph ≡ true → outcome L (behind P s b r n ps) ≡ refuse (Circle s)
    unfolding behind
    behind_circle e = outcome_fails L (not (circular ps.graph)) (Circle s) _ (ap not e)

    module _ (ends : circular ps.graph ≡ false) where
      pub behind_differs : values_of P ps ≡ none → outcome L (behind P s b r n ps) ≡ refuse (Instance s)
      unfolding behind
      behind_differs e = outcome_holds L (not (circular ps.graph)) (Circle s) _ (ap not ends) ∙ outcome-none L (values_of P ps) (Instance s) _ e

      pub behind_on : (vs : List Bound) → values_of P ps ≡ some vs → outcome L (behind P s b r n ps) ≡ outcome L (rest P b r n ps vs)
      unfolding behind
      behind_on vs e = outcome_holds L (not (circular ps.graph)) (Circle s) _ (ap not ends) ∙ outcome_some L (values_of P ps) vs (Instance s) _ e
