-- What the premises of the step that makes a class come to, one by one.
use Rattle.std.specs.Prelude.{◌≡◌, List, [], ◌∷◌, ◌++◌, map, ℕ, ◌≤◌, ◌<◌, length, get_or}
use Rattle.std.proofs.Common.{◌∙◌}
use Rattle.std.proofs.Math.Option.{none, some}
use Rattle.definition.specs.Pack.{Term, Terms, cons, Pack, rule_of, step_of}
use Rattle.definition.specs.Certificate.{count}
use Rattle.definition.specs.Frame.{refuse}
use Rattle.definition.specs.Answer.{Lent}
use Rattle.definition.specs.Run.{Run, length_of, outcome}
use Rattle.definition.specs.Keys.{first_of, keyed as keys_of}
use Rattle.definition.specs.Graph.{Graph, up_to, Unified, cells as cells_of}
use Rattle.definition.specs.Analysis.{instantiate}
use Rattle.definition.specs.Classes.{Class, no_class, Built, Premises, in_order, take_premises}
use Rattle.definition.specs.declared.Refusal.TheVariants.{Clash as Clashes, Short as TooShort}
use Rattle.theory.specs.Classes.Premises.{Made}
use Rattle.class_premises.specs.Takes.{fresh_of, placed_of, joined_of}
use Rattle.theory.specs.Making.Runs.{outcome-note, outcome_short, outcome_some, outcome-none}
use Rattle.class_premises.specs.declared.premises.Ruling.{Ruling}

-- the refs' first steps
abbrev pub refs_of : Pack → Ruling → List ℕ
refs_of P u = map (first_of P) (step_of P u.step).refs

-- the step makes the next class: its rule and what that has, and its refs' classes are made
pub record Ruled (P : Pack) (b : Built) (u : Ruling) : Type 0 where
  pub step : u.step < length P.steps
  pub rule : u.rule ≡ (step_of P u.step).rule
  pub vars : u.vars ≡ length (rule_of P u.rule).vars
  pub premises : u.premises ≡ count (rule_of P u.rule).premises
  pub made : Made (keys_of P).words b (refs_of P u)

-- premises from some on, with their refs
abbrev pub takes : Pack → Built → Ruling → Terms → List ℕ → Premises → Run Premises
takes P b u ts refs ps = take_premises P u.step (keys_of P).words b (up_to u.vars) ts refs ps

-- ---- one premise by the definition
-- the class of a ref
abbrev pub class_of : Pack → Built → ℕ → Class
class_of P b r = get_or b.classes (get_or (keys_of P).words r 0) no_class

-- what is held then
abbrev pub next_of : Pack → Built → Ruling → Term → ℕ → Premises → Graph → Premises
next_of P b u t r ps g = record {
  graph = g;
  instances = ps.instances ++ ((instantiate t (up_to u.vars) (fresh_of b.store (class_of P b r).flex (class_of P b r).conclusion ps.graph).graph).at ∷ []);
  judgments = ps.judgments ++ ((step_of P r).judgment ∷ []);
  copies = ps.copies ++ in_order (up_to (length (class_of P b r).flex)) (fresh_of b.store (class_of P b r).flex (class_of P b r).conclusion ps.graph).variables;
}

module _ (P : Pack) (b : Built) (u : Ruling) (t : Term) (ts : Terms) (r : ℕ) (refs : List ℕ) (ps : Premises) (L : Lent) where
  -- the instance's graph
  abbrev top : Graph
  top = placed_of b.store (class_of P b r).flex (class_of P b r).conclusion (up_to u.vars) t ps.graph

  abbrev joined : Unified
  joined = joined_of b.store (class_of P b r).flex (class_of P b r).conclusion (up_to u.vars) t ps.graph

  pub takes_short : L.graph < cells_of top → outcome L (takes P b u (cons t ts) (r ∷ refs) ps) ≡ refuse (TooShort 3)
  unfolding take_premises length_of
  takes_short h = outcome_short L 3 (cells_of top) _ h

  module _ (room : cells_of top ≤ L.graph) where
    pub takes_clash : joined.graph ≡ none → outcome L (takes P b u (cons t ts) (r ∷ refs) ps) ≡ refuse (Clashes u.step)
    unfolding take_premises length_of
    takes_clash e = outcome-note L 3 (cells_of top) _ room ∙ outcome-none L joined.graph (Clashes u.step) _ e

    pub takes_on : (g : Graph) → joined.graph ≡ some g → outcome L (takes P b u (cons t ts) (r ∷ refs) ps) ≡ outcome L (takes P b u ts refs (next_of P b u t r ps g))
    unfolding take_premises length_of
    takes_on g e = outcome-note L 3 (cells_of top) _ room ∙ outcome_some L joined.graph g (Clashes u.step) _ e
