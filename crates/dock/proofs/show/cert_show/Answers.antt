-- `cert_show` meets its contract.
use mathlib.Core.Path.{refl, ◌∙◌}
use native.Mathlib.Omega.{arith}
use Rattle.dock.specs.Shown.{promised_done, promised_refused}
use Rattle.dock.proofs.show.cert_show.Goals as goal

pub shape_of-class-in-Ok : goal.shape_of-class-in-Ok
shape_of-class-in-Ok c = c.clear.auto.class ∙ c.show_outcome.auto.class

pub shape_of-pattern-in-Ok : goal.shape_of-pattern-in-Ok
shape_of-pattern-in-Ok c = c.clear.auto.pattern ∙ c.show_outcome.auto.pattern

pub shape_of-graph-in-Ok : goal.shape_of-graph-in-Ok
shape_of-graph-in-Ok c = c.clear.auto.graph ∙ c.show_outcome.auto.graph

pub shape_of-work-in-Ok : goal.shape_of-work-in-Ok
shape_of-work-in-Ok c = c.clear.auto.work ∙ c.show_outcome.auto.work

pub shape_of-text-in-Ok : goal.shape_of-text-in-Ok
shape_of-text-in-Ok c = c.fill_from.auto.cells ∙ c.show_outcome.auto.text

pub returns-in-Ok : goal.returns-in-Ok
returns-in-Ok c =
    let m = c.show_outcome in
    let z = c.clear in
    let a = c.args in
    let r = promised_done a.pack.now a.class.now a.pattern.now a.graph.now a.work.now a.text.now m.new.class m.new.pattern m.new.graph m.new.work m.new.text (record { form = a.budget; value = a.value_budget }) m.auto.class m.auto.pattern m.auto.graph m.auto.work m.auto.text _ _ _ _ _ _ _ _ z.ensures.class z.ensures.pattern z.ensures.graph z.ensures.work c.fill_from.ensures (λ i. omega (arith, c.shared_slice_known-1.given i)) c.in-Ok.f (rw c.in-Ok.is at m.ensures) in
    record { answer = r.0; principal = r.1 }

pub shape_of-class-in-Err : goal.shape_of-class-in-Err
shape_of-class-in-Err c = c.clear-in-Err.auto.class ∙ c.show_outcome.auto.class

pub shape_of-pattern-in-Err : goal.shape_of-pattern-in-Err
shape_of-pattern-in-Err c = c.clear-in-Err.auto.pattern ∙ c.show_outcome.auto.pattern

pub shape_of-graph-in-Err : goal.shape_of-graph-in-Err
shape_of-graph-in-Err c = c.clear-in-Err.auto.graph ∙ c.show_outcome.auto.graph

pub shape_of-work-in-Err : goal.shape_of-work-in-Err
shape_of-work-in-Err c = c.clear-in-Err.auto.work ∙ c.show_outcome.auto.work

pub shape_of-text-in-Err : goal.shape_of-text-in-Err
shape_of-text-in-Err c = c.fill_from-in-Err.auto.cells ∙ c.show_outcome.auto.text

pub returns-in-Err : goal.returns-in-Err
returns-in-Err c =
    let m = c.show_outcome in
    let z = c.clear-in-Err in
    let a = c.args in
    let r = promised_refused a.pack.now a.class.now a.pattern.now a.graph.now a.work.now a.text.now m.new.class m.new.pattern m.new.graph m.new.work m.new.text (record { form = a.budget; value = a.value_budget }) m.auto.class m.auto.pattern m.auto.graph m.auto.work m.auto.text _ _ _ _ _ _ _ _ z.ensures.class z.ensures.pattern z.ensures.graph z.ensures.work c.fill_from-in-Err.ensures (λ i. omega (arith, c.shared_slice_known-1.given i)) refl refl refl c.in-Err.r c.outcome_answer-a.result c.no_figures.result (rw c.in-Err.is at m.ensures) c.outcome_answer-a.ensures c.no_figures.ensures in
    record { answer = r.0; principal = r.1 }
