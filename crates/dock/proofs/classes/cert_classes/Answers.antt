-- `cert_classes` meets its contract.
use mathlib.Core.Path.{refl, ◌∙◌}
use native.Mathlib.Omega.{arith}
use Rattle.dock.specs.Classes.{promised_done, promised_refused}
use Rattle.dock.proofs.classes.cert_classes.Goals as goal

pub returns-in-Ok : goal.returns-in-Ok
returns-in-Ok c =
    let m = c.classes_outcome in
    let z = c.clear in
    let a = c.args in
    let r = promised_done a.pack.now a.class.now a.pattern.now a.graph.now a.work.now m.new.class m.new.pattern m.new.graph m.new.work m.auto.class m.auto.pattern m.auto.graph m.auto.work _ _ _ _ _ _ z.ensures.class z.ensures.pattern z.ensures.graph z.ensures.work (λ i. omega (arith, c.shared_slice_known-1.given i)) c.in-Ok.f (rw c.in-Ok.is at m.ensures) in
    record { answer = r.0; principal = r.1 }

pub shape_of-class-in-Err : goal.shape_of-class-in-Err
shape_of-class-in-Err c = c.clear-in-Err.auto.class ∙ c.classes_outcome.auto.class

pub returns-in-Err : goal.returns-in-Err
returns-in-Err c =
    let m = c.classes_outcome in
    let z = c.clear-in-Err in
    let a = c.args in
    let r = promised_refused a.pack.now a.class.now a.pattern.now a.graph.now a.work.now m.new.class m.new.pattern m.new.graph m.new.work m.auto.class m.auto.pattern m.auto.graph m.auto.work _ _ _ _ _ _ z.ensures.class z.ensures.pattern z.ensures.graph z.ensures.work (λ i. omega (arith, c.shared_slice_known-1.given i)) refl refl c.in-Err.r c.outcome_answer-a.result c.no_figures.result (rw c.in-Err.is at m.ensures) c.outcome_answer-a.ensures c.no_figures.ensures in
    record { answer = r.0; principal = r.1 }
