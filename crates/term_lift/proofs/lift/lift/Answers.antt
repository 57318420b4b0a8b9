-- `lift` meets its contract: with each turn what is left of the stack gives the same walk.
use Rattle.std.specs.Prelude.{None}
use mathlib.Core.Path.{refl, ◌∙◌}
use Rattle.term_lift.specs.Runs.{walks_at, turns_at, walks_none, walks_on, walks_less, walks_short, walks_lifted, first_starts, first_walks, first_answers, first_done}
use Rattle.term_lift.proofs.lift.lift.Goals as goal

pub loop-top-init : goal.loop-top-init
loop-top-init c = let p = c.requires in (refl, refl, first_walks _ c.args.work.now _ _ _ _ _ p.0 p.1)

pub advance-requires : goal.advance-requires
advance-requires c = let W = walks_at _ _ _ _ _ _ _ _ _ _ _ c.loop-top-test.true c.loop-top.invariant.2 in W.running

pub loop-top-smaller : goal.loop-top-smaller
loop-top-smaller c = let p = c.requires in let F = first_starts _ _ _ _ _ _ _ p.0 p.1 in let W = walks_at _ _ _ _ _ _ _ _ _ _ _ c.loop-top-test.true c.loop-top.invariant.2 in turns_at _ _ _ _ _ _ _ _ c.loop-top-test.true (walks_less _ _ _ _ _ _ _ F _ _ _ _ W c.advance.new.work c.advance.new.words _ _ c.in_ok-top.ensures)

pub loop-top-preserved : goal.loop-top-preserved
loop-top-preserved c = let p = c.requires in let F = first_starts _ _ _ _ _ _ _ p.0 p.1 in let W = walks_at _ _ _ _ _ _ _ _ _ _ _ c.loop-top-test.true c.loop-top.invariant.2 in let k = c.advance.auto in (k.work ∙ c.loop-top.invariant.0, k.words ∙ c.loop-top.invariant.1, walks_on _ _ _ _ _ _ _ F _ _ _ _ W c.advance.new.work c.advance.new.words _ _ c.in_ok-top.ensures)

pub returns-in_err-top : goal.returns-in_err-top
returns-in_err-top c = let p = c.requires in let F = first_starts _ _ _ _ _ _ _ p.0 p.1 in let W = walks_at _ _ _ _ _ _ _ _ _ _ _ c.loop-top-test.true c.loop-top.invariant.2 in rw c.from_residual.ensures (first_answers _ _ _ _ _ _ _ p.0 p.1 c.advance.new.work c.advance.new.words None (walks_short _ _ _ _ _ _ _ F _ _ _ _ W c.advance.new.work c.advance.new.words c.loop-top.invariant.1 c.in_err-top.ensures))

pub overflow_sub-result : goal.overflow_sub-result
overflow_sub-result c = let p = c.requires in let F = first_starts _ _ _ _ _ _ _ p.0 p.1 in let W = walks_none _ _ _ _ _ _ _ _ _ _ _ c.loop-top-test.false c.loop-top.invariant.2 in walks_lifted _ _ _ _ _ _ _ F _ _ _ W

pub returns : goal.returns
returns c = let p = c.requires in first_done _ c.args.work.now _ _ _ _ _ p.0 p.1 c.loop-top.work c.loop-top.words c.loop-top.grown (walks_none _ _ _ _ _ _ _ _ _ _ _ c.loop-top-test.false c.loop-top.invariant.2) _ refl
