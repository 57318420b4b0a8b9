-- `copy_times` meets its contract.
use mathlib.Core.Path.{◌∙◌}
use native.Mathlib.Omega.{arith}
use Rattle.host_walk.specs.Times.{started_on, timing_none, timed_from, timing_given, timing_more, timing_short}
use Rattle.host_walk.proofs.copies.copy_times.Goals as goal

pub begin-memo-requires : goal.begin-memo-requires
begin-memo-requires c = let L = c.requires.laid in (omega (arith, L.table), omega (arith, L.stack, L.marks, L.rows, L.inside))

pub new_graph-g-requires : goal.new_graph-g-requires
new_graph-g-requires c = let L = c.requires.laid in (L.rows, omega (arith, L.inside, c.begin-memo.ensures.outside.long), c.requires.small)

pub loop-init : goal.loop-init
loop-init c = timing_none _ _ _ _ _ _ _ c.requires _ _ _ _ c.begin-memo.ensures c.new_graph-g.ensures

pub copy-requires : goal.copy-requires
copy-requires c = timing_given _ _ _ _ _ _ _ (started_on _ _ _ _ _ _ _ c.requires _ _ _ _ c.begin-memo.ensures c.new_graph-g.ensures) _ _ _ _ _ _ c.loop.invariant

pub loop-preserved : goal.loop-preserved
loop-preserved c = let C = c.in_ok-x.ensures in timing_more _ _ _ _ _ _ _ (started_on _ _ _ _ _ _ _ c.requires _ _ _ _ c.begin-memo.ensures c.new_graph-g.ensures) _ _ _ _ _ _ c.loop.invariant c.copy.new.work c.copy.new.cells c.copy.auto.cells _ _ _ C

pub returns-in_err-x : goal.returns-in_err-x
returns-in_err-x c = rw c.from_residual.ensures (let C = c.in_err-x.ensures in timing_short _ _ _ _ _ _ _ (started_on _ _ _ _ _ _ _ c.requires _ _ _ _ c.begin-memo.ensures c.new_graph-g.ensures) _ _ _ _ _ _ c.loop.invariant c.copy.new.work c.copy.new.cells c.args.copies c.loop-test.true C)

pub shape_of-work : goal.shape_of-work
shape_of-work c = c.loop.invariant.long ∙ c.new_graph-g.auto.work ∙ c.begin-memo.auto.work

pub shape_of-cells : goal.shape_of-cells
shape_of-cells c = c.loop.invariant.many

pub returns : goal.returns
returns c = let g = c.loop in timed_from _ _ _ _ _ _ _ c.requires _ _ _ _ c.begin-memo.ensures c.new_graph-g.ensures g.work g.cells g.counter c.args.copies (omega (arith, c.loop-test.false, g.auto.counter-end)) g.last g.memo g.g g.invariant
