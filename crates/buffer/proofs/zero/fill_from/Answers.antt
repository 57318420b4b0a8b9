-- `fill_from` meets its contract: with each turn what is still to be filled gives the same whole.
use Rattle.std.proofs.Common.{sym, ◌∙◌, arith, length-set}
use Rattle.buffer.specs.Zero.{filled-turn, filled-end}
use Rattle.buffer.proofs.zero.fill_from.Goals as goal

pub loop-i-preserved : goal.loop-i-preserved
loop-i-preserved g c = let l = c.loop-i in (length-set l.cells l.i _ ∙ l.invariant.0, filled-turn c.args.value l.i l.cells (omega arith) ∙ l.invariant.1)

pub returns : goal.returns
returns g c = let l = c.loop-i in sym (filled-end c.args.value l.i l.cells (omega arith)) ∙ l.invariant.1
