-- `all_below` meets its contract: with each turn what is left to test gives the same answer.
use Rattle.std.proofs.Common.{sym, ◌∙◌, arith}
use Rattle.base.specs.Below.{below_late, below_next, below_end}
use Rattle.base.proofs.below.all_below.Goals as goal

pub returns-then-n-w : goal.returns-then-n-w
returns-then-n-w c = let g = c.loop-w in sym (below_late c.args.n c.args.words.now g.w-index (omega arith) (omega arith)) ∙ g.invariant

pub loop-w-preserved : goal.loop-w-preserved
loop-w-preserved c = let g = c.loop-w in below_next c.args.n c.args.words.now g.w-index (omega arith) (omega arith) ∙ g.invariant

pub returns : goal.returns
returns c = let g = c.loop-w in sym (below_end c.args.n c.args.words.now g.w-index (omega arith)) ∙ g.invariant
