-- `is_pattern` meets its contract.
use mathlib.Core.Path.{ap, ◌∙◌}
use native.Mathlib.Omega.{arith}
use Rattle.host_walk.specs.Listed.{earlier, variable_three, many_no, few_are, args-lent}
use Rattle.host_walk.proofs.list.is_pattern.Goals as goal

pub returns-then-key : goal.returns-then-key
returns-then-key c = variable_three c.args.n c.args.key.now c.if-key.true c.requires

pub returns-then-key-gt-KEY : goal.returns-then-key-gt-KEY
returns-then-key-gt-KEY c = many_no c.args.n c.args.key.now c.if-key.false c.if-key-gt-KEY.true

pub returns : goal.returns
unfolding earlier
returns c = c.all_below.ensures ∙ ap (earlier c.args.n) (args-lent c.args.key.now c.requires) ∙ few_are c.args.n c.args.key.now c.if-key.false (omega (arith, c.if-key-gt-KEY.false))
