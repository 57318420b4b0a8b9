-- `bind` meets its contract: no value yet, or the one that it has.
use Rattle.check_steps.specs.Values.{bind-first, bind_again}
use Rattle.check_steps.proofs.values.bind.Goals as goal

pub returns-then-v-eq0 : goal.returns-then-v-eq0
returns-then-v-eq0 c =
    bind-first c.args.values.now c.args.k c.args.n.0 c.requires.0 c.if-v-eq0.true

pub returns : goal.returns
returns c =
    bind_again c.args.values.now c.args.k c.args.n.0 c.if-v-eq0.false
