-- `clear` meets its contract.
use Rattle.term_lift.specs.Nodes.{cleared}
use Rattle.term_lift.proofs.lift.Lifted.clear.Goals as goal

pub returns : goal.returns
returns c = cleared _ c.args.self c.requires _ (c.fill.ensures.after (λ y e. e))
