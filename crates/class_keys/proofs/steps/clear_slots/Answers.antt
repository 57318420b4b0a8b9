-- `clear_slots` meets its contract.
use Rattle.class_keys.specs.Turns.{cleared}
use Rattle.class_keys.proofs.steps.clear_slots.Goals as goal

pub returns : goal.returns
returns c = let a = c.args in cleared a.work.now a.k a.n c.requires c.fill.new.self (c.fill.ensures.after (λ y e. e))
