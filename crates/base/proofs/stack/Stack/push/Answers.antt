-- `Stack::push` meets its contract.
use mathlib.Core.Path.{refl}
use Rattle.base.specs.Stack.{stacked-push}
use Rattle.base.proofs.stack.Stack.push.Goals as goal

pub returns : goal.returns
returns c =
    let s = c.args in
    record { stack = (refl, refl, stacked-push s.self.at s.self.len s.words.now s.v c.requires); frame = refl }
