-- `leave` meets its contract.
use mathlib.Core.Path.{◌∙◌}
use Rattle.buffer.specs.Zero.{zeroed-all}
use Rattle.host_walk.specs.Walks.{left-told}
use Rattle.host_walk.proofs.answer.leave.Goals as goal

pub shape_of-patterns : goal.shape_of-patterns
shape_of-patterns c = search

pub shape_of-cells : goal.shape_of-cells
shape_of-cells c = search

pub shape_of-work : goal.shape_of-work
shape_of-work c = search

pub returns : goal.returns
returns c = left-told _ _ _ _ _ _ _ _ c.tell-answer.ensures (c.fill.ensures.after (λ y e. e)) (c.fill_from.ensures ∙ zeroed-all _)
