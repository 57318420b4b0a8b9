-- `finish` meets its contract.
use Rattle.host_walk.specs.Walks.{told-done}
use Rattle.host_walk.proofs.answer.finish.Goals as goal

pub shape_of-patterns : goal.shape_of-patterns
shape_of-patterns c = search

pub returns : goal.returns
returns c = let a = c.args in told-done a.patterns.now a.p a.st _ _ c.requires _ (c.used.ensures _ _ c.requires.1) _ c.fill_from.ensures
