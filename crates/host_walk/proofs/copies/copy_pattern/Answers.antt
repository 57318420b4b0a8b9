-- `copy_pattern` meets its contract.
use mathlib.Core.Path.{◌∙◌}
use Rattle.host_walk.specs.Copies.{copy_leaves}
use Rattle.host_walk.specs.Walks.{left_as}
use Rattle.host_walk.proofs.copies.copy_pattern.Goals as goal

pub leave-requires : goal.leave-requires
leave-requires c = c.walk_copies-walk.ensures.0

pub returns : goal.returns
unfolding copy_leaves
returns c = let w = c.walk_copies-walk in c.leave.ensures ∙ left_as _ w.new.patterns w.new.cells w.new.work w.result _ _ _ w.ensures w.auto.patterns w.auto.cells w.auto.work
