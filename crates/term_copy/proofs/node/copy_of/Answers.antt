-- `copy_of` meets its contract.
use mathlib.Core.Path.{◌∙◌}
use Rattle.base.specs.Part.{part}
use Rattle.term_copy.specs.Writes.{copy-either}
use Rattle.term_copy.proofs.node.copy_of.Goals as goal

pub get-requires : goal.get-requires
unfolding part
get-requires c = c.requires.2

pub returns : goal.returns
unfolding part
returns c = c.unwrap_or.ensures ∙ copy-either c.args.work.now c.args.l c.args.memo c.args.q.0 c.get.result c.get.ensures
