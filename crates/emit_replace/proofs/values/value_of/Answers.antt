-- `value_of` meets its contract.
use mathlib.Core.Path.{ap, ◌∙◌}
use Rattle.emit_replace.specs.Known.{valued}
use Rattle.emit_replace.specs.Reading.{known_or}
use Rattle.emit_replace.proofs.values.value_of.Goals as goal

pub returns : goal.returns
returns c = c.unwrap_or.ensures ∙ known_or c.look_up.result ∙ ap valued c.look_up.ensures
