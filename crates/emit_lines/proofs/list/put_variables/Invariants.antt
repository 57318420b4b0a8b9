-- `put_variables` meets its contract: with each turn one variable more is there.
use mathlib.Core.List.{map}
use lib.ListN.{take}
use Rattle.emission.specs.Name.{name_with}
use Rattle.emission.specs.Text.{blanked}
use Rattle.emission.specs.Render.{variable_text}
use Rattle.text_write.specs.Written.{Adds}
use Rattle.emit_lines.proofs.list.put_variables.Given as goal

abbrev pub invariant-loop-k : goal.invariant-loop-k
invariant-loop-k l = Adds l.initial.text l.text l.at (blanked (map (variable_text (name_with l.u)) (take l.k-index l.variables))) l.end
