-- `put_cases` meets its contract: with each turn one case more is there.
use mathlib.Core.Path.{◌≡◌}
use Prim.Native.Nat.{◌-◌, ◌≤◌}
use lib.ListN.{length}
use Rattle.emission.specs.Name.{name_with}
use Rattle.emit_lines.specs.Cased.{Cased}
use Rattle.emit_lines.proofs.case.put_cases.Given as goal

abbrev pub invariant-loop-i : goal.invariant-loop-i
invariant-loop-i l = (l.i ≤ length l.cases) × (length l.text ≡ length l.initial.text) × Cased (name_with l.u) l.initial.text l.text l.at l.cases l.i l.end

abbrev pub decreases-loop-i : goal.decreases-loop-i
decreases-loop-i l = length l.cases - l.i
