-- `copy_cells` meets its contract: with each turn one cell more is the same.
use Rattle.std.specs.Prelude.{◌≡◌, length, take}
use Rattle.base.proofs.copy.copy_cells.Given as goal

abbrev pub invariant-loop-i : goal.invariant-loop-i
invariant-loop-i g l = (length l.to ≡ length l.from) × (take l.i l.to ≡ take l.i l.from)
