-- `fill_from` meets its contract: with each turn what is still to be filled gives the same whole.
use Rattle.std.specs.Prelude.{◌≡◌, length}
use Rattle.buffer.specs.Zero.{filled}
use Rattle.buffer.proofs.zero.fill_from.Given as goal

abbrev pub invariant-loop-i : goal.invariant-loop-i
invariant-loop-i g l = (length l.cells ≡ length l.initial.cells) × (filled l.value l.i l.cells ≡ filled l.value l.from l.initial.cells)
