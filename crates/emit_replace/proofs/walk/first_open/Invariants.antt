-- `first_open` meets its contract.
use Prim.Native.Nat.{ℕ, ◌≤◌, ◌<◌}
use lib.ListN.{get_or}
use Rattle.emit_replace.specs.Known.{Known}
use Rattle.emit_replace.specs.Reading.{args_in, values_in}
use Rattle.emit_replace.proofs.walk.first_open.Given as goal

abbrev pub invariant-loop-i : goal.invariant-loop-i
invariant-loop-i l = (l.i ≤ l.n) × ((h : ℕ) → h < l.i → Known (values_in l.work l.l l.memo) (get_or (args_in l.words l.st l.p) h 0))
