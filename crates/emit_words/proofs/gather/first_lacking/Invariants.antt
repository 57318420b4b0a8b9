-- `first_lacking` meets its contract.
use Prim.Native.Nat.{◌≤◌}
use Rattle.emit_words.specs.Gathering.{Passed}
use Rattle.emit_words.proofs.gather.first_lacking.Given as goal

abbrev pub invariant-loop-i : goal.invariant-loop-i
invariant-loop-i l =
    (1 ≤ l.i) × Passed l.work l.words l.l l.m l.key l.i
