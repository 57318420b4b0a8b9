-- `meet_arguments` meets its contract: with each turn one argument more is met.
use Prim.Native.Nat.{◌≤◌}
use Rattle.emit_open.specs.Meets.{Meeting}
use Rattle.emit_open.proofs.open.meet_arguments.Given as goal

abbrev pub invariant-loop-j : goal.invariant-loop-j
invariant-loop-j l = (l.j ≤ l.k) × Meeting l.initial.work l.work l.words l.l l.st l.met l.initial.on l.q.0 l.on l.j
