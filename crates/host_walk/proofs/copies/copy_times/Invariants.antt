-- `copy_times` meets its contract.
use Rattle.host_walk.specs.Times.{Timing}
use Rattle.host_walk.proofs.copies.copy_times.Given as goal

abbrev pub invariant-loop : goal.invariant-loop
invariant-loop l = Timing l.initial.work l.work l.words l.initial.cells l.cells l.flex l.l l.st l.memo l.g l.p.0 l.counter l.last.0
