-- `drop_hyps` meets its contract: with each turn one key more is taken away.
use Rattle.emit_maps.specs.Dropping.{Dropping}
use Rattle.emit_maps.proofs.hyps.drop_hyps.Given as goal

abbrev pub invariant-loop-key : goal.invariant-loop-key
invariant-loop-key l = Dropping l.initial.work l.m l.keys l.n l.key-index l.work
