-- `key_of` meets its contract: with each turn one word more of the key stands there.
use Rattle.term_readback.specs.Keys.{Keying}
use Rattle.term_readback.proofs.table.key_of.Given as goal

abbrev pub invariant-loop-i : goal.invariant-loop-i
invariant-loop-i l = Keying l.cells l.initial.work l.work l.t l.g l.x.0 l.k l.i l.key
