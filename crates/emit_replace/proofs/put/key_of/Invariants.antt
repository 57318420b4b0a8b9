-- `key_of` meets its contract: with each turn one word more of the key stands there.
use lib.ListN.{get_or}
use Rattle.definition.specs.Pack.{no_node}
use Rattle.store.specs.Stored.{nodes}
use Rattle.emit_replace.specs.Keys.{Keying}
use Rattle.emit_replace.specs.Reading.{args_in, values_in}
use Rattle.emit_replace.proofs.put.key_of.Given as goal

abbrev pub invariant-loop-i : goal.invariant-loop-i
invariant-loop-i l = Keying (values_in l.work l.l l.memo) (get_or (nodes l.words l.st) l.p no_node).head (args_in l.words l.st l.p) l.i l.key
