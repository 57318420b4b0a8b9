-- `probe` meets its contract: what the search has passed is taken, and not by the key.
use Prim.Native.Nat.{◌+◌, ◌*◌, ◌-◌}
use Rattle.class_keys.specs.Table.{steps_of, Probing}
use Rattle.class_keys.proofs.table.probe.Given as goal

abbrev pub invariant-loop-c : goal.invariant-loop-c
invariant-loop-c l = Probing l.pack l.work l.class l.c l.k l.h l.key l.t

abbrev pub decreases-loop-c : goal.decreases-loop-c
decreases-loop-c l = 3 * steps_of l.work l.c + 1 - l.t
