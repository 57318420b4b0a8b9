-- `intern_nodes` meets its contract: with each turn the rest of the run gives the same whole.
use mathlib.Core.Path.{◌≡◌}
use Prim.Native.Nat.{◌-◌}
use lib.ListN.{length}
use Rattle.store.specs.Stored.{Stored, nodes}
use Rattle.host_store.specs.Turns.{Halfway}
use Rattle.host_store.proofs.intern_nodes.Given as goal

abbrev pub invariant-loop-i : goal.invariant-loop-i
invariant-loop-i l =
    (length l.index ≡ length l.initial.index) × (length l.words ≡ length l.initial.words) × (length l.numbers ≡ length l.initial.numbers) × Stored l.index l.words l.st × Halfway l.from l.numbers (nodes l.words l.st) l.at l.i

abbrev pub decreases-loop-i : goal.decreases-loop-i
decreases-loop-i l = length l.initial.numbers - l.i
