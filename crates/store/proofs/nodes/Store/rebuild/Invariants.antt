-- `Store::rebuild` meets its contract: with each turn one node more is in the table.
use mathlib.Core.Path.{◌≡◌}
use Prim.Native.Nat.{◌≤◌}
use lib.ListN.{length}
use Rattle.store.specs.Stored.{nodes, Entered}
use Rattle.store.proofs.nodes.Store.rebuild.Given as goal

abbrev pub invariant-loop-i : goal.invariant-loop-i
invariant-loop-i l = (l.i ≤ l.self.len) × (length l.index ≡ length l.initial.index) × Entered l.index l.words l.self (nodes l.words l.self) l.i
