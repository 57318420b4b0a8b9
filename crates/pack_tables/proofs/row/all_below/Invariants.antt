-- `all_below` meets its contract: with each turn the words left give the same answer.
use mathlib.Core.Path.{◌≡◌}
use Prim.Native.Nat.{◌+◌, ◌*◌, ◌-◌}
use lib.Dec.{ltb}
use lib.ListN.{drop}
use Rattle.definition.specs.Test.{all}
use Rattle.definition.specs.Theory.{words}
use Rattle.pack_tables.proofs.row.all_below.Given as goal

abbrev pub invariant-loop-i : goal.invariant-loop-i
invariant-loop-i l = all (λ w. ltb w l.bound) (words (l.n - l.i) (drop (l.at + 4 * l.i) l.body)) ≡ all (λ w. ltb w l.bound) (words l.n (drop l.at l.body))
