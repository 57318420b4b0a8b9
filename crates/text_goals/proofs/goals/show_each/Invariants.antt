-- `show_each` meets its contract: with each turn the goals left give the same answer, and the text of those ahead stands there.
use mathlib.Core.Path.{◌≡◌}
use Prim.Native.Nat.{◌≤◌}
use lib.ListN.{length}
use Rattle.text_goals.specs.EachShown.{Going}
use Rattle.text_goals.proofs.goals.show_each.Given as goal

abbrev pub invariant-loop-g : goal.invariant-loop-g
invariant-loop-g l = (l.g ≤ l.goals) × (length l.text ≡ length l.initial.text) × Going l.pack l.initial.work l.work l.class l.words l.initial.text l.text l.s l.tables l.b l.seen l.values l.g l.at
