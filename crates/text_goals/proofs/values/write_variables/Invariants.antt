-- `write_variables` meets its contract: with each turn the lines of one variable more are there.
use mathlib.Core.Path.{◌≡◌}
use Prim.Native.Nat.{◌≤◌}
use lib.ListN.{length}
use Rattle.text_goals.specs.Lines.{Lining}
use Rattle.text_goals.proofs.values.write_variables.Given as goal

abbrev pub invariant-loop-k : goal.invariant-loop-k
invariant-loop-k l = (l.k ≤ l.n) × (length l.text ≡ length l.initial.text) × Lining l.pack l.initial.work l.work l.class l.words l.initial.text l.text l.f l.at l.k l.end
