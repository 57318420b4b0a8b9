-- `same_words` meets its contract: with each turn what is left to compare gives the same answer.
use Rattle.std.specs.Prelude.{◌≡◌, length, drop}
use Rattle.definition.specs.Test.{same}
use Rattle.base.proofs.same.same_words.Given as goal

abbrev pub invariant-loop-i : goal.invariant-loop-i
invariant-loop-i l = (length l.a ≡ length l.b) × (same (drop l.i l.a) (drop l.i l.b) ≡ same l.a l.b)
