-- `all_below` meets its contract: with each turn what is left to test gives the same answer.
use Rattle.std.specs.Prelude.{◌≡◌, ltb, drop}
use Rattle.definition.specs.Test.{all}
use Rattle.base.proofs.below.all_below.Given as goal

abbrev pub invariant-loop-w : goal.invariant-loop-w
invariant-loop-w l = all (λ w. ltb w l.n) (drop l.w-index l.words) ≡ all (λ w. ltb w l.n) l.words
