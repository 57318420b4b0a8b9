-- `rule_matches` meets its contract: with each turn as much is to come as before.
use mathlib.Core.Path.{◌≡◌}
use mathlib.Core.List.{List, []}
use Prim.Native.Nat.{◌-◌}
use lib.ListN.{length}
use Rattle.definition.specs.Pack.{rule_of}
use Rattle.definition.specs.Verdict.{Bound}
use Rattle.base.specs.Stack.{stacked}
use Rattle.pack_read.specs.Reads.{rule_words}
use Rattle.pack_read.specs.Held.{OfHeld}
use Rattle.check_steps.specs.Words.{match_words}
use Rattle.check_steps.specs.Matching.{Matching, Ready, rest}
use Rattle.check_steps.proofs.matching.rule_matches.Given as goal

abbrev pub invariant-loop-next : goal.invariant-loop-next
invariant-loop-next l =
    (length l.stack ≡ 256) × (length l.values ≡ 64) × OfHeld l.pack l.work l.c (λ P. Ready P l.r l.initial.stack l.initial.left → (bs : List Bound) × Matching P l.r l.stack l.values l.left l.i bs × (rest P l.r l.stack l.left.len l.i bs ≡ match_words P (rule_words (rule_of P l.r)) (stacked 0 l.initial.left.len l.initial.stack) []))

abbrev pub decreases-loop-next : goal.decreases-loop-next
decreases-loop-next l = 256 - l.i
