-- `mark_numbered` meets its contract.
use native.Mathlib.Omega.{arith}
use Rattle.class_conclude.specs.FixedMarks.{marks-none, marks_there, next_there, marks_on, marks-all}
use Rattle.class_conclude.proofs.fixed.mark_numbered.Goals as goal

pub loop-i-init : goal.loop-i-init
loop-i-init c = (omega arith, marks-none _ _ _)

pub word_at-x-requires : goal.word_at-x-requires
word_at-x-requires c = rw c.numbers_at-numbers.ensures (marks_there _ _ _ _ _ _ c.requires c.loop-i.invariant.1 c.loop-i-test.true)

pub put_word-requires : goal.put_word-requires
put_word-requires c = rw c.colours_at-colours.ensures (next_there _ _ _ _ _ _ c.requires c.loop-i.invariant.1 c.loop-i-test.true _ (rw c.numbers_at-numbers.ensures at c.word_at-x.ensures))

pub loop-i-preserved : goal.loop-i-preserved
loop-i-preserved c = (omega (arith, c.loop-i-test.true), rw (rw c.colours_at-colours.ensures at c.put_word.ensures) (marks_on _ _ _ _ _ _ c.requires c.loop-i.invariant.1 c.loop-i-test.true _ (rw c.numbers_at-numbers.ensures at c.word_at-x.ensures)))

pub returns : goal.returns
returns c = marks-all _ _ _ _ _ _ (omega (arith, c.loop-i.invariant.0, c.loop-i-test.false)) c.loop-i.invariant.1
