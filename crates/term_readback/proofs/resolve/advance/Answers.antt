-- `advance` meets its contract.
use native.Mathlib.Omega.{arith}
use Rattle.term_readback.specs.Turned.{turning_there, turning_small, turning_top, at-word, at_asking, at_passed, at-entering, at_entered, at-opening, at_short, at_finished}
use Rattle.term_readback.proofs.resolve.advance.Goals as goal

pub overflow_mul-at : goal.overflow_mul-at
overflow_mul-at c = omega (arith, turning_top _ _ _ _ _ _ _ _ _ _ _ _ c.requires, turning_small _ _ _ _ _ _ _ _ _ _ _ _ c.requires)

pub overflow_add-at : goal.overflow_add-at
overflow_add-at c = omega (arith, turning_top _ _ _ _ _ _ _ _ _ _ _ _ c.requires, turning_small _ _ _ _ _ _ _ _ _ _ _ _ c.requires, c.pairs_at.ensures)

pub word_at-requires : goal.word_at-requires
word_at-requires c = let h = turning_there _ _ _ _ _ _ _ _ _ _ _ _ c.requires in (omega (arith, h.0, c.pairs_at.ensures), h.1)

pub overflow_add-at-2 : goal.overflow_add-at-2
overflow_add-at-2 c = omega (arith, turning_top _ _ _ _ _ _ _ _ _ _ _ _ c.requires, turning_small _ _ _ _ _ _ _ _ _ _ _ _ c.requires, c.pairs_at.ensures)

pub word_at-taken-requires : goal.word_at-taken-requires
word_at-taken-requires c = rw c.pairs_at.ensures (turning_there _ _ _ _ _ _ _ _ _ _ _ _ c.requires)

pub passes-requires : goal.passes-requires
passes-requires c = (at-word _ _ _ _ _ _ _ _ _ _ _ _ c.requires _ _ (rw c.pairs_at.ensures at c.word_at.ensures) (rw c.pairs_at.ensures at c.word_at-taken.ensures), (turning_there _ _ _ _ _ _ _ _ _ _ _ _ c.requires).1)

pub returns-then-passes : goal.returns-then-passes
returns-then-passes c = at_passed _ _ _ _ _ _ _ _ _ _ _ _ c.requires _ _ (rw c.pairs_at.ensures at c.word_at.ensures) (rw c.pairs_at.ensures at c.word_at-taken.ensures) c.passes.result c.passes.ensures c.if-passes.true

pub count-requires : goal.count-requires
count-requires c = at_asking _ _ _ _ _ _ _ _ _ _ _ _ c.requires _ _ (rw c.pairs_at.ensures at c.word_at.ensures) (rw c.pairs_at.ensures at c.word_at-taken.ensures)

pub enter-requires : goal.enter-requires
enter-requires c = at-entering _ _ _ _ _ _ _ _ _ _ _ _ c.requires _ _ (rw c.pairs_at.ensures at c.word_at.ensures) (rw c.pairs_at.ensures at c.word_at-taken.ensures) c.passes.result c.passes.ensures c.if-passes.false c.count.result c.count.ensures c.if-taken-count.true

pub overflow_add-result : goal.overflow_add-result
overflow_add-result c = omega (arith, turning_top _ _ _ _ _ _ _ _ _ _ _ _ c.requires, turning_small _ _ _ _ _ _ _ _ _ _ _ _ c.requires)

pub returns-then-taken-count : goal.returns-then-taken-count
returns-then-taken-count c = at_entered _ _ _ _ _ _ _ _ _ _ _ _ c.requires _ _ (rw c.pairs_at.ensures at c.word_at.ensures) (rw c.pairs_at.ensures at c.word_at-taken.ensures) c.passes.result c.passes.ensures c.if-passes.false c.count.result c.count.ensures c.if-taken-count.true c.enter.new.work c.enter.ensures

pub read_root-requires : goal.read_root-requires
read_root-requires c = at-opening _ _ _ _ _ _ _ _ _ _ _ _ c.requires _ _ (rw c.pairs_at.ensures at c.word_at.ensures) (rw c.pairs_at.ensures at c.word_at-taken.ensures) c.passes.result c.passes.ensures c.if-passes.false c.count.result c.count.ensures c.if-taken-count.false

pub returns : goal.returns
returns c = at_finished _ _ _ _ _ _ _ _ _ _ _ _ c.requires _ _ (rw c.pairs_at.ensures at c.word_at.ensures) (rw c.pairs_at.ensures at c.word_at-taken.ensures) c.passes.result c.passes.ensures c.if-passes.false c.count.result c.count.ensures c.if-taken-count.false c.read_root.new.work c.read_root.new.words c.in_ok-more.field-0-0 _ _ c.in_ok-more.ensures

pub returns-in_err-more : goal.returns-in_err-more
returns-in_err-more c = rw c.from_residual.ensures (at_short _ _ _ _ _ _ _ _ _ _ _ _ c.requires _ _ (rw c.pairs_at.ensures at c.word_at.ensures) (rw c.pairs_at.ensures at c.word_at-taken.ensures) c.passes.result c.passes.ensures c.if-passes.false c.count.result c.count.ensures c.if-taken-count.false c.read_root.new.work c.read_root.new.words c.in_err-more.ensures)
