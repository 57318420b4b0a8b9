-- `resolve` meets its contract: with each turn what is left of the stack gives the same walk.
use mathlib.Core.Path.{refl, ◌∙◌}
use Rattle.term_readback.specs.Runs.{walks_at, turns_at, walks_none, walks_turning, walks_on, walks_less, walks_short, done_there, done_some, walks_done}
use Rattle.term_readback.specs.Starts.{first_ready, first_low, first_walks, first_short, first_done}
use Rattle.term_readback.proofs.resolve.resolve.Goals as goal

pub loop-top-init : goal.loop-top-init
loop-top-init c = (refl, refl, (first_walks _ _ _ _ _ _ _ _ _ _ _ _ c.requires.0 c.requires.1 _ _ c.begin-r.ensures))

pub advance-requires : goal.advance-requires
advance-requires c = walks_turning _ _ _ _ _ _ _ _ _ _ _ _ (first_ready _ _ _ _ _ _ _ _ _ _ _ _ c.requires.0 c.requires.1 _ _ c.begin-r.ensures) (first_low _ _ _ _ _ _ _ _ _ _ _ _ c.requires.0 c.requires.1 _ _ c.begin-r.ensures) _ _ _ _ _ (walks_at _ _ _ _ _ _ _ _ _ _ _ _ _ _ _ _ _ c.loop-top-test.true c.loop-top.invariant.2)

pub loop-top-smaller : goal.loop-top-smaller
loop-top-smaller c = turns_at _ _ _ _ _ c.loop-top-test.true (walks_less _ _ _ _ _ _ _ _ _ _ _ _ (first_ready _ _ _ _ _ _ _ _ _ _ _ _ c.requires.0 c.requires.1 _ _ c.begin-r.ensures) (first_low _ _ _ _ _ _ _ _ _ _ _ _ c.requires.0 c.requires.1 _ _ c.begin-r.ensures) _ _ _ _ _ (walks_at _ _ _ _ _ _ _ _ _ _ _ _ _ _ _ _ _ c.loop-top-test.true c.loop-top.invariant.2) c.advance.new.work c.advance.new.words _ _ _ c.in_ok-top.ensures)

pub loop-top-preserved : goal.loop-top-preserved
loop-top-preserved c = let k = c.advance.auto in (k.work ∙ c.loop-top.invariant.0, k.words ∙ c.loop-top.invariant.1, walks_on _ _ _ _ _ _ _ _ _ _ _ _ (first_ready _ _ _ _ _ _ _ _ _ _ _ _ c.requires.0 c.requires.1 _ _ c.begin-r.ensures) (first_low _ _ _ _ _ _ _ _ _ _ _ _ c.requires.0 c.requires.1 _ _ c.begin-r.ensures) _ _ _ _ _ (walks_at _ _ _ _ _ _ _ _ _ _ _ _ _ _ _ _ _ c.loop-top-test.true c.loop-top.invariant.2) c.advance.new.work c.advance.new.words _ _ _ c.in_ok-top.ensures)

pub returns-in_err-top : goal.returns-in_err-top
returns-in_err-top c = rw c.from_residual.ensures (first_short _ _ _ _ _ _ _ _ _ _ _ _ c.requires.0 c.requires.1 _ _ c.begin-r.ensures c.advance.new.work c.advance.new.words (walks_short _ _ _ _ _ _ _ _ _ _ _ _ (first_ready _ _ _ _ _ _ _ _ _ _ _ _ c.requires.0 c.requires.1 _ _ c.begin-r.ensures) (first_low _ _ _ _ _ _ _ _ _ _ _ _ c.requires.0 c.requires.1 _ _ c.begin-r.ensures) _ _ _ _ _ (walks_at _ _ _ _ _ _ _ _ _ _ _ _ _ _ _ _ _ c.loop-top-test.true c.loop-top.invariant.2) c.advance.new.work c.advance.new.words c.loop-top.invariant.1 c.in_err-top.ensures))

pub word_at-word-requires : goal.word_at-word-requires
word_at-word-requires c = rw c.patterns_at.ensures (done_there _ _ _ _ _ _ _ _ _ _ _ _ (first_ready _ _ _ _ _ _ _ _ _ _ _ _ c.requires.0 c.requires.1 _ _ c.begin-r.ensures) (first_low _ _ _ _ _ _ _ _ _ _ _ _ c.requires.0 c.requires.1 _ _ c.begin-r.ensures) _ _ _ _ (walks_none _ _ _ _ _ _ _ _ _ _ _ _ _ _ _ _ _ c.loop-top-test.false c.loop-top.invariant.2) c.begin-r.ensures.node)

pub overflow_sub-result : goal.overflow_sub-result
overflow_sub-result c = done_some _ _ _ _ _ _ _ _ _ _ _ _ (first_ready _ _ _ _ _ _ _ _ _ _ _ _ c.requires.0 c.requires.1 _ _ c.begin-r.ensures) (first_low _ _ _ _ _ _ _ _ _ _ _ _ c.requires.0 c.requires.1 _ _ c.begin-r.ensures) _ _ _ _ (walks_none _ _ _ _ _ _ _ _ _ _ _ _ _ _ _ _ _ c.loop-top-test.false c.loop-top.invariant.2) c.begin-r.ensures.node _ (rw c.patterns_at.ensures at c.word_at-word.ensures)

pub returns : goal.returns
returns c = first_done _ _ _ _ _ _ _ _ _ _ _ _ c.requires.0 c.requires.1 _ _ c.begin-r.ensures c.loop-top.work c.loop-top.words c.loop-top.grown c.loop-top.n _ (walks_done _ _ _ _ _ _ _ _ _ _ _ _ (first_ready _ _ _ _ _ _ _ _ _ _ _ _ c.requires.0 c.requires.1 _ _ c.begin-r.ensures) (first_low _ _ _ _ _ _ _ _ _ _ _ _ c.requires.0 c.requires.1 _ _ c.begin-r.ensures) _ _ _ _ (walks_none _ _ _ _ _ _ _ _ _ _ _ _ _ _ _ _ _ c.loop-top-test.false c.loop-top.invariant.2) c.begin-r.ensures.node _ (rw c.patterns_at.ensures at c.word_at-word.ensures) _ refl)
