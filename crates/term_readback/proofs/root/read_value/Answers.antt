-- `read_value` meets its contract.
use mathlib.Core.Path.{ap, ◌∙◌}
use Prim.Native.Nat.{ℕ, ◌-◌}
use native.Mathlib.Omega.{arith}
use Rattle.term_readback.specs.Ways.{opening_few, value_ground, value_short, value_gives}
use Rattle.term_readback.proofs.root.read_value.Goals as goal

pub word_at-requires : goal.word_at-requires
word_at-requires c = let f = opening_few _ _ _ _ _ _ _ _ _ _ _ _ _ c.requires.opening in (omega (arith, f.0, f.2, c.values_at.ensures), f.3)

pub lift-requires : goal.lift-requires
lift-requires c = let K = c.requires.opening in (K.holding.lies.lifts, value_ground _ _ _ _ _ _ _ _ _ _ _ _ K _ (c.said-value.ensures ∙ ap (λ (k : ℕ). k - 1) (rw c.values_at.ensures at c.word_at.ensures)))

pub returns : goal.returns
returns c = λ e f K. value_gives _ _ _ _ _ _ _ _ _ _ _ _ K _ (c.said-value.ensures ∙ ap (λ (k : ℕ). k - 1) (rw c.values_at.ensures at c.word_at.ensures)) c.lift.new.work c.lift.new.words _ _ c.in_ok-p.ensures

pub returns-in_err-p : goal.returns-in_err-p
returns-in_err-p c = rw c.from_residual.ensures (λ e f K. value_short _ _ _ _ _ _ _ _ _ _ _ _ K _ (c.said-value.ensures ∙ ap (λ (k : ℕ). k - 1) (rw c.values_at.ensures at c.word_at.ensures)) c.lift.new.work c.lift.new.words c.in_err-p.ensures)
