-- `clear` meets its contract.
use native.Mathlib.Omega.{arith}
use Rattle.term_values.specs.Stores.{clear_few, clears}
use Rattle.term_values.proofs.values.clear.Goals as goal

pub overflow_add-from-2 : goal.overflow_add-from-2
overflow_add-from-2 c = let p = c.requires in omega (arith, clear_few _ _ _ p.0 _ p.1.1.laid, p.0.room, p.0.fits, c.values_at.ensures)

pub slice_bounds-fill-end : goal.slice_bounds-fill-end
slice_bounds-fill-end c = let p = c.requires in omega (arith, clear_few _ _ _ p.0 _ p.1.1.laid, p.0.room, p.0.fits, c.values_at.ensures)

pub returns : goal.returns
returns c = rw c.values_at.ensures (clears _ _ _ c.requires.0 _ c.requires.1.1.laid _ (rw c.values_at.ensures at (c.fill.ensures.after (λ y e. e))))
