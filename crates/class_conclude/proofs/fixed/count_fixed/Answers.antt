-- `count_fixed` meets its contract.
use native.Mathlib.Omega.{arith}
use Rattle.class_conclude.specs.FixedWhole.{numbers-room, cleared-asked, marked_in, counts-fixed}
use Rattle.class_conclude.proofs.fixed.count_fixed.Goals as goal

pub overflow_add-end : goal.overflow_add-end
overflow_add-end c = omega (arith, numbers-room _ _ _ _ _ c.requires, c.colours_at.ensures)

pub slice_bounds-fill-end : goal.slice_bounds-fill-end
slice_bounds-fill-end c = omega (arith, numbers-room _ _ _ _ _ c.requires, c.colours_at.ensures)

pub mark_numbered-requires : goal.mark_numbered-requires
mark_numbered-requires c = rw c.colours_at.ensures (cleared-asked _ _ _ _ _ c.requires _ (rw c.colours_at.ensures at (c.fill.ensures.after (λ y e. e))))

pub count_coloured-requires : goal.count_coloured-requires
count_coloured-requires c = marked_in _ _ _ _ _ c.requires _ (rw c.colours_at.ensures at (c.fill.ensures.after (λ y e. e))) _ (rw c.colours_at.ensures at c.mark_numbered.ensures)

pub returns : goal.returns
returns c = counts-fixed _ _ _ _ _ c.requires _ (rw c.colours_at.ensures at (c.fill.ensures.after (λ y e. e))) _ (rw c.colours_at.ensures at c.mark_numbered.ensures) _ c.count_coloured.ensures
