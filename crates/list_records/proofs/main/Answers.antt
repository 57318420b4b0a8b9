-- The end that `list` answers lies within the text.
use Rattle.std.proofs.Common.{sym, length-take-le}
use Rattle.list_records.specs.Added.{added_wrote, added_within}
use Rattle.list_records.proofs.main.Goals as goal

pub slice_bounds-text-end : goal.slice_bounds-text-end
slice_bounds-text-end c = added_within _ _ _ _ _ (added_wrote _ _ _ _ _ c.in-Some.ensures)

pub slice_bounds-write_all-end-in-Some : goal.slice_bounds-write_all-end-in-Some
slice_bounds-write_all-end-in-Some c = sym (length-take-le _ c.list.new.text (added_within _ _ _ _ _ (added_wrote _ _ _ _ _ c.in-Some.ensures)))
