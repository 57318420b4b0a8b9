-- `read_entry` meets its contract.
use Rattle.class_conclude.specs.Entries.{one-stored, one-indexed, one_reads}
use Rattle.class_conclude.proofs.entries.read_entry.Goals as goal

pub resolve-requires : goal.resolve-requires
resolve-requires c = let K = c.requires in rw (c.copies_at.ensures, c.lifting.ensures) (K.ready, K.node)

pub renames-k-requires : goal.renames-k-requires
renames-k-requires c = (one-indexed _ _ _ _ _ _ _ _ _ _ c.requires c.resolve.new.work c.resolve.new.words _ _ _ (rw c.in_ok-p.was at (rw (c.copies_at.ensures, c.lifting.ensures) at c.resolve.ensures)), one-stored _ _ _ _ _ _ _ _ _ _ c.requires c.resolve.new.work c.resolve.new.words _ _ _ (rw c.in_ok-p.was at (rw (c.copies_at.ensures, c.lifting.ensures) at c.resolve.ensures)))

pub returns : goal.returns
returns c = one_reads _ _ _ _ _ _ _ _ _ _ c.requires _ _ _ _ _ (rw c.in_ok-p.was at (rw (c.copies_at.ensures, c.lifting.ensures) at c.resolve.ensures)) _ c.renames-k.ensures

pub returns-in_err-p : goal.returns-in_err-p
returns-in_err-p c = rw c.from_residual.ensures (rw c.in_err-p.was at (rw (c.copies_at.ensures, c.lifting.ensures) at c.resolve.ensures)).1
