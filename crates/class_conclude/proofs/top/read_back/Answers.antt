-- `read_back` meets its contract.
use Rattle.class_conclude.specs.Top.{topping_room}
use Rattle.class_conclude.specs.Back.{back_ready, back_full, back-asked, back_short, back_read}
use Rattle.class_conclude.proofs.top.read_back.Goals as goal

pub prepare-requires : goal.prepare-requires
prepare-requires c = topping_room _ _ _ _ _ _ _ _ _ _ _ c.requires

pub resolve-requires : goal.resolve-requires
resolve-requires c = rw c.lifting.ensures (back_ready _ _ _ _ _ _ _ _ _ _ _ c.requires _ c.prepare.ensures, c.requires.topped.node)

pub read_entries-requires : goal.read_entries-requires
read_entries-requires c = back-asked _ _ _ _ _ _ _ _ _ _ _ c.requires _ c.prepare.ensures _ _ _ _ _ (rw c.lifting.ensures at c.in_ok-p.ensures)

pub returns : goal.returns
returns c = back_read _ _ _ _ _ _ _ _ _ _ _ c.requires _ c.prepare.ensures _ _ _ _ _ (rw c.lifting.ensures at c.in_ok-p.ensures) _ _ _ _ _ c.in_ok-last.ensures

pub returns-in_err-last : goal.returns-in_err-last
returns-in_err-last c = rw c.from_residual-in_err-last.ensures (back_short _ _ _ _ _ _ _ _ _ _ _ c.requires _ c.prepare.ensures _ _ _ _ _ (rw c.lifting.ensures at c.in_ok-p.ensures) c.read_entries.new.work c.read_entries.new.words c.resolve.auto.words c.in_err-last.ensures)

pub returns-in_err-p : goal.returns-in_err-p
returns-in_err-p c = rw c.from_residual.ensures (back_full _ _ _ _ _ _ _ _ _ _ _ c.requires _ c.prepare.ensures c.resolve.new.work c.resolve.new.words (rw c.lifting.ensures at c.in_err-p.ensures))
