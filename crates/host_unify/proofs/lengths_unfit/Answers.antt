-- `lengths_unfit` meets its contract.
use mathlib.Core.Path.{sym}
use lib.ListN.{length}
use Rattle.host_unify.specs.Tells.{unfit_long, unfit_work}
use Rattle.host_unify.proofs.lengths_unfit.Goals as goal

pub returns-then-cells-ge-CELLS : goal.returns-then-cells-ge-CELLS
returns-then-cells-ge-CELLS c = let a = c.args in sym (unfit_long (length a.cells.now) a.work c.if-cells-ge-CELLS.true)

pub returns : goal.returns
returns c = let a = c.args in rw c.values_at.ensures (sym (unfit_work (length a.cells.now) a.work c.if-cells-ge-CELLS.false))
