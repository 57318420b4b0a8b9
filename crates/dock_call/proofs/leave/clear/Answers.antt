-- `clear` meets its contract.
use Rattle.dock_call.proofs.leave.clear.Goals as goal

pub returns : goal.returns
returns c = record { class = c.fill_from.ensures; pattern = c.fill_from-2.ensures; graph = c.fill_from-3.ensures; work = c.fill_from-4.ensures }
