-- `take_pack` meets its contract.
use Rattle.dock_call.specs.Opening.{takes_parsed}
use Rattle.dock_call.proofs.opening.take_pack.Goals as goal

pub returns : goal.returns
returns c = takes_parsed _ _ _ c.read_pack.result c.read_pack.ensures
