-- `begin_replaced` meets its contract.
use Rattle.emit_state.specs.Begin.{unput}
use Rattle.emit_state.proofs.begin.begin_replaced.Goals as goal

pub returns : goal.returns
returns c =
    let r = c.replaced-from.ensures in
    let s = c.stamp-at.ensures in
    rw s (unput _ _ c.args.l _ c.requires (rw (r, s) at c.begin-memo.ensures))
