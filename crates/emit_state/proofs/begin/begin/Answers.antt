-- `begin` meets its contract.
use Rattle.emit_state.specs.Begun.{emptied_held, emptied_laid, begins}
use Rattle.emit_state.proofs.begin.begin.Goals as goal

pub begin_chains-requires : goal.begin_chains-requires
begin_chains-requires c =
    let p = c.requires in
    let l = c.args.l in
    let e = c.begin_tables-failed.ensures in
    (emptied_held _ _ _ l _ p.0 p.1 e, emptied_laid _ _ _ l _ p.0 p.1 e)

pub returns : goal.returns
returns c =
    let p = c.requires in
    begins _ _ _ c.args.l _ p.0 p.1 c.begin_tables-failed.ensures _ _ c.args.st p.2 p.3 p.4 c.begin_chains.ensures
