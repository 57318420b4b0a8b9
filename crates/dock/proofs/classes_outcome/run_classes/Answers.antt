-- `run_classes` meets its contract.
use Rattle.std.proofs.lemmas.Result.{err_from_is_err_and}
use Rattle.dock.specs.Comes.{runs_refused, runs_opened, runs_built}
use Rattle.dock.proofs.classes_outcome.run_classes.Goals as goal

pub take_pack-requires : goal.take_pack-requires
take_pack-requires c = c.requires.tables

pub build-requires : goal.build-requires
build-requires c =
    let o = c.in_ok-take_pack.ensures in
    runs_opened _ _ _ _ c.args.work.now _ c.requires o.0 o.1 o.2 c.take_pack.auto.work _ c.tables.ensures

pub returns-in_err-take_pack : goal.returns-in_err-take_pack
returns-in_err-take_pack c =
    let a = c.args in
    let p = err_from_is_err_and c.from_residual.result c.from_residual.ensures.1 in
    rw (p.1, p.2) (runs_refused a.pack.now a.class.now a.pattern.now a.graph.now a.class.now a.pattern.now _ c.in_err-take_pack.ensures)

pub returns : goal.returns
returns c =
    let o = c.in_ok-take_pack.ensures in
    runs_built _ _ _ _ c.args.work.now _ c.requires o.0 o.1 o.2 c.take_pack.auto.work _ c.tables.ensures _ _ c.build.result c.build.ensures
