-- `run_show` meets its contract.
use mathlib.Core.Path.{◌∙◌}
use Rattle.std.proofs.lemmas.Result.{err_from_is_err_and}
use Rattle.dock.specs.Comes.{runs_opened}
use Rattle.dock.specs.ComesShown.{runs_refused, runs_shown}
use Rattle.dock.proofs.show_outcome.run_show.Goals as goal

pub take_pack-requires : goal.take_pack-requires
take_pack-requires c = c.requires.building.tables

pub show-requires : goal.show-requires
show-requires c =
    let p = c.requires in
    let o = c.in_ok-take_pack.ensures in
    let q = runs_opened _ _ _ _ c.args.work.now _ p.building o.0 o.1 o.2 c.take_pack.auto.work _ c.tables.ensures in
    (q.0, q.1, q.2, p.texts)

pub shape_of-work : goal.shape_of-work
shape_of-work c = c.show.auto.work ∙ c.take_pack.auto.work

pub returns-in_err-take_pack : goal.returns-in_err-take_pack
returns-in_err-take_pack c =
    let a = c.args in
    let p = err_from_is_err_and c.from_residual.result c.from_residual.ensures.1 in
    rw (p.1, p.2) (runs_refused a.pack.now a.class.now a.pattern.now a.graph.now a.text.now a.b a.class.now a.pattern.now a.text.now _ c.in_err-take_pack.ensures)

pub returns : goal.returns
returns c =
    let o = c.in_ok-take_pack.ensures in
    runs_shown _ _ _ _ _ c.args.b _ o.0 o.1 o.2 _ c.tables.ensures _ _ _ c.show.result c.show.ensures
