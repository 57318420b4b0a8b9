-- `build` meets its contract.
use Rattle.std.proofs.lemmas.Result.{err_from_is_err_and}
use Rattle.class_build.specs.Goes.{builds_unbuilt, builds_ended}
use Rattle.class_build.proofs.build.build.Goals as goal

pub build_classes-requires : goal.build_classes-requires
build_classes-requires c = c.requires

pub finish-requires : goal.finish-requires
finish-requires c = c.in_ok-s.ensures.2

pub returns : goal.returns
returns c =
    let d = c.build_classes in
    let e = c.finish in
    builds_ended _ _ _ _ _ d.new.work d.new.class d.new.words d.new.cells _ _ _ _ c.in_ok-s.ensures e.result e.ensures

pub returns-in_err-s : goal.returns-in_err-s
returns-in_err-s c =
    let d = c.build_classes in
    let e = err_from_is_err_and c.from_residual.result c.from_residual.ensures.1 in
    rw (e.1, e.2) (builds_unbuilt _ _ _ _ _ d.new.work d.new.class d.new.words d.new.cells _ _ c.in_err-s.ensures)
