-- `make_from` meets its contract.
use Rattle.std.proofs.lemmas.Result.{err_from_is_err_and}
use Rattle.class_build.specs.Goes.{begins_classes, goes_made, goes_unbuilt}
use Rattle.class_build.proofs.build.make_from.Goals as goal

pub make_classes-requires : goal.make_classes-requires
make_classes-requires c = begins_classes _ _ _ _ _ _ _ _ _ _ _ _ c.requires

pub returns : goal.returns
returns c = let m = c.make_classes in goes_made _ _ _ _ _ _ _ _ _ _ _ _ m.new.work m.new.class m.new.words m.new.cells _ _ c.in_ok-at.ensures c.requires m.auto.words m.auto.cells

pub returns-in_err-at : goal.returns-in_err-at
returns-in_err-at c =
    let m = c.make_classes in
    let e = err_from_is_err_and c.from_residual.result c.from_residual.ensures.1 in
    rw (e.1, e.2) (goes_unbuilt _ _ _ _ _ _ _ _ _ _ _ _ m.new.work m.new.class m.new.words m.new.cells _ c.in_err-at.ensures)
