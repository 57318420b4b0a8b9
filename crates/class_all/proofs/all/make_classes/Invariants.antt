-- `make_classes` meets its contract.
use Rattle.class_all.specs.All.{Turned}
use Rattle.class_all.proofs.all.make_classes.Given as goal

abbrev pub invariant-loop-i : goal.invariant-loop-i
invariant-loop-i l =
    Turned l.pack l.initial.work l.initial.class l.initial.words l.initial.cells l.work l.class l.words l.cells l.initial.at.catalog l.initial.at.keying l.initial.at.layout l.initial.at.store l.initial.at.memo l.count l.initial.at.fill l.at l.sums l.i
