-- `take_premises` meets its contract.
use Rattle.class_premises.specs.AllPremises.{Going}
use Rattle.class_premises.proofs.premises.take_premises.Given as goal

abbrev pub invariant-loop-i : goal.invariant-loop-i
invariant-loop-i l =
    Going l.pack l.initial.work l.work l.class l.words l.initial.cells l.cells l.s.catalog l.s.keying l.s.layout l.s.store l.initial.t.memo l.t.memo l.initial.t.graph l.t.graph l.env l.u l.initial.instances l.instances l.i l.t.from l.t.copies
