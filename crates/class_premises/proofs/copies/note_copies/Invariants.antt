-- `note_copies` meets its contract.
use Rattle.class_premises.specs.Noted.{Going}
use Rattle.class_premises.proofs.copies.note_copies.Given as goal

abbrev pub invariant-loop-k : goal.invariant-loop-k
invariant-loop-k l = Going l.initial.work l.work l.from l.n l.to l.noted l.k l.on
