-- `note_copy` meets its contract.
use native.Mathlib.Omega.{arith}
use Rattle.class_premises.specs.Noted.{notes-none, notes-one}
use Rattle.class_premises.proofs.copies.note_copy.Goals as goal

pub returns-then-word-eq0 : goal.returns-then-word-eq0
returns-then-word-eq0 c = let a = c.args in notes-none a.work.now _ _ _ c.if-word-eq0.true

pub returns : goal.returns
returns c = let a = c.args in notes-one a.work.now _ _ _ (omega arith) (c.requires.room (omega arith))
