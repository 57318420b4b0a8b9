-- `note_copies` meets its contract.
use native.Mathlib.Omega.{arith}
use Rattle.class_premises.specs.Noted.{going_none, going_noting, going_on, going_done}
use Rattle.class_premises.proofs.copies.note_copies.Goals as goal

pub loop-k-init : goal.loop-k-init
loop-k-init c = going_none _ _ _ _ _

pub note_copy-on-requires : goal.note_copy-on-requires
note_copy-on-requires c = let g = c.loop-k in going_noting _ _ _ _ _ c.requires _ _ _ g.invariant c.loop-k-test.true

pub loop-k-preserved : goal.loop-k-preserved
loop-k-preserved c = let g = c.loop-k in going_on _ _ _ _ _ c.requires _ _ _ g.invariant c.loop-k-test.true _ _ c.note_copy-on.ensures

pub returns : goal.returns
returns c = let g = c.loop-k in going_done _ _ _ _ _ _ _ _ (omega arith) g.invariant
