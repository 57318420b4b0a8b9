-- `case_of` meets its contract.
use mathlib.Core.Path.{refl}
use Rattle.emit_state.specs.Holding.{lends}
use Rattle.emit_case.specs.Under.{front}
use Rattle.emit_case.specs.Casing.{sought-asked, cased_asked, cased_on}
use Rattle.emit_case.proofs.case.case_of.Goals as goal

pub recursive-many-requires : goal.recursive-many-requires
recursive-many-requires c = sought-asked (lends _ _ _ _) _ _ _ _ _ _ c.requires refl

pub case_over-requires : goal.case_over-requires
case_over-requires c =
    cased_asked (lends _ _ _ _) _ _ _ _ _ _ _ c.recursive-many.ensures _ (front c.recursive-many.result c.recursive-many.new.rs) c.requires

pub returns : goal.returns
returns c =
    record { answer = cased_on (lends _ _ _ _) _ _ _ _ _ _ _ c.recursive-many.ensures _ (front c.recursive-many.result c.recursive-many.new.rs) (lends _ _ _ _) _ c.case_over.ensures.answer; line = c.case_over.ensures.line }
