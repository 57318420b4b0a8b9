-- `by_induction` meets its contract.
use Rattle.emit_state.specs.Holding.{lends}
use Rattle.emit_induct.specs.ByInduction.{not_taken, not_left, mentions-asked, induction_none, induct-asked, induction_fails, induction_short, keep-asked, induction_line}
use mathlib.Core.Bool.{not}
use Rattle.std.proofs.Common.{ap}
use Rattle.emit_induct.proofs.cut.by_induction.Goals as goal

pub mentions-requires : goal.mentions-requires
mentions-requires c = mentions-asked _ _ _ _ _ _ _ c.requires.0

pub returns-then-not-mentions : goal.returns-then-not-mentions
returns-then-not-mentions c = induction_none _ _ _ _ _ _ _ _ _ c.mentions.ensures (not_taken _ (ap not c.if-not-mentions.true))

pub induct-requires : goal.induct-requires
induct-requires c = (induct-asked _ _ _ _ _ _ _ _ _ c.mentions.ensures (not_left _ (ap not c.if-not-mentions.false)) c.requires.0, c.requires.1, c.requires.2)

pub remember-requires : goal.remember-requires
remember-requires c =
    keep-asked _ _ _ _ _ _ _ _ _ c.mentions.ensures (not_left _ (ap not c.if-not-mentions.false)) (lends _ _ _ _) _ _ c.in-Line.ensures.answer c.requires.0 c.in-Line.ensures.line

pub returns-in-Line : goal.returns-in-Line
returns-in-Line c =
    induction_line _ _ _ _ _ _ _ _ _ c.mentions.ensures (not_left _ (ap not c.if-not-mentions.false)) (lends _ _ _ _) _ _ c.in-Line.ensures.answer _ _ c.remember.ensures

pub returns-in-Fails : goal.returns-in-Fails
returns-in-Fails c =
    induction_fails _ _ _ _ _ _ _ _ _ c.mentions.ensures (not_left _ (ap not c.if-not-mentions.false)) (lends _ _ _ _) _ c.in-Fails.ensures.answer

pub returns-in-Refused : goal.returns-in-Refused
returns-in-Refused c =
    induction_short _ _ _ _ _ _ _ _ _ c.mentions.ensures (not_left _ (ap not c.if-not-mentions.false)) (lends _ _ _ _) _ c.in-Refused.ensures.answer
