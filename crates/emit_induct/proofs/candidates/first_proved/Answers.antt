-- `first_proved` meets its contract.
use mathlib.Core.Path.{◌∙◌}
use native.Mathlib.Omega.{arith}
use Rattle.emit_state.specs.Holding.{lends}
use Rattle.emit_induct.specs.Choosing.{candidates_go, candidates_end, next-asked, next_proves, next-refused, next_fails}
use Rattle.emit_induct.proofs.candidates.first_proved.Goals as goal

pub loop-i-init : goal.loop-i-init
loop-i-init c = candidates_go (lends _ _ _ _) _ _ _ _ _

pub offset_bounds-candidates-i : goal.offset_bounds-candidates-i
offset_bounds-candidates-i c = record { fits = omega (arith, c.if-candidates-i.false) }

pub try_candidate-requires : goal.try_candidate-requires
try_candidate-requires c = (next-asked _ _ _ _ _ _ _ _ _ c.loop-i.invariant c.if-candidates-i.false c.requires.0, c.loop-i.auto.cases ∙ c.requires.1, c.requires.2)

pub overflow_add-i : goal.overflow_add-i
overflow_add-i c = record { fits = omega (arith, c.if-candidates-i.false) }

pub loop-i-preserved : goal.loop-i-preserved
loop-i-preserved c =
    let g = c.loop-i.invariant in
    let E = c.in-Fails.ensures in
    next_fails _ _ _ _ _ _ _ _ _ g c.if-candidates-i.false (lends _ _ _ _) _ E

pub returns-then-candidates-i : goal.returns-then-candidates-i
returns-then-candidates-i c = candidates_end _ _ _ _ _ _ _ _ _ c.loop-i.invariant c.if-candidates-i.true

pub returns-in-Line : goal.returns-in-Line
returns-in-Line c =
    let E = c.in-Line.ensures in
    next_proves _ _ _ _ _ _ _ _ _ c.loop-i.invariant c.if-candidates-i.false (lends _ _ _ _) _ _ E

pub returns-in-Refused : goal.returns-in-Refused
returns-in-Refused c =
    let E = c.in-Refused.ensures in
    next-refused _ _ _ _ _ _ _ _ _ c.loop-i.invariant c.if-candidates-i.false (lends _ _ _ _) _ E
