-- `induct_cases` meets its contract.
use Rattle.emit_state.specs.Holding.{lends}
use Rattle.emit_state.specs.Places.{small_places}
use Rattle.emit_induct.specs.CasesGo.{first-asked, cases_go, cases_done, case_room, case_asked, cases_fail, cases_short, next-asked, cases_less, cases_go_on}
use Rattle.emit_induct.proofs.cases.induct_cases.Goals as goal

pub first_of-c-requires : goal.first_of-c-requires
first_of-c-requires c = rw c.constructors.ensures (first-asked _ _ _ _ c.requires.0 c.requires.2)

pub loop-c-init : goal.loop-c-init
loop-c-init c = cases_go (lends _ _ _ _) _ _ _ _ _ c.requires.1 (rw c.constructors.ensures at c.first_of-c.ensures)

pub induct_case-requires : goal.induct_case-requires
induct_case-requires c = (case_asked _ _ _ _ _ _ _ _ _ c.loop-c.invariant c.if-c.false c.requires.0, case_room _ _ _ _ _ _ _ _ _ c.loop-c.invariant c.if-c.false)

pub constructors-requires-in-loop-c : goal.constructors-requires-in-loop-c
constructors-requires-in-loop-c c = small_places _ _ c.requires.0.ready.holding.laid

pub next_of-c-requires : goal.next_of-c-requires
next_of-c-requires c =
    let E = c.in-All.ensures in
    rw c.constructors-in-loop-c.ensures (next-asked _ _ _ _ _ _ _ _ _ c.loop-c.invariant c.if-c.false (lends _ _ _ _) _ _ _ E c.requires.0)

pub loop-c-smaller : goal.loop-c-smaller
loop-c-smaller c =
    let E = c.in-All.ensures in
    cases_less _ _ _ _ _ _ _ _ _ c.loop-c.invariant c.if-c.false (lends _ _ _ _) _ _ _ E _ (rw c.constructors-in-loop-c.ensures at c.next_of-c.ensures) c.requires.0 c.requires.2

pub loop-c-preserved : goal.loop-c-preserved
loop-c-preserved c =
    let g = c.loop-c.invariant in
    let K = c.induct_case.auto in
    let E = c.in-All.ensures in
    cases_go_on _ _ _ _ _ _ _ _ _ g c.if-c.false (lends _ _ _ _) _ _ _ E _ (rw c.constructors-in-loop-c.ensures at c.next_of-c.ensures) c.requires.0 c.requires.2 K.cases

pub returns-then-c : goal.returns-then-c
returns-then-c c = cases_done _ _ _ _ _ _ _ _ _ c.loop-c.invariant c.if-c.true

pub returns-in-Fails : goal.returns-in-Fails
returns-in-Fails c =
    let E = c.in-Fails.ensures in
    cases_fail _ _ _ _ _ _ _ _ _ c.loop-c.invariant c.if-c.false (lends _ _ _ _) _ _ E

pub returns-in-Refused : goal.returns-in-Refused
returns-in-Refused c =
    let E = c.in-Refused.ensures in
    cases_short _ _ _ _ _ _ _ _ _ c.loop-c.invariant c.if-c.false (lends _ _ _ _) _ _ E
