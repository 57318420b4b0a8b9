-- `take_value` meets its contract.
use native.Mathlib.Omega.{arith}
use Rattle.term_values.specs.Takes.{ready_low, ready_left, ready_right, ready_node, found_placed, found_inside, takes-known, takes-other, takes-fresh, takes-given}
use Rattle.term_values.proofs.fix.take_value.Goals as goal

pub overflow_mul-at : goal.overflow_mul-at
overflow_mul-at c = let Q = c.requires in omega (arith, ready_low _ _ _ _ _ _ _ Q, Q.values.placed.room, Q.values.placed.fits, c.pairs_at.ensures)

pub overflow_add-at-2 : goal.overflow_add-at-2
overflow_add-at-2 c = let Q = c.requires in omega (arith, ready_low _ _ _ _ _ _ _ Q, Q.values.placed.room, Q.values.placed.fits, c.pairs_at.ensures)

pub offset_bounds-work-at : goal.offset_bounds-work-at
offset_bounds-work-at c = let Q = c.requires in omega (arith, ready_low _ _ _ _ _ _ _ Q, Q.values.placed.room, Q.values.placed.fits, c.pairs_at.ensures)

pub bounds-work-at : goal.bounds-work-at
bounds-work-at c = let Q = c.requires in omega (arith, ready_low _ _ _ _ _ _ _ Q, Q.values.placed.room, Q.values.placed.fits, c.pairs_at.ensures)

pub overflow_add-n : goal.overflow_add-n
overflow_add-n c = let Q = c.requires in omega (arith, ready_low _ _ _ _ _ _ _ Q, Q.values.placed.room, Q.values.placed.fits, c.pairs_at.ensures)

pub offset_bounds-work-at-2 : goal.offset_bounds-work-at-2
offset_bounds-work-at-2 c = let Q = c.requires in omega (arith, ready_low _ _ _ _ _ _ _ Q, Q.values.placed.room, Q.values.placed.fits, c.pairs_at.ensures)

pub bounds-work-at-2 : goal.bounds-work-at-2
bounds-work-at-2 c = let Q = c.requires in omega (arith, ready_low _ _ _ _ _ _ _ Q, Q.values.placed.room, Q.values.placed.fits, c.pairs_at.ensures)

pub root-r-requires : goal.root-r-requires
root-r-requires c =
    let Q = c.requires in
    rw c.pairs_at.ensures (Q.values.placed, (Q.values.graph, Q.values.stands.shows), omega (arith, ready_left _ _ _ _ _ _ _ Q, ready_node _ _ _ _ _ _ _ Q))

pub value-requires : goal.value-requires
value-requires c =
    let Q = c.requires in
    let F = rw c.pairs_at.ensures at c.root-r.ensures in
    (found_placed _ _ _ _ _ _ _ Q _ _ _ _ (ready_left _ _ _ _ _ _ _ Q) (ready_right _ _ _ _ _ _ _ Q) F, found_inside _ _ _ _ _ _ _ Q _ _ _ _ (ready_left _ _ _ _ _ _ _ Q) (ready_right _ _ _ _ _ _ _ Q) F)

pub returns : goal.returns
returns c =
    let Q = c.requires in
    let F = rw c.pairs_at.ensures at c.root-r.ensures in
    takes-known _ _ _ _ _ _ _ Q _ _ _ _ (ready_left _ _ _ _ _ _ _ Q) (ready_right _ _ _ _ _ _ _ Q) F _ c.in-Some.ensures (rw c.pairs_at.ensures at c.if-m-n.false)

pub returns-then-m-n : goal.returns-then-m-n
returns-then-m-n c =
    let Q = c.requires in
    let F = rw c.pairs_at.ensures at c.root-r.ensures in
    takes-other _ _ _ _ _ _ _ Q _ _ _ _ (ready_left _ _ _ _ _ _ _ Q) (ready_right _ _ _ _ _ _ _ Q) F _ c.in-Some.ensures (rw c.pairs_at.ensures at c.if-m-n.true)

pub give-requires : goal.give-requires
give-requires c =
    let Q = c.requires in
    let F = rw c.pairs_at.ensures at c.root-r.ensures in
    rw c.pairs_at.ensures (takes-fresh _ _ _ _ _ _ _ Q _ _ _ _ (ready_left _ _ _ _ _ _ _ Q) (ready_right _ _ _ _ _ _ _ Q) F c.in_default.ensures)

pub returns-in_default : goal.returns-in_default
returns-in_default c =
    let Q = c.requires in
    let F = rw c.pairs_at.ensures at c.root-r.ensures in
    takes-given _ _ _ _ _ _ _ Q _ _ _ _ (ready_left _ _ _ _ _ _ _ Q) (ready_right _ _ _ _ _ _ _ Q) F c.in_default.ensures _ c.give.result (rw c.pairs_at.ensures at c.give.ensures)
