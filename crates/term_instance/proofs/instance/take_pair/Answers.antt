-- `take_pair` meets its contract.
use native.Mathlib.Omega.{arith}
use Rattle.term_instance.specs.Takes.{ready_inside, ready_pattern, ready_variable, ready_applied, ready_number, ready_bindable, takes-bound, takes_unbound}
use Rattle.term_instance.proofs.instance.take_pair.Goals as goal

pub overflow_mul-at : goal.overflow_mul-at
overflow_mul-at c = let Q = c.requires in omega (arith, ready_inside _ _ _ _ _ _ _ _ _ Q)

pub overflow_add-at : goal.overflow_add-at
overflow_add-at c = let Q = c.requires in omega (arith, ready_inside _ _ _ _ _ _ _ _ _ Q)

pub offset_bounds-work-at : goal.offset_bounds-work-at
offset_bounds-work-at c = let Q = c.requires in omega (arith, ready_inside _ _ _ _ _ _ _ _ _ Q)

pub bounds-work-at : goal.bounds-work-at
bounds-work-at c = let Q = c.requires in omega (arith, ready_inside _ _ _ _ _ _ _ _ _ Q)

pub overflow_add-n : goal.overflow_add-n
overflow_add-n c = let Q = c.requires in omega (arith, ready_inside _ _ _ _ _ _ _ _ _ Q)

pub offset_bounds-work-at-2 : goal.offset_bounds-work-at-2
offset_bounds-work-at-2 c = let Q = c.requires in omega (arith, ready_inside _ _ _ _ _ _ _ _ _ Q)

pub bounds-work-at-2 : goal.bounds-work-at-2
bounds-work-at-2 c = let Q = c.requires in omega (arith, ready_inside _ _ _ _ _ _ _ _ _ Q)

pub head-head-requires : goal.head-head-requires
head-head-requires c = let Q = c.requires in (Q.given.stored, ready_pattern _ _ _ _ _ _ _ _ _ Q)

pub argument-k-requires : goal.argument-k-requires
argument-k-requires c =
    let Q = c.requires in
    let v = ready_variable _ _ _ _ _ _ _ _ _ Q _ c.head-head.ensures c.if-head.true in
    (Q.given.stored, ready_pattern _ _ _ _ _ _ _ _ _ Q, ready_number _ _ _ _ _ _ _ _ _ Q v)

pub bind-requires : goal.bind-requires
bind-requires c =
    let Q = c.requires in
    let v = ready_variable _ _ _ _ _ _ _ _ _ Q _ c.head-head.ensures c.if-head.true in
    ready_bindable _ _ _ _ _ _ _ _ _ Q v _ c.argument-k.ensures

pub returns-then-bind : goal.returns-then-bind
returns-then-bind c =
    let Q = c.requires in
    let v = ready_variable _ _ _ _ _ _ _ _ _ Q _ c.head-head.ensures c.if-head.true in
    takes-bound _ _ _ _ _ _ _ _ _ Q v _ c.argument-k.ensures _ _ c.bind.ensures c.if-bind.true

pub returns-then-head : goal.returns-then-head
returns-then-head c =
    let Q = c.requires in
    let v = ready_variable _ _ _ _ _ _ _ _ _ Q _ c.head-head.ensures c.if-head.true in
    takes_unbound _ _ _ _ _ _ _ _ _ Q v _ c.argument-k.ensures _ _ c.bind.ensures c.if-bind.false

pub meet-requires : goal.meet-requires
meet-requires c = let Q = c.requires in ready_applied _ _ _ _ _ _ _ _ _ Q _ c.head-head.ensures c.if-head.false
