-- `key_step` meets its contract.
use native.Mathlib.Omega.{arith}
use Rattle.class_keys.specs.Turns.{tabled, small, turn_out, old_few, old-room, turn-old, new-room, turn-new}
use Rattle.class_keys.proofs.steps.key_step.Goals as goal

pub returns-then-class-s-eq0 : goal.returns-then-class-s-eq0
returns-then-class-s-eq0 c = turn_out _ _ _ _ _ _ _ c.requires.0 c.requires.1 c.if-class-s-eq0.true

pub search-requires : goal.search-requires
search-requires c = (tabled _ _ _ _ _ _ _ c.requires.0, c.requires.1)

pub join_class-requires : goal.join_class-requires
join_class-requires c = old-room _ _ _ _ _ _ _ c.requires.0 c.requires.1 c.if-class-s-eq0.false _ c.in-Ok.ensures

pub overflow_cast-class : goal.overflow_cast-class
overflow_cast-class c = omega (arith, old_few _ _ _ _ _ _ _ c.requires.0 c.requires.1 c.if-class-s-eq0.false _ c.in-Ok.ensures, (small _ _ _ _ _ _ _ c.requires.0).0)

pub overflow_add-result : goal.overflow_add-result
overflow_add-result c = omega (arith, (small _ _ _ _ _ _ _ c.requires.0).0, (small _ _ _ _ _ _ _ c.requires.0).1, c.requires.1)

pub begin_class-requires : goal.begin_class-requires
begin_class-requires c = new-room _ _ _ _ _ _ _ c.requires.0 c.requires.1 c.if-class-s-eq0.false _ c.in-Err.ensures

pub overflow_cast-class-in-Err : goal.overflow_cast-class-in-Err
overflow_cast-class-in-Err c = omega (arith, (new-room _ _ _ _ _ _ _ c.requires.0 c.requires.1 c.if-class-s-eq0.false _ c.in-Err.ensures).2)

pub overflow_add-result-in-Err-2 : goal.overflow_add-result-in-Err-2
overflow_add-result-in-Err-2 c = omega (arith, (small _ _ _ _ _ _ _ c.requires.0).0, (small _ _ _ _ _ _ _ c.requires.0).1, c.requires.1)

pub returns-in-Ok : goal.returns-in-Ok
returns-in-Ok c = rw c.join_class.ensures (turn-old _ _ _ _ _ _ _ c.requires.0 c.requires.1 c.if-class-s-eq0.false _ c.in-Ok.ensures)

pub returns-in-Err : goal.returns-in-Err
returns-in-Err c = rw c.begin_class.ensures (turn-new _ _ _ _ _ _ _ c.requires.0 c.requires.1 c.if-class-s-eq0.false _ c.in-Err.ensures)
