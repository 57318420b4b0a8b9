-- `advance` meets its contract.
use native.Mathlib.Omega.{arith}
use Rattle.pack_read.specs.Held.{readable}
use Rattle.term_lift.specs.Turns.{turn_inside, turn-given, turn_recorded, turn_passed, turn-left, turn_small, turn-above, turn_entered, turn_ripe, turn_finished, turn_short}
use Rattle.term_lift.proofs.lift.advance.Goals as goal

pub overflow_mul-at : goal.overflow_mul-at
overflow_mul-at c = let R = c.requires in omega (arith, turn_inside _ _ _ _ _ _ _ R)

pub overflow_add-at-2 : goal.overflow_add-at-2
overflow_add-at-2 c = let R = c.requires in omega (arith, turn_inside _ _ _ _ _ _ _ R)

pub offset_bounds-work-at : goal.offset_bounds-work-at
offset_bounds-work-at c = let R = c.requires in omega (arith, turn_inside _ _ _ _ _ _ _ R)

pub bounds-work-at : goal.bounds-work-at
bounds-work-at c = let R = c.requires in omega (arith, turn_inside _ _ _ _ _ _ _ R)

pub overflow_add-taken : goal.overflow_add-taken
overflow_add-taken c = let R = c.requires in omega (arith, turn_inside _ _ _ _ _ _ _ R)

pub offset_bounds-work-at-2 : goal.offset_bounds-work-at-2
offset_bounds-work-at-2 c = let R = c.requires in omega (arith, turn_inside _ _ _ _ _ _ _ R)

pub bounds-work-at-2 : goal.bounds-work-at-2
bounds-work-at-2 c = let R = c.requires in omega (arith, turn_inside _ _ _ _ _ _ _ R)

pub passes-requires : goal.passes-requires
passes-requires c = let R = c.requires in let L = R.lifts.laid in omega (arith, turn-given _ _ _ _ _ _ _ R, L.fits, L.inside)

pub returns-then-passes : goal.returns-then-passes
returns-then-passes c = turn_passed _ _ _ _ _ _ _ c.requires c.passes.result c.passes.ensures c.if-passes.true

pub node_arity-requires : goal.node_arity-requires
node_arity-requires c = let R = c.requires in (readable _ _ _ R.lifts.laid.held, turn_recorded _ _ _ _ _ _ _ R)

pub node_argument-a-requires : goal.node_argument-a-requires
node_argument-a-requires c = let R = c.requires in (readable _ _ _ R.lifts.laid.held, turn_recorded _ _ _ _ _ _ _ R, let R = c.requires in turn-left _ _ _ _ _ _ _ R c.passes.result c.passes.ensures c.if-passes.false c.node_arity.result c.node_arity.ensures c.if-taken-node_arity.true)

pub enter-requires : goal.enter-requires
enter-requires c = (let R = c.requires in turn-above _ _ _ _ _ _ _ R c.passes.result c.passes.ensures c.if-passes.false c.node_arity.result c.node_arity.ensures c.if-taken-node_arity.true, omega (arith, let R = c.requires in turn_small _ _ _ _ _ _ _ R c.passes.result c.passes.ensures c.if-passes.false c.node_arity.result c.node_arity.ensures c.if-taken-node_arity.true))

pub overflow_add-result : goal.overflow_add-result
overflow_add-result c = omega (arith, turn_inside _ _ _ _ _ _ _ c.requires)

pub returns-then-taken-node_arity : goal.returns-then-taken-node_arity
returns-then-taken-node_arity c = rw c.enter.ensures (let R = c.requires in turn_entered _ _ _ _ _ _ _ R c.passes.result c.passes.ensures c.if-passes.false c.node_arity.result c.node_arity.ensures c.if-taken-node_arity.true c.node_argument-a.result.0 c.node_argument-a.ensures)

pub finish-requires : goal.finish-requires
finish-requires c = let R = c.requires in (R.lifts.laid, let R = c.requires in turn_ripe _ _ _ _ _ _ _ R c.passes.result c.passes.ensures c.if-passes.false c.node_arity.result c.node_arity.ensures c.if-taken-node_arity.false)

pub returns : goal.returns
returns c = let R = c.requires in turn_finished _ _ _ _ _ _ _ R c.passes.result c.passes.ensures c.if-passes.false c.node_arity.result c.node_arity.ensures c.if-taken-node_arity.false c.finish.new.work c.finish.new.words c.in_ok-more.field-0-0 _ c.in_ok-more.ensures

pub returns-in_err-more : goal.returns-in_err-more
returns-in_err-more c = let R = c.requires in rw c.from_residual.ensures (turn_short _ _ _ _ _ _ _ R c.passes.result c.passes.ensures c.if-passes.false c.node_arity.result c.node_arity.ensures c.if-taken-node_arity.false c.finish.new.work c.finish.new.words c.in_err-more.ensures)
