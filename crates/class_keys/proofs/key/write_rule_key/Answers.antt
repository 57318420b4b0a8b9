-- `write_rule_key` meets its contract: with each turn one word more of the key stands there.
use native.Mathlib.Omega.{arith}
use Rattle.pack_read.specs.Held.{readable}
use Rattle.class_keys.specs.Writing.{writing_first, writing_left, writing_ref, writing_inside, writing_more, writing_all}
use Rattle.class_keys.proofs.key.write_rule_key.Goals as goal

pub step_refs-n-requires : goal.step_refs-n-requires
step_refs-n-requires c = let A = c.requires.0 in (readable _ _ _ A.noted.placed.held, A.given)

pub step_rule-requires : goal.step_rule-requires
step_rule-requires c = let A = c.requires.0 in (readable _ _ _ A.noted.placed.held, A.given)

pub loop-i-init : goal.loop-i-init
loop-i-init c = let p = c.requires in writing_first _ _ _ _ _ _ p.0 _ c.step_refs-n.ensures c.args.key.now p.1 _ c.step_rule.ensures

pub step_ref-r-requires : goal.step_ref-r-requires
step_ref-r-requires c = let A = c.requires.0 in (readable _ _ _ A.noted.placed.held, A.given, writing_left _ _ _ _ _ _ A _ _ _ c.loop-i.invariant c.loop-i-test.true)

pub first_of-f-requires : goal.first_of-f-requires
first_of-f-requires c = (c.requires.0.noted, writing_ref _ _ _ _ _ _ c.requires.0 _ _ _ c.loop-i.invariant c.loop-i-test.true _ c.step_ref-r.ensures)

pub offset_bounds-class-f : goal.offset_bounds-class-f
offset_bounds-class-f c = omega (arith, writing_inside _ _ _ _ _ _ c.requires.0 _ _ _ c.loop-i.invariant c.loop-i-test.true _ c.step_ref-r.ensures _ c.first_of-f.ensures)

pub bounds-class-f : goal.bounds-class-f
bounds-class-f c = writing_inside _ _ _ _ _ _ c.requires.0 _ _ _ c.loop-i.invariant c.loop-i-test.true _ c.step_ref-r.ensures _ c.first_of-f.ensures

pub loop-i-preserved : goal.loop-i-preserved
loop-i-preserved c = writing_more _ _ _ _ _ _ c.requires.0 _ _ _ c.loop-i.invariant c.loop-i-test.true _ c.step_ref-r.ensures _ c.first_of-f.ensures

pub returns : goal.returns
returns c = writing_all _ _ _ _ _ _ c.requires.0 _ _ _ c.loop-i.invariant (omega (arith, c.loop-i-test.false))
