-- `key_steps` meets its contract: with each turn one step more has its class.
use native.Mathlib.Numerals.{add-one}
use native.Mathlib.Omega.{arith}
use Rattle.class_keys.specs.Keyed.{walked_none, walked_steps, walked_more, ended}
use Rattle.class_keys.proofs.steps.key_steps.Goals as goal

pub loop-s-init : goal.loop-s-init
loop-s-init c = walked_none _ _ _ _ _ _ c.begin-n.ensures.state

pub key_step-done-requires : goal.key_step-done-requires
key_step-done-requires c = let B = c.begin-n.ensures in let W = c.loop-s.invariant in (W.state, omega (arith, c.loop-s-test.true, B.here, walked_steps _ _ _ _ _ _ _ B.state.keyable _ _ W))

pub loop-s-preserved : goal.loop-s-preserved
loop-s-preserved c = let B = c.begin-n.ensures in rw (add-one c.loop-s.s) (walked_more _ _ _ _ _ _ _ B.state.keyable _ _ c.loop-s.invariant (omega (arith, c.loop-s-test.true, B.here)) _ _ _ c.key_step-done.ensures)

pub returns : goal.returns
returns c = let e = ended _ _ _ _ _ _ _ _ _ _ _ _ c.begin-n.ensures c.loop-s.invariant (omega (arith, c.loop-s-test.false)) in record { keyed = e.0; frame = e.1; classes = e.2 }
