-- `key_of` meets its contract: with each turn one word more of the key stands there.
use Rattle.pack_read.specs.Held.{readable}
use Rattle.term_lift.specs.Keys.{ripe_recorded, keying_first, keying_left, keying_more}
use Rattle.term_lift.proofs.lift.key_of.Goals as goal

pub loop-i-init : goal.loop-i-init
loop-i-init c = let p = c.requires in keying_first _ _ _ _ _ p.0 _ c.node_arity-k.ensures c.args.key.now p.1 _ c.node_head.ensures

pub node_argument-a-requires : goal.node_argument-a-requires
node_argument-a-requires c = let R = c.requires.0 in (readable _ _ _ R.held, ripe_recorded _ _ _ _ _ R, keying_left _ _ _ _ _ R _ _ _ c.loop-i.invariant c.loop-i-test.true)

pub loop-i-preserved : goal.loop-i-preserved
loop-i-preserved c = keying_more _ _ _ _ _ c.requires.0 _ _ _ c.loop-i.invariant c.loop-i-test.true c.node_argument-a.result.0 c.node_argument-a.ensures
