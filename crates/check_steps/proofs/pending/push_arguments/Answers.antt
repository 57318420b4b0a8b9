-- `push_arguments` meets its contract: with each turn one argument more stands on the stack.
use Rattle.pack_read.specs.Held.{readable}
use Rattle.check_steps.specs.Pushed.{node_recorded, arguments_none, arguments_left, arguments_room, arguments_more, arguments_all}
use Rattle.check_steps.proofs.pending.push_arguments.Goals as goal

pub node_arity-arity-requires : goal.node_arity-arity-requires
node_arity-arity-requires c = let p = c.requires in (readable _ _ _ p.0, node_recorded _ _ _ p.0 _ p.1)

pub loop-i-init : goal.loop-i-init
loop-i-init c = arguments_none _ _ _ _ _ _ _ c.requires.2 c.node_arity-arity.ensures

pub node_argument-requires : goal.node_argument-requires
node_argument-requires c =
    let p = c.requires in
    (readable _ _ _ p.0, node_recorded _ _ _ p.0 _ p.1, arguments_left _ _ _ _ _ _ _ _ _ c.loop-i.invariant p.0 c.loop-i-test.true)

pub push-on-requires : goal.push-on-requires
push-on-requires c = let p = c.requires in arguments_room _ _ _ _ _ _ _ _ _ c.loop-i.invariant p.0 p.3 c.loop-i-test.true

pub loop-i-preserved : goal.loop-i-preserved
loop-i-preserved c = arguments_more _ _ _ _ _ _ _ _ _ c.loop-i.invariant c.loop-i-test.true c.node_argument.result.0 c.node_argument.ensures c.push-on.new.words c.push-on.result c.push-on.auto.words c.push-on.ensures.stack

pub returns : goal.returns
returns c = arguments_all _ _ _ _ _ _ _ _ _ c.loop-i.invariant c.loop-i-test.false
