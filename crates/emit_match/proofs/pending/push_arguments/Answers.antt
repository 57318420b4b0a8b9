-- `push_arguments` meets its contract: with each turn one argument more stands on the stack.
use native.Mathlib.Omega.{arith}
use Rattle.emit_match.specs.Pushed.{arguments_none, arguments_room, arguments_more, arguments_all}
use Rattle.emit_match.proofs.pending.push_arguments.Goals as goal

pub loop-i-init : goal.loop-i-init
loop-i-init c = (omega arith, arguments_none _ _ _ c.requires.0)

pub push-on-requires : goal.push-on-requires
push-on-requires c = arguments_room _ _ _ _ _ _ c.loop-i.invariant.1 c.requires.1 (omega arith)

pub loop-i-preserved : goal.loop-i-preserved
loop-i-preserved c = (omega arith, arguments_more _ _ _ _ _ _ c.loop-i.invariant.1 (omega arith) c.push-on.new.words c.push-on.result c.push-on.ensures.stack c.push-on.ensures.frame)

pub returns : goal.returns
returns c = arguments_all _ _ _ _ _ _ c.loop-i.invariant.1 (omega arith)
