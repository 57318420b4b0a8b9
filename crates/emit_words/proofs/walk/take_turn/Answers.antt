-- `take_turn` meets its contract.
use native.Mathlib.Omega.{arith}
use Rattle.emit_words.specs.Putting.{placed-all}
use Rattle.emit_words.specs.Walking.{stack_room, top_knows, top_placed}
use Rattle.emit_words.specs.Turning.{top-whole, turn-pushed}
use Rattle.emit_words.proofs.walk.take_turn.Goals as goal

pub top_of-p-requires : goal.top_of-p-requires
top_of-p-requires c =
    omega (arith, stack_room _ _ _ _ _ _ _ _ c.requires)

pub key_of-key-requires : goal.key_of-key-requires
key_of-key-requires c =
    top_knows _ _ _ _ _ _ _ _ c.requires _ c.top_of-p.ensures

pub first_lacking-requires : goal.first_lacking-requires
first_lacking-requires c =
    placed-all _ _ _ _ _ _ _ (top_placed _ _ _ _ _ _ _ _ c.requires _ c.top_of-p.ensures) _ c.key_of-key.ensures

pub push-requires : goal.push-requires
push-requires c =
    stack_room _ _ _ _ _ _ _ _ c.requires

pub finish-requires : goal.finish-requires
finish-requires c =
    record { walking = c.requires; top = c.top_of-p.ensures; whole = top-whole _ _ _ _ _ _ _ _ c.requires _ c.top_of-p.ensures c.key_of-key.result.now c.key_of-key.ensures c.in-None.ensures }

pub returns-in-Some : goal.returns-in-Some
returns-in-Some c =
    let on = c.push.ensures.stack in
    turn-pushed _ _ _ _ _ _ _ _ c.requires _ c.top_of-p.ensures c.key_of-key.result.now c.key_of-key.ensures _ c.in-Some.ensures c.push.new.words c.push.ensures.frame _ on.0 on.2

pub returns-in-None : goal.returns-in-None
returns-in-None c =
    c.finish.ensures
