-- `turn` meets its contract.
use mathlib.Core.Path.{◌≡◌}
use Prim.Native.Nat.{ℕ, ◌+◌, ◌-◌, ◌<◌}
use native.Mathlib.Omega.{arith}
use Rattle.text_write.specs.Walk.{turn-room, turn-node, read_close, read_argument, read_taken, read_visits, read_next}
use Rattle.text_write.proofs.term.turn.Goals as goal

-- the frame on top stands above one less
above : (n : ℕ) → 0 < n → n ≡ n - 1 + 1
above n h = omega arith

pub frame_node-x-requires : goal.frame_node-x-requires
frame_node-x-requires c = let a = c.args in turn-room _ _ _ a.text.now _ _ a.p c.requires _ (above _ c.requires.some)

pub frame_taken-taken-requires : goal.frame_taken-taken-requires
frame_taken-taken-requires c = let a = c.args in turn-room _ _ _ a.text.now _ _ a.p c.requires _ (above _ c.requires.some)

pub arity_of-requires : goal.arity_of-requires
arity_of-requires c =
    let a = c.args in
    (c.requires.placed.sourced, rw c.frame_node-x.ensures (turn-node _ _ _ a.text.now _ _ a.p c.requires _ (above _ c.requires.some)))

pub returns-then-arity_of-taken : goal.returns-then-arity_of-taken
returns-then-arity_of-taken c = let a = c.args in read_close _ _ _ a.text.now _ _ a.p c.requires _ (above _ c.requires.some) _ _ c.frame_node-x.ensures c.frame_taken-taken.ensures _ c.arity_of.ensures c.if-arity_of-taken.true _ _ c.put_byte-end.ensures.byte c.put_byte-end.ensures.on

pub argument_of-y-requires : goal.argument_of-y-requires
argument_of-y-requires c = let a = c.args in read_argument _ _ _ a.text.now _ _ a.p c.requires _ (above _ c.requires.some) _ _ c.frame_node-x.ensures c.frame_taken-taken.ensures _ c.arity_of.ensures (omega (arith, c.if-arity_of-taken.false))

pub take_argument-requires : goal.take_argument-requires
take_argument-requires c = let a = c.args in read_taken _ _ _ a.text.now _ _ a.p c.requires _ (above _ c.requires.some) _ _ c.frame_node-x.ensures c.frame_taken-taken.ensures _ c.arity_of.ensures (omega (arith, c.if-arity_of-taken.false))

pub visit-requires : goal.visit-requires
visit-requires c = let a = c.args in read_visits _ _ _ a.text.now _ _ a.p c.requires _ (above _ c.requires.some) _ _ c.frame_node-x.ensures c.frame_taken-taken.ensures _ c.arity_of.ensures (omega (arith, c.if-arity_of-taken.false)) _ c.argument_of-y.ensures _ c.take_argument.ensures

pub returns : goal.returns
returns c = let a = c.args in read_next _ _ _ a.text.now _ _ a.p c.requires _ (above _ c.requires.some) _ _ c.frame_node-x.ensures c.frame_taken-taken.ensures _ c.arity_of.ensures (omega (arith, c.if-arity_of-taken.false)) _ c.argument_of-y.ensures _ c.take_argument.ensures _ _ _ _ _ c.put_byte-end-2.ensures.byte c.put_byte-end-2.ensures.on c.visit.ensures
