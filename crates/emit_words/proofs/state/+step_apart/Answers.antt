-- Each pattern has room, so the call of itself is never reached.
use Rattle.std.proofs.Common.{arith}
use Rattle.emit_words.specs.Spelling.{stored_is, pattern_room}
use Rattle.emit_words.proofs.state.+step_apart.Goals as goal

pub step_apart-requires : goal.step_apart-requires
step_apart-requires t c =
    let A = c.requires in
    absurd (omega (arith, A.has.stored, stored_is _ _ _ _ _ _ _ _ A.ready, pattern_room _ _ _ _ _ _ _ _ A.ready, c.if-l-j.true))
