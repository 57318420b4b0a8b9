-- Each pattern has room, so the call of itself is never reached.
use Rattle.std.proofs.Common.{arith}
use Rattle.emit_premises.specs.Readied.{ready_room}
use Rattle.emit_premises.proofs.rule.+premises_apart.Goals as goal

pub premises_apart-requires : goal.premises_apart-requires
premises_apart-requires t c =
    let A = c.requires.0 in
    absurd (omega (arith, ready_room _ _ _ A.proof _ _ A.world A.state A.ready _ A.has, c.if-l-j.true))
