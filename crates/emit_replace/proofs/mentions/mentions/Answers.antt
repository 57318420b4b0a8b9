-- `mentions` meets its contract.
use Rattle.emit_replace.specs.Beginning.{ready_begins}
use Rattle.emit_replace.specs.Telling.{tells_itself, tells_asks, tells}
use Rattle.emit_replace.proofs.mentions.mentions.Goals as goal

pub returns-then-j-x : goal.returns-then-j-x
returns-then-j-x c = tells_itself _ _ _ _ _ _ c.if-j-x.true

pub begin-memo-requires : goal.begin-memo-requires
begin-memo-requires c = let P = c.requires in ready_begins P.pack P.proof _ _ _ _ P.world P.state P.ready _ P.x_stored

pub ask_all-requires : goal.ask_all-requires
ask_all-requires c =
    let P = c.requires in
    let a = c.args in
    (a.x, a.j, tells_asks P.pack P.proof _ _ _ _ P.world P.state P.ready _ _ _ _ c.begin-memo.ensures c.if-j-x.false P.j_stored)

pub returns : goal.returns
returns c = tells _ _ _ _ _ _ _ _ c.begin-memo.ensures c.if-j-x.false _ _ c.ask_all.ensures
