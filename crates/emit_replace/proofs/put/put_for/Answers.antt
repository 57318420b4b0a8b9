-- `put_for` meets its contract.
use native.Mathlib.Omega.{arith}
use Rattle.emit_replace.specs.Beginning.{ready_begins}
use Rattle.emit_replace.specs.Answers.{put_going, replaces_itself, replaces_as, replaces_short}
use Rattle.emit_replace.proofs.put.put_for.Goals as goal

pub returns-then-j-x : goal.returns-then-j-x
returns-then-j-x c = record { grown = omega arith; comes = replaces_itself _ _ _ _ _ _ _ c.if-j-x.true }

pub begin-memo-requires : goal.begin-memo-requires
begin-memo-requires c = let P = c.requires in ready_begins P.pack P.proof _ _ _ _ P.world P.state P.ready _ P.x_stored

pub put_all-requires : goal.put_all-requires
put_all-requires c =
    let P = c.requires in
    (_, put_going P.pack P.proof _ _ _ _ P.world P.state P.ready _ _ _ P.j_stored _ _ c.begin-memo.ensures c.if-j-x.false)

pub returns : goal.returns
returns c = let r = replaces_as _ _ _ _ _ _ _ _ _ c.begin-memo.ensures c.if-j-x.false _ _ _ _ _ c.with_store.ensures c.in-Some.ensures c.put_all.auto.words in record { grown = r.0; comes = r.1 }

pub returns-in_default : goal.returns-in_default
returns-in_default c = record { grown = tt; comes = replaces_short _ _ _ _ _ _ _ _ _ c.begin-memo.ensures c.if-j-x.false _ _ c.in_default.ensures }
