-- `put_turn` meets its contract.
use Rattle.emit_replace.specs.PutRuns.{put_finishable, put_stack, puts_on, puts_done, puts_short}
use Rattle.emit_replace.proofs.put.put_turn.Goals as goal

pub descend-top-requires : goal.descend-top-requires
descend-top-requires c = let G = c.requires in (G.0.d, G.1.pending)

pub finish-requires : goal.finish-requires
finish-requires c = put_finishable _ _ _ _ _ _ _ _ c.requires _ c.descend-top.ensures

pub pop-requires : goal.pop-requires
pop-requires c = put_stack _ _ _ _ _ _ _ _ c.requires _ c.descend-top.ensures _ _ _ _ c.in_ok-q.ensures c.finish.auto.words

pub returns-in-Some : goal.returns-in-Some
returns-in-Some c = puts_on _ _ _ _ _ _ _ _ c.requires _ c.descend-top.ensures _ _ _ _ c.in_ok-q.ensures c.finish.auto.words _ _ c.in-Some.ensures

pub returns-in-None : goal.returns-in-None
returns-in-None c = puts_done _ _ _ _ _ _ _ _ c.requires _ c.descend-top.ensures _ _ _ _ c.in_ok-q.ensures c.finish.auto.words c.in-None.ensures

pub returns-in_err-q : goal.returns-in_err-q
returns-in_err-q c = rw c.from_residual.ensures (puts_short _ _ _ _ _ _ _ _ c.requires _ c.descend-top.ensures _ _ c.in_err-q.ensures)
