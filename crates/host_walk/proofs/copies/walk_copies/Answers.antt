-- `walk_copies` meets its contract.
use Rattle.definition.specs.Answer.{answer}
use Rattle.host_walk.specs.Walks.{opened_read, opened-refused}
use Rattle.host_walk.specs.Places.{opens}
use Rattle.host_walk.proofs.copies.walk_copies.Goals as goal

pub copy_marked-requires : goal.copy_marked-requires
copy_marked-requires c = let o = c.in-Ok.ensures in opens _ _ _ _ _ c.open_pack.auto.work o.0 o.1 o.2 o.3

pub returns-in-Ok : goal.returns-in-Ok
returns-in-Ok c = let o = c.in-Ok.ensures in opened_read _ _ c.copy_marked.new.words _ o.1 c.copy_marked.result o.0 o.2 (c.copy_marked.ensures o.1 o.2 o.3)

pub returns-in-Err : goal.returns-in-Err
unfolding answer
returns-in-Err c = opened-refused _ _ c.args.patterns.now _ _ _ c.in-Err.ensures c.outcome_answer.ensures
