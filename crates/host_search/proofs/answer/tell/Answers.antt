-- `tell` meets its contract.
use Rattle.host_search.specs.Ends.{tell_as}
use Rattle.host_search.proofs.answer.tell.Goals as goal

pub finish-requires : goal.finish-requires
finish-requires c = rw c.in-Ok.is at c.requires

pub returns-in-Ok : goal.returns-in-Ok
returns-in-Ok c = tell_as c.args.proof.now c.args.s _ c.finish.result c.finish.new.proof _ c.in-Ok.is c.finish.ensures

pub returns-in-Err : goal.returns-in-Err
returns-in-Err c = tell_as c.args.proof.now c.args.s _ c.deny.result c.deny.new.proof _ c.in-Err.is c.deny.ensures
