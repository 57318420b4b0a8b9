-- `tell` meets its contract.
use Rattle.host_walk.specs.Walks.{tell_as}
use Rattle.host_walk.proofs.answer.tell.Goals as goal

pub finish-requires : goal.finish-requires
finish-requires c = rw c.in-Ok.is at c.requires

pub shape_of-patterns-in-Ok : goal.shape_of-patterns-in-Ok
shape_of-patterns-in-Ok c = search

pub returns-in-Ok : goal.returns-in-Ok
returns-in-Ok c = tell_as c.args.patterns.now c.args.walk _ c.finish.result c.finish.new.patterns _ c.in-Ok.is c.finish.ensures

pub shape_of-patterns-in-Err : goal.shape_of-patterns-in-Err
shape_of-patterns-in-Err c = search

pub returns-in-Err : goal.returns-in-Err
returns-in-Err c = tell_as c.args.patterns.now c.args.walk _ c.refuse.result c.refuse.new.patterns _ c.in-Err.is c.refuse.ensures
