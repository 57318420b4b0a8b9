-- `new_graph` meets its contract.
use native.Mathlib.Omega.{arith}
use Rattle.host_walk.specs.Times.{new_graph}
use Rattle.host_walk.proofs.copies.new_graph.Goals as goal

pub shape_of-work : goal.shape_of-work
shape_of-work c = search

pub returns : goal.returns
returns c = new_graph c.args.work.now c.args.cells.now c.args.l (omega (arith, c.requires.0)) c.requires.1 c.new.new.table c.new.auto.table c.new.result c.new.ensures.0
