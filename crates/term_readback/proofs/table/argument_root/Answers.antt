-- `argument_root` meets its contract.
use Rattle.term_readback.specs.Asked.{arguing_there, argument_node, rooted}
use Rattle.term_readback.proofs.table.argument_root.Goals as goal

pub argument-y-requires : goal.argument-y-requires
argument-y-requires c = let p = c.requires in (p.asking.graphed.shows.laid, p.asking.node, arguing_there _ _ _ _ _ _ p)

pub find-requires : goal.find-requires
find-requires c = let p = c.requires in ((p.asking.graph, p.asking.graphed.shows), argument_node _ _ _ _ _ _ p _ c.argument-y.ensures)

pub returns : goal.returns
returns c = let p = c.requires in rooted _ _ _ _ _ _ p _ c.argument-y.ensures c.find.result.0 c.find.new.table c.find.ensures
