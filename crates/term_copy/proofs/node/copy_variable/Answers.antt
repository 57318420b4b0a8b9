-- `copy_variable` meets its contract.
use Rattle.term_copy.specs.Nodes.{variable-made}
use Rattle.base.specs.Part.{part}
use Rattle.term_copy.proofs.node.copy_variable.Goals as goal

pub var-requires : goal.var-requires
unfolding part
var-requires c = rw c.pairs_at.ensures c.requires.1.1.laid

pub returns : goal.returns
unfolding part
returns c =
    let a = c.args in
    let v = c.var in
    rw c.pairs_at.ensures (variable-made a.work.now a.cells.now v.new.cells a.flex.now v.new.table a.l a.g c.requires.0 (rw c.pairs_at.ensures at v.auto.table) a.sort a.k c.mark_of-mark.result c.mark_of-mark.ensures v.result (rw c.pairs_at.ensures at v.ensures))
