-- `write_node` meets its contract.
use Rattle.text_write.specs.Nodes.{variable_number, variable-written}
use Rattle.text_write.proofs.node.write_node.Goals as goal

pub argument_of-k-requires : goal.argument_of-k-requires
argument_of-k-requires c =
    let p = c.requires in
    let H = p.0.held in
    (p.0, p.1, variable_number _ _ _ _ _ p H.pack H.reads H.proper _ (c.head_of-h.ensures H.pack H.reads H.proper) c.if-h.true)

pub returns-then-h : goal.returns-then-h
returns-then-h c =
    let p = c.requires in
    λ P R Q. variable-written _ _ _ _ _ p P R Q _ (c.head_of-h.ensures P R Q) c.if-h.true _ (c.argument_of-k.ensures P R Q) _ _ _ _ c.put_variable.ensures

pub write_applied-requires : goal.write_applied-requires
write_applied-requires c = record { nodes = c.requires; head = c.head_of-h.ensures; applied = c.if-h.false }

pub returns : goal.returns
returns c = c.write_applied.ensures
