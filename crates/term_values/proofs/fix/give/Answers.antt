-- `give` meets its contract.
use Rattle.term_values.specs.Gives.{fresh_inside, fresh_small, gives_variable, gives_unlike, gives_longer, gives_pushable, gives_arguments}
use Rattle.term_values.proofs.fix.give.Goals as goal

pub put_value-requires : goal.put_value-requires
put_value-requires c = let Q = c.requires in (Q.values.placed, fresh_inside _ _ _ _ _ _ _ _ _ Q, fresh_small _ _ _ _ _ _ _ _ _ Q)

pub returns-then-head : goal.returns-then-head
returns-then-head c =
    let Q = c.requires in
    let h = c.head-head in
    gives_variable _ _ _ _ _ _ _ _ _ Q _ c.put_value.ensures h.result h.ensures c.if-head.true

pub returns-then-node_head-head : goal.returns-then-node_head-head
returns-then-node_head-head c =
    let Q = c.requires in
    let h = c.head-head in
    let d = c.node_head in
    gives_unlike _ _ _ _ _ _ _ _ _ Q h.result h.ensures c.if-head.false d.result d.ensures c.if-node_head-head.true

pub returns-then-node_arity-k : goal.returns-then-node_arity-k
returns-then-node_arity-k c =
    let Q = c.requires in
    let h = c.head-head in
    let d = c.node_head in
    let k = c.arity-k in
    let m = c.node_arity in
    gives_longer _ _ _ _ _ _ _ _ _ Q h.result h.ensures c.if-head.false d.result d.ensures c.if-node_head-head.false k.result k.ensures m.result m.ensures c.if-node_arity-k.true

pub put_value-requires-2 : goal.put_value-requires-2
put_value-requires-2 c = let Q = c.requires in (Q.values.placed, fresh_inside _ _ _ _ _ _ _ _ _ Q, fresh_small _ _ _ _ _ _ _ _ _ Q)

pub push_arguments-requires : goal.push_arguments-requires
push_arguments-requires c =
    let Q = c.requires in
    let h = c.head-head in
    let d = c.node_head in
    let k = c.arity-k in
    let m = c.node_arity in
    gives_pushable _ _ _ _ _ _ _ _ _ Q h.result h.ensures c.if-head.false d.result d.ensures c.if-node_head-head.false k.result k.ensures m.result m.ensures c.if-node_arity-k.false _ c.put_value-2.ensures

pub returns : goal.returns
returns c =
    let Q = c.requires in
    let h = c.head-head in
    let d = c.node_head in
    let k = c.arity-k in
    let m = c.node_arity in
    gives_arguments _ _ _ _ _ _ _ _ _ Q h.result h.ensures c.if-head.false d.result d.ensures c.if-node_head-head.false k.result k.ensures m.result m.ensures c.if-node_arity-k.false _ c.put_value-2.ensures _ c.push_arguments.result c.push_arguments.ensures
