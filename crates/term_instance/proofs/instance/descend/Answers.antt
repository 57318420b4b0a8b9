-- `descend` meets its contract.
use Rattle.term_instance.specs.Meets.{seen_placed, descends_unlike, descends_longer, descends_pushable, descends_on}
use Rattle.term_instance.proofs.instance.descend.Goals as goal

pub returns-then-node_head-head : goal.returns-then-node_head-head
returns-then-node_head-head c =
    let B = c.requires in
    let d = c.node_head in
    descends_unlike _ _ _ _ _ _ _ _ _ _ _ _ B d.result d.ensures c.if-node_head-head.true

pub returns-then-node_arity-k : goal.returns-then-node_arity-k
returns-then-node_arity-k c =
    let B = c.requires in
    let d = c.node_head in
    let k = c.arity-k in
    let m = c.node_arity in
    descends_longer _ _ _ _ _ _ _ _ _ _ _ _ B d.result d.ensures c.if-node_head-head.false k.result k.ensures m.result m.ensures c.if-node_arity-k.true

pub put-requires : goal.put-requires
put-requires c = seen_placed _ _ _ _ _ _ _ _ _ _ _ _ c.requires.applied

pub push_arguments-requires : goal.push_arguments-requires
push_arguments-requires c =
    let B = c.requires in
    let d = c.node_head in
    let k = c.arity-k in
    let m = c.node_arity in
    descends_pushable _ _ _ _ _ _ _ _ _ _ _ _ B d.result d.ensures c.if-node_head-head.false k.result k.ensures m.result m.ensures c.if-node_arity-k.false _ c.put.ensures

pub returns : goal.returns
returns c =
    let B = c.requires in
    let d = c.node_head in
    let k = c.arity-k in
    let m = c.node_arity in
    let on = c.push_arguments in
    descends_on _ _ _ _ _ _ _ _ _ _ _ _ B d.result d.ensures c.if-node_head-head.false k.result k.ensures m.result m.ensures c.if-node_arity-k.false _ c.put.ensures _ on.result on.ensures
