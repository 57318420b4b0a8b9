-- `is_asked` meets its contract.
use native.Mathlib.Omega.{arith}
use Rattle.host_search.specs.Asked.{asked_deep, asked-none, asked_read, asked-sort}
use Rattle.host_search.proofs.asked.is_asked.Goals as goal

pub returns-then-q : goal.returns-then-q
returns-then-q c = asked_deep _ _ _ c.requires c.args.q.node c.args.q.depth (omega (arith, c.if-q.true))

pub returns-then-count-q : goal.returns-then-count-q
returns-then-count-q c = asked-none _ _ _ c.requires c.args.q.node c.args.q.depth (omega (arith, c.if-q.false)) (omega (arith, c.if-count-q.true, c.count.ensures))

pub node_sort-requires : goal.node_sort-requires
node_sort-requires c = asked_read _ _ _ c.requires c.args.q.node c.args.q.depth (omega (arith, c.if-count-q.false, c.count.ensures))

pub returns : goal.returns
returns c =
    asked-sort _ _ _ c.requires c.args.q.node c.args.q.depth (omega (arith, c.if-count-q.false, c.count.ensures)) (omega (arith, c.if-q.false)) _ c.node_sort.ensures
