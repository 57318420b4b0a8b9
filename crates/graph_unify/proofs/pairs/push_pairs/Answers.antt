-- `push_pairs` meets its contract.
use native.Mathlib.Omega.{arith}
use mathlib.Core.Path.{refl, sym, subst}
use Rattle.graph.specs.Cells.{laid_rows}
use Rattle.graph_unify.specs.Pairs.{PairsOn, pile_none, pile_left, pile_right, pile_more, pile_all, pile_empty, pile_topmost}
use Rattle.graph_unify.proofs.pairs.push_pairs.Goals as goal

pub loop-i-init : goal.loop-i-init
loop-i-init c = let p = c.requires in pile_none _ _ _ _ _ c.arity-a.result c.arity-b.result _ c.arity-a.ensures c.arity-b.ensures c.min-n.ensures _ p.0 p.1 p.3 _ _

pub argument-left-requires : goal.argument-left-requires
argument-left-requires c =
    let p = c.requires in
    let P = c.loop-i.invariant in
    (laid_rows _ _ _ _ P.rows p.0.1.laid, p.1, pile_left _ _ _ _ _ c.arity-a.result c.arity-b.result _ c.arity-a.ensures c.arity-b.ensures c.min-n.ensures _ _ _ _ _ P p.0 p.1 _ (omega (arith, c.loop-i-test.true)))

pub argument-right-requires : goal.argument-right-requires
argument-right-requires c =
    let p = c.requires in
    let P = c.loop-i.invariant in
    (laid_rows _ _ _ _ P.rows p.0.1.laid, p.2, pile_right _ _ _ _ _ c.arity-a.result c.arity-b.result _ c.arity-a.ensures c.arity-b.ensures c.min-n.ensures _ _ _ _ _ P p.0 p.2 _ (omega (arith, c.loop-i-test.true)))

pub loop-i-preserved : goal.loop-i-preserved
loop-i-preserved c = rw c.pairs_at-rows.ensures (pile_more _ _ _ _ _ c.arity-a.result c.arity-b.result _ c.arity-a.ensures c.arity-b.ensures c.min-n.ensures _ _ _ _ _ c.loop-i.invariant c.argument-left.result.0 c.argument-right.result.0 c.loop-i-test.true c.argument-left.ensures c.argument-right.ensures)

pub returns-then-n-eq0 : goal.returns-then-n-eq0
returns-then-n-eq0 c =
    let P = c.loop-i.invariant in
    let k = c.top_pair.ensures.0 in
    (subst (PairsOn _ _ _ _ _ _ _) (sym k) (pile_empty _ _ _ _ _ c.arity-a.result c.arity-b.result _ c.arity-a.ensures c.arity-b.ensures c.min-n.ensures _ _ _ _ _ P c.loop-i-test.false c.if-n-eq0.true), c.top_pair.ensures.1)

pub returns : goal.returns
returns c =
    let P = c.loop-i.invariant in (
      pile_all _ _ _ _ _ c.arity-a.result c.arity-b.result _ c.arity-a.ensures c.arity-b.ensures c.min-n.ensures _ _ _ _ _ P c.loop-i-test.false,
      pile_topmost _ _ _ _ _ c.arity-a.result c.arity-b.result _ c.arity-a.ensures c.arity-b.ensures c.min-n.ensures _ _ _ _ _ P c.loop-i-test.false c.if-n-eq0.false _ refl refl refl,
    )
