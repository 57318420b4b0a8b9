-- `take_pair` meets its contract.
use native.Mathlib.Omega.{arith}
use Rattle.graph_unify.specs.Unifies.{pair_left, pair-right, both_held, left-root, right-root, turn-room, turn_says, found_as}
use Rattle.graph_unify.proofs.unify.take_pair.Goals as goal

pub find-left-requires : goal.find-left-requires
find-left-requires c = let p = c.requires in let R = p.0 in ((R.4.graph, R.4.shows), omega (arith, p.2, pair_left _ _ _ _ R))

pub find-right-requires : goal.find-right-requires
find-right-requires c = let p = c.requires in let R = p.0 in ((R.4.graph, (c.find-left.ensures.2 R.4.graph R.4.shows).1), omega (arith, p.3, pair-right _ _ _ _ R))

pub meet-requires : goal.meet-requires
meet-requires c =
    let p = c.requires in
    let R = p.0 in
    let F = found_as _ _ _ _ _ _ _ p.2 c.find-left.ensures in
    let E = found_as _ _ _ _ _ _ _ p.3 c.find-right.ensures in
    (both_held _ _ _ _ _ _ _ _ F E R, left-root _ _ _ _ _ _ _ _ F E R, right-root _ _ _ _ _ c.args.top _ _ F E, turn-room _ _ _ _ _ _ _ _ F E R p.1)

pub returns : goal.returns
returns c = let p = c.requires in turn_says _ _ _ _ _ _ _ _ (found_as _ _ _ _ _ _ _ p.2 c.find-left.ensures) (found_as _ _ _ _ _ _ _ p.3 c.find-right.ensures) _ c.meet.result c.meet.ensures
