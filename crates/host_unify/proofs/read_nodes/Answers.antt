-- `read_nodes` meets its contract.
use mathlib.Core.Path.{refl, ◌∙◌}
use native.Mathlib.Omega.{arith}
use Rattle.host_unify.specs.Turns.{begun, ended_there}
use Rattle.host_unify.proofs.read_nodes.Goals as goal

pub new-g-requires : goal.new-g-requires
new-g-requires c = let p = c.requires in (omega (arith, p.0), p.1)

pub loop-at-init : goal.loop-at-init
loop-at-init c = let a = c.args in (refl, refl, begun _ _ _ _ c.new-g.ensures.0)

pub read_node-requires : goal.read_node-requires
read_node-requires c = let g = c.loop-at in (g.invariant.2, omega arith)

pub loop-at-smaller : goal.loop-at-smaller
loop-at-smaller c =
    let T = c.in_ok-h.ensures in
    omega (arith, T.1, T.0.within)

pub loop-at-preserved : goal.loop-at-preserved
loop-at-preserved c =
    let g = c.loop-at in
    let k = c.read_node.auto in
    let T = c.in_ok-h.ensures in
    (k.cells ∙ g.invariant.0, k.work ∙ g.invariant.1, T.0)

pub returns : goal.returns
returns c = let g = c.loop-at in ended_there _ _ _ _ _ g.invariant.2 (omega arith)
