-- `read_list` meets its contract.
use mathlib.Core.Path.{refl, ◌∙◌}
use native.Mathlib.Omega.{arith}
use Rattle.pack_tables.specs.SameTables.{same_none, same_then}
use Rattle.host_walk.specs.Lists.{begun, ended_there}
use Rattle.host_walk.proofs.list.read_list.Goals as goal

pub loop-at-init : goal.loop-at-init
loop-at-init c = (refl, refl, c.requires.0, begun _ _ _ c.requires.1, same_none _ _)

pub take_node-requires : goal.take_node-requires
take_node-requires c = let g = c.loop-at in (g.invariant.2, g.invariant.3, omega (arith, c.loop-at-test.true))

pub loop-at-smaller : goal.loop-at-smaller
loop-at-smaller c = let T = c.in_ok-more.ensures in omega (arith, T.2, T.1.within)

pub loop-at-preserved : goal.loop-at-preserved
loop-at-preserved c = let g = c.loop-at in let k = c.take_node.auto in let T = c.in_ok-more.ensures in (k.work ∙ g.invariant.0, k.words ∙ g.invariant.1, T.0, T.1, same_then _ _ _ _ g.invariant.4 T.3)

pub returns : goal.returns
returns c = let g = c.loop-at in (g.invariant.2, g.invariant.3.patterns, ended_there _ _ _ _ g.invariant.3 (omega (arith, c.loop-at-test.false)), g.invariant.4)
