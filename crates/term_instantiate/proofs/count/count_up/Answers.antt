-- `count_up` meets its contract.
use mathlib.Core.Path.{refl, ◌∙◌}
use native.Mathlib.Omega.{arith}
use lib.ListN.{length-set}
use Rattle.definition.specs.Graph.{up_to}
use Rattle.term_instantiate.specs.Count.{up_more}
use Rattle.term_instantiate.proofs.count.count_up.Goals as goal

pub loop-i-init : goal.loop-i-init
unfolding up_to
loop-i-init c = (omega arith, refl, refl)

pub loop-i-preserved : goal.loop-i-preserved
loop-i-preserved c = let g = c.loop-i in (omega arith, length-set g.env g.i g.i ∙ g.invariant.1, up_more g.env g.i (omega (arith, g.invariant.1, c.requires.0)) g.invariant.2)
