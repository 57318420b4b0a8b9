-- `write_roots` meets its contract.
use Rattle.host_unify.specs.Tells.{nodes_small, written_none, written-more, written_all}
use mathlib.Core.Path.{refl, ◌∙◌}
use native.Mathlib.Omega.{arith}
use lib.ListN.{length-set}
use Rattle.host_unify.proofs.write_roots.Goals as goal

pub loop-i-init : goal.loop-i-init
loop-i-init c = let a = c.args in (omega arith, refl, refl, written_none a.cells.now a.work.now a.roots.now a.g)

pub overflow_cast-i : goal.overflow_cast-i
overflow_cast-i c = let H = c.requires.0 in record { fits = omega (arith, nodes_small _ _ _ H.0 H.1) }

pub find-r-requires : goal.find-r-requires
find-r-requires c = let H = c.requires.0 in ((H.0, (c.loop-i.invariant.3 H.0 H.1).0), omega arith)

pub loop-i-preserved : goal.loop-i-preserved
loop-i-preserved c =
    let g = c.loop-i in
    (omega arith, c.find-r.auto.table ∙ g.invariant.1, simp length-set g.invariant.2, written-more _ _ _ _ _ _ _ _ _ (omega (arith, c.requires.1.room)) g.invariant.3 c.find-r.ensures)

pub shape_of-work : goal.shape_of-work
shape_of-work c = search

pub shape_of-roots : goal.shape_of-roots
shape_of-roots c = search

pub returns : goal.returns
returns c = let g = c.loop-i in written_all _ _ _ _ _ _ _ c.requires.1 (omega arith) g.invariant.3
