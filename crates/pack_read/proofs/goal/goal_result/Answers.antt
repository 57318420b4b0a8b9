-- `goal_result` meets its contract.
use native.Mathlib.Omega.{arith}
use Rattle.pack_read.specs.Says.{result-sought, results_keyed}
use Rattle.pack_read.proofs.goal.goal_result.Goals as goal

pub find-requires : goal.find-requires
find-requires c = (c.requires.0.cataloged, omega arith, results_keyed)

pub returns : goal.returns
returns c =
    let a = c.args in
    result-sought a.pack.now a.work.now a.c a.g c.goal_name-name.result.now c.find.result c.goal_name-name.ensures c.find.ensures
