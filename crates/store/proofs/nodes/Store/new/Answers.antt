-- `Store::new` meets its contract.
use native.Mathlib.Omega.{arith}
use Rattle.store.specs.Table.{made-new}
use Rattle.store.proofs.nodes.Store.new.Goals as goal

pub rebuild-requires : goal.rebuild-requires
rebuild-requires c = let m = c.min-m.ensures in made-new _ _ _ c.requires (omega (arith, m)) (omega (arith, m))
