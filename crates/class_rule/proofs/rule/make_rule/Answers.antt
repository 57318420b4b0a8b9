-- `make_rule` meets its contract.
use mathlib.Core.Path.{refl}
use native.Mathlib.Omega.{arith}
use Rattle.class_rule.specs.Making.{making_few, making_derives}
use Rattle.class_rule.proofs.rule.make_rule.Goals as goal

pub count_up-requires : goal.count_up-requires
count_up-requires c = let n = making_few _ _ _ _ _ _ _ _ _ _ _ _ _ c.requires in (omega (arith, n.0), n.0)

pub derive_class-requires : goal.derive_class-requires
derive_class-requires c = making_derives _ _ _ _ _ _ _ _ _ _ _ _ _ c.requires _ _ c.count_up.ensures refl
