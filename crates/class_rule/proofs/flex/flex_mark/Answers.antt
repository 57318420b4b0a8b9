-- `flex_mark` meets its contract.
use Rattle.class_rule.specs.Flex.{flex_laid, mark_set, mark-none}
use Rattle.class_rule.proofs.flex.flex_mark.Goals as goal

pub is_flexible-requires : goal.is_flexible-requires
is_flexible-requires c = flex_laid _ _ _ _ _ c.requires

pub returns-then-is_flexible : goal.returns-then-is_flexible
returns-then-is_flexible c = let a = c.args in mark_set a.work.now a.cells.now a.l a.g a.x.0 _ c.is_flexible.ensures c.if-is_flexible.true

pub returns : goal.returns
returns c = let a = c.args in mark-none a.work.now a.cells.now a.l a.g a.x.0 _ c.is_flexible.ensures c.if-is_flexible.false
