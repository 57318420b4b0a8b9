-- `has_key` meets its contract.
use mathlib.Core.Path.{refl}
use Rattle.std.proofs.Common.{◌∙◌}
use Rattle.base.specs.Same.{same_is}
use Rattle.class_keys.specs.Table.{class_room, class_asked, has_class}
use Rattle.class_keys.proofs.table.has_key.Goals as goal

pub class_first-f-requires : goal.class_first-f-requires
class_first-f-requires c = let p = c.requires in class_room _ _ _ _ _ _ p.0 _ p.1

pub write_key-n-requires : goal.write_key-n-requires
write_key-n-requires c = let p = c.requires in (class_asked _ _ _ _ _ _ p.0 _ p.1 _ c.class_first-f.ensures, refl)

pub returns : goal.returns
returns c = let a = c.args in has_class _ _ _ _ _ _ c.requires.0 a.i _ c.class_first-f.ensures _ _ c.write_key-n.ensures a.key.now _ (c.eq.ensures ∙ same_is _ _)
