-- `first_of` meets its contract.
use Rattle.pack_read.specs.Held.{readable}
use Rattle.class_keys.specs.Firsts.{word_first}
use Rattle.class_keys.proofs.firsts.first_of.Goals as goal

pub step_judgment-n-requires : goal.step_judgment-n-requires
step_judgment-n-requires c = let p = c.requires in (readable _ _ _ p.0.placed.held, p.1)

pub returns : goal.returns
returns c = let p = c.requires in word_first _ _ _ _ p.0 _ p.1 _ c.step_judgment-n.ensures
