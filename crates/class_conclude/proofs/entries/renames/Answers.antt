-- `renames` meets its contract.
use Rattle.base.specs.Part.{part}
use Rattle.store.specs.Stored.{nodes}
use Rattle.class_conclude.specs.Entries.{renames_in, renames_out}
use Rattle.class_conclude.proofs.entries.renames.Goals as goal

pub head-requires : goal.head-requires
unfolding part
head-requires c = (c.requires.0.index, c.requires.1)

pub returns-then-head : goal.returns-then-head
returns-then-head c = let a = c.args in renames_in (nodes a.words.now a.st) a.p.0 _ c.head.ensures c.if-head.true

pub returns : goal.returns
returns c = let a = c.args in renames_out (nodes a.words.now a.st) a.p.0 _ c.head.ensures c.if-head.false
