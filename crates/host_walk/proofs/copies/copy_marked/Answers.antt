-- `copy_marked` meets its contract.
use native.Mathlib.Omega.{arith}
use Rattle.host_walk.specs.CopyCalls.{pack_marks, pack_copied_law}
use Rattle.host_walk.proofs.copies.copy_marked.Goals as goal

pub returns-then-words-flex : goal.returns-then-words-flex
returns-then-words-flex c = let a = c.args in pack_marks a.pack.now a.from.now a.work.now a.words.now a.flex.now _ _ a.p a.copies a.read c.if-words-flex.true

pub copy_listed-requires : goal.copy_listed-requires
copy_listed-requires c = record { opened = c.requires; tables = c.tables-c.ensures; few = omega (arith, c.if-words-flex.false) }

pub shape_of-work : goal.shape_of-work
shape_of-work c = search

pub shape_of-words : goal.shape_of-words
shape_of-words c = search

pub shape_of-cells : goal.shape_of-cells
shape_of-cells c = search

pub returns : goal.returns
returns c = let a = c.args in pack_copied_law a.pack.now a.from.now a.work.now c.copy_listed.new.words a.flex.now _ _ a.p a.copies a.read _ c.copy_listed.result (omega (arith, c.if-words-flex.false)) c.tables-c.ensures c.copy_listed.ensures
