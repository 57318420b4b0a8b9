-- `read_last` meets its contract.
use mathlib.Core.Path.{refl}
use native.Mathlib.Omega.{arith}
use Rattle.host_walk.specs.CopyCalls.{last_none, unasked, uncopied, last_read_law}
use Rattle.host_walk.proofs.copies.read_last.Goals as goal

pub returns-then-read-eq0 : goal.returns-then-read-eq0
returns-then-read-eq0 c = let a = c.args in last_none a.pack.now a.work.now a.words.now a.cells.now a.s.catalog a.s.lifted a.t a.s.store a.g a.x.0 a.copies a.read (unasked a.pack.now a.work.now a.words.now a.cells.now a.s.catalog a.s.lifted a.t a.s.store a.g a.x.0 a.copies a.read c.if-read-eq0.true) _ refl

pub returns-then-copies-eq0 : goal.returns-then-copies-eq0
returns-then-copies-eq0 c = let a = c.args in last_none a.pack.now a.work.now a.words.now a.cells.now a.s.catalog a.s.lifted a.t a.s.store a.g a.x.0 a.copies a.read (uncopied a.pack.now a.work.now a.words.now a.cells.now a.s.catalog a.s.lifted a.t a.s.store a.g a.x.0 a.copies a.read c.if-copies-eq0.true) _ refl

pub read_back-requires : goal.read_back-requires
read_back-requires c = let K = c.requires in (K.standing, K.node (omega (arith, c.if-copies-eq0.false)))

pub shape_of-work : goal.shape_of-work
shape_of-work c = search

pub shape_of-words : goal.shape_of-words
shape_of-words c = search

pub returns : goal.returns
returns c = let a = c.args in last_read_law a.pack.now a.work.now a.words.now a.cells.now a.s.catalog a.s.lifted a.t a.s.store a.g a.x.0 a.copies a.read c.if-read-eq0.false c.if-copies-eq0.false c.read_back.new.words c.read_back.result c.read_back.ensures
