-- `copy_node` meets its contract.
use Rattle.term_copy.specs.Nodes.{note_small, note-fits, table_kept, copied-made}
use Rattle.memo.specs.Recall.{recall, Remembers}
use Rattle.base.specs.Part.{part}
use lib.ListN.{length}
use Prim.Native.Nat.{ℕ, ◌<◌}
use mathlib.Core.List.{List}
use mathlib.Core.Path.{subst, sym}
use Rattle.term_copy.proofs.node.copy_node.Goals as goal

pub note-requires : goal.note-requires
note-requires c =
    let a = c.args in
    let v = c.push_copy in (
      c.requires.0.marks,
      note-fits a.work.now a.cells.now v.new.cells a.flex.now a.l a.memo a.g a.p.0 a.key.now c.requires.0 c.requires.1 v.new.work v.result v.ensures _ _ c.in_ok-x.was,
      note_small a.work.now a.cells.now v.new.cells a.flex.now a.l a.memo a.g a.p.0 a.key.now c.requires.0 c.requires.1 v.new.work v.result v.ensures _ _ c.in_ok-x.was,
      c.requires.2.some,
      c.requires.2.variable,
    )

pub insert-requires : goal.insert-requires
unfolding part
insert-requires c =
    let a = c.args in
    let v = c.push_copy in
    let e = table_kept a.work.now a.cells.now v.new.cells a.flex.now a.l a.memo a.g a.p.0 a.key.now c.requires.0 c.requires.1 v.new.work v.result v.ensures _ _ c.in_ok-x.was c.note.new.work c.note.ensures in
    subst (λ (t : List ℕ). Remembers t a.memo × (a.p.0 < length (recall t a.memo))) (sym e) (c.requires.3, c.requires.4)

pub returns : goal.returns
unfolding part
returns c =
    let a = c.args in
    let v = c.push_copy in
    copied-made a.work.now a.cells.now v.new.cells a.flex.now a.l a.memo a.g a.p.0 a.key.now c.requires.0 c.requires.1 v.new.work v.result v.ensures _ _ c.in_ok-x.was c.note.new.work c.note.ensures c.insert.new.table c.insert.auto.table c.insert.ensures
