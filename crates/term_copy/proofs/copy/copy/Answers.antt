-- `copy` meets its contract.
use Rattle.term_copy.specs.Whole.{first_ready, end-table, end_inside, end_known, copies_at, copies_short}
use Rattle.term_copy.proofs.copy.copy.Goals as goal

pub run-requires : goal.run-requires
run-requires c =
    let a = c.args in
    first_ready a.work.now a.words.now a.cells.now a.flex.now a.l a.st a.memo a.g c.requires.0 a.p.0 c.requires.1 c.begin-fresh.new.work c.begin-fresh.result c.begin-fresh.ensures

pub copy_of-requires : goal.copy_of-requires
copy_of-requires c =
    let a = c.args in
    let v = c.run in (
      end-table a.work.now a.words.now a.cells.now a.flex.now a.l a.st a.memo a.g c.requires.0 a.p.0 c.requires.1 c.begin-fresh.new.work c.begin-fresh.result c.begin-fresh.ensures v.new.work v.new.cells _ _ v.result c.in_ok-h.was v.ensures,
      end_inside a.work.now a.words.now a.cells.now a.flex.now a.l a.st a.memo a.g c.requires.0 a.p.0 c.requires.1 c.begin-fresh.new.work c.begin-fresh.result c.begin-fresh.ensures v.new.work v.new.cells _ _ v.result c.in_ok-h.was v.ensures,
      end_known a.work.now a.words.now a.cells.now a.flex.now a.l a.st a.memo a.g c.requires.0 a.p.0 c.requires.1 c.begin-fresh.new.work c.begin-fresh.result c.begin-fresh.ensures v.new.work v.new.cells _ _ v.result c.in_ok-h.was v.ensures,
    )

pub returns : goal.returns
returns c =
    let a = c.args in
    let v = c.run in
    copies_at a.work.now a.words.now a.cells.now a.flex.now a.l a.st a.memo a.g c.requires.0 a.p.0 c.requires.1 c.begin-fresh.new.work c.begin-fresh.result c.begin-fresh.ensures v.new.work v.new.cells _ _ v.result c.in_ok-h.was v.ensures v.auto.cells _ c.copy_of.ensures

pub returns-in_err-h : goal.returns-in_err-h
returns-in_err-h c =
    let a = c.args in
    let v = c.run in
    rw c.from_residual.ensures (copies_short a.work.now a.words.now a.cells.now a.flex.now a.l a.st a.memo a.g c.requires.0 a.p.0 c.requires.1 c.begin-fresh.new.work c.begin-fresh.result c.begin-fresh.ensures v.new.work v.new.cells v.result c.in_err-h.was v.ensures)
