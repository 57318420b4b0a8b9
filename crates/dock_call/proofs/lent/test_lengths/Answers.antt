-- `test_lengths` meets its contract.
use mathlib.Core.Path.{sym}
use Rattle.dock_call.specs.Lengths.{lent_of, pack_long, class_long, pattern_long, graph_long, work_long, text_long, goals_long, work_short, all_fit}
use Rattle.dock_call.proofs.lent.test_lengths.Goals as goal

pub returns-then-l-gt-CELLS : goal.returns-then-l-gt-CELLS
returns-then-l-gt-CELLS c = sym (pack_long (lent_of c.args.l) c.if-l-gt-CELLS.true)

pub returns-then-l-gt-CELLS-2 : goal.returns-then-l-gt-CELLS-2
returns-then-l-gt-CELLS-2 c = sym (class_long (lent_of c.args.l) c.if-l-gt-CELLS.false c.if-l-gt-CELLS-2.true)

pub returns-then-l-gt-CELLS-3 : goal.returns-then-l-gt-CELLS-3
returns-then-l-gt-CELLS-3 c = sym (pattern_long (lent_of c.args.l) c.if-l-gt-CELLS.false c.if-l-gt-CELLS-2.false c.if-l-gt-CELLS-3.true)

pub returns-then-l-gt-CELLS-4 : goal.returns-then-l-gt-CELLS-4
returns-then-l-gt-CELLS-4 c = sym (graph_long (lent_of c.args.l) c.if-l-gt-CELLS.false c.if-l-gt-CELLS-2.false c.if-l-gt-CELLS-3.false c.if-l-gt-CELLS-4.true)

pub returns-then-l-gt-WORK : goal.returns-then-l-gt-WORK
returns-then-l-gt-WORK c = sym (work_long (lent_of c.args.l) c.if-l-gt-CELLS.false c.if-l-gt-CELLS-2.false c.if-l-gt-CELLS-3.false c.if-l-gt-CELLS-4.false c.if-l-gt-WORK.true)

pub returns-then-l-gt-CELLS-5 : goal.returns-then-l-gt-CELLS-5
returns-then-l-gt-CELLS-5 c = sym (text_long (lent_of c.args.l) c.if-l-gt-CELLS.false c.if-l-gt-CELLS-2.false c.if-l-gt-CELLS-3.false c.if-l-gt-CELLS-4.false c.if-l-gt-WORK.false c.if-l-gt-CELLS-5.true)

pub returns-then-l-gt-CELLS-6 : goal.returns-then-l-gt-CELLS-6
returns-then-l-gt-CELLS-6 c = sym (goals_long (lent_of c.args.l) c.if-l-gt-CELLS.false c.if-l-gt-CELLS-2.false c.if-l-gt-CELLS-3.false c.if-l-gt-CELLS-4.false c.if-l-gt-WORK.false c.if-l-gt-CELLS-5.false c.if-l-gt-CELLS-6.true)

pub returns-then-l : goal.returns-then-l
returns-then-l c = sym (work_short (lent_of c.args.l) c.if-l-gt-CELLS.false c.if-l-gt-CELLS-2.false c.if-l-gt-CELLS-3.false c.if-l-gt-CELLS-4.false c.if-l-gt-WORK.false c.if-l-gt-CELLS-5.false c.if-l-gt-CELLS-6.false c.if-l.true)

pub returns : goal.returns
returns c = sym (all_fit (lent_of c.args.l) c.if-l-gt-CELLS.false c.if-l-gt-CELLS-2.false c.if-l-gt-CELLS-3.false c.if-l-gt-CELLS-4.false c.if-l-gt-WORK.false c.if-l-gt-CELLS-5.false c.if-l-gt-CELLS-6.false c.if-l.false)
