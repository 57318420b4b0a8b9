-- `finish` meets its contract.
use native.Mathlib.Omega.{arith}
use Rattle.std.proofs.lemmas.Result.{err_from_is_err_and}
use Rattle.class_build.specs.Finish.{tests_fit, counts_there}
use Rattle.class_premises.specs.Buffers.{lent}
use Rattle.text_goals.specs.Ends.{ends_starting, ends-done, ends-full, ends-refused}
use Rattle.text_goals.proofs.show.finish.Goals as goal

pub instance_tables-tables-requires : goal.instance_tables-tables-requires
instance_tables-tables-requires c = let f = tests_fit _ _ _ _ _ _ _ _ _ _ _ _ c.requires.0 in (omega (arith, f.0, f.1), omega (arith, f.1))

pub show_goals-requires : goal.show_goals-requires
show_goals-requires c =
    let a = c.args in
    ends_starting (lent a.pack.now a.class.now a.words.now a.cells.now a.work.now) a.s a.r a.t c.requires.0 c.requires.1 _ c.instance_tables-tables.ensures

pub returns-then-text-end : goal.returns-then-text-end
returns-then-text-end c =
    let a = c.args in
    let g = c.show_goals in
    ends-full (lent a.pack.now a.class.now a.words.now a.cells.now a.work.now) a.s a.r a.t c.requires.0 c.requires.1 _ c.instance_tables-tables.ensures _ _ g.new.work a.b g.auto.text c.requires.2 _ c.in_ok-end.ensures c.if-text-end.true

pub figures_of-f-requires : goal.figures_of-f-requires
figures_of-f-requires c = counts_there _ _ _ _ _ _ _ _ _ _ _ _ c.requires.0 c.show_goals.new.work c.show_goals.auto.work

pub returns : goal.returns
returns c =
    let a = c.args in
    let g = c.show_goals in
    ends-done (lent a.pack.now a.class.now a.words.now a.cells.now a.work.now) a.s a.r a.t c.requires.0 c.requires.1 _ c.instance_tables-tables.ensures _ _ g.new.work a.b g.auto.text c.requires.2 _ c.in_ok-end.ensures (omega (arith, c.if-text-end.false)) _ c.figures_of-f.ensures

pub returns-in_err-end : goal.returns-in_err-end
returns-in_err-end c =
    let a = c.args in
    let g = c.show_goals in
    let e = err_from_is_err_and c.from_residual.result c.from_residual.ensures.1 in
    rw (e.1, e.2) (ends-refused (lent a.pack.now a.class.now a.words.now a.cells.now a.work.now) a.s a.r a.t c.requires.0 c.requires.1 _ c.instance_tables-tables.ensures _ g.new.text g.new.work a.b g.auto.text c.requires.2 _ c.in_err-end.ensures)
