-- `show_outcome` meets its contract.
use mathlib.Core.Path.{sym}
use Rattle.std.proofs.lemmas.Result.{err_from_is_err_and}
use Rattle.dock.specs.ComesShown.{comes_refused, comes_spacious, comes_run}
use Rattle.dock.proofs.show_outcome.show_outcome.Goals as goal

pub run_show-requires : goal.run_show-requires
run_show-requires c = let a = c.args in comes_spacious a.pack.now a.class.now a.pattern.now a.graph.now a.work.now a.text.now a.b (sym c.in_ok-test_lengths.ensures)

pub returns-in_err-test_lengths : goal.returns-in_err-test_lengths
returns-in_err-test_lengths c =
    let a = c.args in
    let p = err_from_is_err_and c.from_residual.result c.from_residual.ensures.1 in
    rw (p.1, p.2) (comes_refused a.pack.now a.class.now a.pattern.now a.graph.now a.work.now a.text.now a.b a.class.now a.pattern.now a.text.now _ (sym c.in_err-test_lengths.ensures))

pub returns : goal.returns
returns c = let a = c.args in comes_run a.pack.now a.class.now a.pattern.now a.graph.now a.work.now a.text.now a.b (sym c.in_ok-test_lengths.ensures) _ _ _ c.run_show.result c.run_show.ensures
