-- `classes_outcome` meets its contract.
use mathlib.Core.Path.{sym}
use Rattle.std.proofs.lemmas.Result.{err_from_is_err_and}
use Rattle.dock.specs.Comes.{comes_refused, comes_spacious, comes_run}
use Rattle.dock.proofs.classes_outcome.classes_outcome.Goals as goal

pub run_classes-requires : goal.run_classes-requires
run_classes-requires c = let a = c.args in comes_spacious a.pack.now a.class.now a.pattern.now a.graph.now a.work.now (sym c.in_ok-test_lengths.ensures)

pub returns-in_err-test_lengths : goal.returns-in_err-test_lengths
returns-in_err-test_lengths c =
    let a = c.args in
    let p = err_from_is_err_and c.from_residual.result c.from_residual.ensures.1 in
    rw (p.1, p.2) (comes_refused a.pack.now a.class.now a.pattern.now a.graph.now a.work.now a.class.now a.pattern.now _ (sym c.in_err-test_lengths.ensures))

pub returns : goal.returns
returns c = let a = c.args in comes_run a.pack.now a.class.now a.pattern.now a.graph.now a.work.now (sym c.in_ok-test_lengths.ensures) _ _ c.run_classes.result c.run_classes.ensures
