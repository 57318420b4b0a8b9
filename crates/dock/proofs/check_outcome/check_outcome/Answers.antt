-- `check_outcome` meets its contract.
use mathlib.Core.Path.{refl, sym}
use lib.ListN.{length}
use Rattle.std.proofs.lemmas.Result.{err_from_is_err_and}
use Rattle.definition.specs.Check.{check_lent}
use Rattle.dock_call.specs.Opening.{room}
use Rattle.dock.specs.Opened.{lengths-judged, fit_judged}
use Rattle.dock.proofs.check_outcome.check_outcome.Goals as goal

pub run_check-requires : goal.run_check-requires
run_check-requires c = let a = c.args in room (check_lent (length a.pack.now) (length a.work.now)) a.pack.now c.in_ok-test_lengths.ensures a.work.now refl refl

pub returns-in_err-test_lengths : goal.returns-in_err-test_lengths
returns-in_err-test_lengths c =
    let p = err_from_is_err_and c.from_residual.result c.from_residual.ensures.1 in
    rw (p.1, p.2) (lengths-judged _ _ _ (sym c.in_err-test_lengths.ensures))

pub returns : goal.returns
returns c = fit_judged _ _ _ (sym c.in_ok-test_lengths.ensures) c.run_check.ensures
