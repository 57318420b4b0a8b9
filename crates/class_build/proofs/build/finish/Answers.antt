-- `finish` meets its contract.
use borrow.Author.Rules.{rules}
use mathlib.Core.Path.{refl}
use Rattle.std.proofs.lemmas.Result.{err_from_is_err_and}
use Rattle.class_build.specs.Finish.{tests_fit, tests_made, counts_there, figures_are}
use Rattle.class_build.proofs.build.finish.Goals as goal

pub instance_tables-tables-requires : goal.instance_tables-tables-requires
instance_tables-tables-requires c = let q = tests_fit _ _ _ _ _ _ _ _ _ _ _ _ c.requires in search rules

pub test_goals-requires : goal.test_goals-requires
test_goals-requires c = tests_made _ _ _ _ _ _ _ _ _ _ _ _ c.requires _ c.instance_tables-tables.ensures

pub figures_of-f-requires : goal.figures_of-f-requires
figures_of-f-requires c = let N = c.in_ok-test_goals.ensures in counts_there _ _ _ _ _ _ _ _ _ _ _ _ c.requires c.test_goals.new.work N.0.outside.long

pub returns : goal.returns
returns c =
    let N = c.in_ok-test_goals.ensures in
    (refl, refl, λ P b E. let G = N.1 _ _ _ _ P b E.standing E.all in (G.0, G.1, figures_are _ _ _ _ _ _ _ _ _ _ _ _ P b E _ c.instance_tables-tables.ensures _ (record { long = N.0.outside.long; words = N.0.outside.ahead }) _ c.figures_of-f.ensures))

pub returns-in_err-test_goals : goal.returns-in_err-test_goals
returns-in_err-test_goals c =
    let e = err_from_is_err_and c.from_residual.result c.from_residual.ensures.1 in
    rw (e.1, e.2) (λ P b E. c.in_err-test_goals.ensures.1 _ _ _ _ P b E.standing E.all)
