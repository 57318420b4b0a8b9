-- `take_result` meets its contract.
use native.Mathlib.Omega.{arith}
use Rattle.pack_reader.specs.Taking.{results_keyed}
use Rattle.pack_reader.specs.Named.{rest_misnamed, rest_named}
use Rattle.pack_reader.specs.Result.{short_result, stepless_result, misnamed_result, enter_result, new-result, old-result}
use mathlib.Core.Bool.{not}
use Rattle.std.proofs.Common.{ap}
use Rattle.pack_reader.proofs.result.take_result.Goals as goal

pub returns-then-body-lt-RESULT_NAME : goal.returns-then-body-lt-RESULT_NAME
returns-then-body-lt-RESULT_NAME c = short_result _ _ _ _ _ c.requires.0 c.requires.1 c.if-body-lt-RESULT_NAME.true

pub count-requires : goal.count-requires
count-requires c = (c.requires.0.cataloged.fits, omega arith)

pub returns-then-count-step : goal.returns-then-count-step
returns-then-count-step c = stepless_result _ _ _ _ _ c.requires.0 c.requires.1 (omega (arith, c.if-body-lt-RESULT_NAME.false)) (omega (arith, c.if-count-step.true, c.count.ensures, c.u32_at-step.ensures))

pub returns-then-not-is_name : goal.returns-then-not-is_name
returns-then-not-is_name c = misnamed_result _ _ _ _ _ c.requires.0 c.requires.1 (omega (arith, c.if-body-lt-RESULT_NAME.false)) (omega (arith, c.if-count-step.false, c.count.ensures, c.u32_at-step.ensures)) (rest_misnamed c.args.body.now 4 c.is_name.result c.is_name.ensures (ap not c.if-not-is_name.true))

pub enter-requires : goal.enter-requires
enter-requires c = (enter_result _ _ _ _ _ c.requires.0 c.requires.1 (omega (arith, c.if-body-lt-RESULT_NAME.false)) (omega (arith, c.if-count-step.false, c.count.ensures, c.u32_at-step.ensures)) (rest_named c.args.body.now 4 c.is_name.result c.is_name.ensures (ap not c.if-not-is_name.false)), results_keyed)

pub returns-in-New : goal.returns-in-New
returns-in-New c = new-result _ _ _ _ _ c.requires.0 c.requires.1 (omega (arith, c.if-body-lt-RESULT_NAME.false)) (omega (arith, c.if-count-step.false, c.count.ensures, c.u32_at-step.ensures)) (rest_named c.args.body.now 4 c.is_name.result c.is_name.ensures (ap not c.if-not-is_name.false)) _ c.in-New.ensures

pub returns-in-Old : goal.returns-in-Old
returns-in-Old c = old-result _ _ _ _ _ c.requires.0 c.requires.1 (omega (arith, c.if-body-lt-RESULT_NAME.false)) (omega (arith, c.if-count-step.false, c.count.ensures, c.u32_at-step.ensures)) (rest_named c.args.body.now 4 c.is_name.result c.is_name.ensures (ap not c.if-not-is_name.false)) _ c.in-Old.ensures
