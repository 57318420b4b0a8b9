-- `run_check` meets its contract.
use mathlib.Core.Path.{◌≡◌}
use Rattle.std.proofs.lemmas.Result.{err_from_is_err_and}
use Rattle.definition.specs.Verdict.{verdict}
use Rattle.check_steps.specs.Decided.{verdict_of}
use Rattle.dock_call.specs.Outcome.{refusal_of}
use Rattle.pack_reader.specs.Said.{represents_held, represents_said}
use Rattle.dock.specs.Opened.{bad_judged, read_judged}
use Rattle.dock.proofs.check_outcome.run_check.Goals as goal

pub pack_verdict-requires : goal.pack_verdict-requires
pack_verdict-requires c = let o = c.in_ok-take_pack.ensures in represents_held _ _ _ c.tables.ensures o.0 o.1 o.2

pub returns-in_err-take_pack : goal.returns-in_err-take_pack
returns-in_err-take_pack c =
    let p = err_from_is_err_and c.from_residual.result c.from_residual.ensures.1 in
    rw (p.1, p.2) (bad_judged _ _ c.in_err-take_pack.ensures)

pub returns : goal.returns
returns c =
    let o = c.in_ok-take_pack.ensures in
    read_judged _ o.0 (refusal_of c.pack_verdict.result) o.1 (represents_said _ _ _ c.tables.ensures (λ P. verdict_of c.pack_verdict.result ≡ verdict P) c.pack_verdict.ensures o.0 o.1 o.2)
