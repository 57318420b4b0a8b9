-- `suppose_one` meets its contract.
use Rattle.std.proofs.lemmas.Result.{err_from_is_err_and}
use Rattle.emit_case.specs.Leaves.{puts_for}
use Rattle.emit_case.specs.Putting.{put-asked, made-asked}
use Rattle.emit_case.specs.One.{entering, one_entered, one_unheld, one_short}
use Rattle.emit_case.proofs.suppose.suppose_one.Goals as goal

pub put_for-requires : goal.put_for-requires
put_for-requires c = put-asked _ _ _ _ _ _ _ _ c.requires.0

pub write_hyp-requires : goal.write_hyp-requires
write_hyp-requires c = let F = puts_for ((c.in_ok-t.ensures.grown, c.in_ok-t.ensures.comes)) in made-asked _ _ _ _ _ _ _ _ _ _ _ _ F c.requires.0

pub enter_hypothesis-requires : goal.enter_hypothesis-requires
enter_hypothesis-requires c =
    let F = puts_for ((c.in_ok-t.ensures.grown, c.in_ok-t.ensures.comes)) in
    let N = entering _ _ _ _ _ _ _ _ _ _ _ _ F _ _ _ _ c.in-Line.ensures.answer c.requires.0 c.requires.1 in
    (N.0, N.1, c.in-Line.ensures.line)

pub returns-in-Line : goal.returns-in-Line
returns-in-Line c =
    let F = puts_for ((c.in_ok-t.ensures.grown, c.in_ok-t.ensures.comes)) in
    one_entered _ _ _ _ _ _ _ _ _ _ _ _ F _ _ _ _ c.in-Line.ensures.answer _ _ c.enter_hypothesis.ensures

pub returns-in-Fails : goal.returns-in-Fails
returns-in-Fails c = absurd c.in-Fails.ensures.line

pub returns-in-Refused : goal.returns-in-Refused
returns-in-Refused c =
    let F = puts_for ((c.in_ok-t.ensures.grown, c.in_ok-t.ensures.comes)) in
    one_unheld _ _ _ _ _ _ _ _ _ _ _ _ F _ _ _ c.in-Refused.ensures.answer

pub returns-in_err-t : goal.returns-in_err-t
returns-in_err-t c =
    let F = puts_for ((c.in_err-t.ensures.grown, c.in_err-t.ensures.comes)) in
    let p = err_from_is_err_and c.from_residual.result c.from_residual.ensures.1 in
    rw (p.1, p.2) (one_short _ _ _ _ _ _ _ _ _ _ _ F)
