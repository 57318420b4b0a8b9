-- `cut_conclusion` meets its contract: the variables, then the predicate over them.
use Rattle.class_cut.specs.Fresh.{lifts_indexed}
use Rattle.class_cut.specs.Conclusion.{concludes_none, concludes_lent, concludes}
use Rattle.class_cut.proofs.conclusion.cut_conclusion.Goals as goal

pub intern_key-requires : goal.intern_key-requires
intern_key-requires c =
    let F = c.in_ok-more.ensures in
    let H = c.requires.0.laid.held in
    (lifts_indexed _ _ _ _ _ _ F.lifts, concludes_lent _ _ _ _ _ _ _ _ _ _ _ _ F H.pack H.reads H.proper)

pub returns : goal.returns
returns c =
    let f = c.fresh_variables in
    let k = c.intern_key in
    concludes _ _ _ _ _ _ _ _ _ _ _ _ c.in_ok-more.ensures f.auto.words k.new.work k.new.words k.result k.ensures

pub returns-in_err-more : goal.returns-in_err-more
returns-in_err-more c = rw c.from_residual.ensures (concludes_none _ _ _ _ _ _ _ _ c.in_err-more.ensures)
