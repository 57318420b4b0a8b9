-- `put_case_at` meets its contract.
use Rattle.text_write.specs.Written.{adds_then, adds_as}
use Rattle.emit_lines.specs.Cased.{case_at}
use Rattle.emit_lines.proofs.case.put_case_at.Goals as goal

pub returns : goal.returns
returns c =
    let a = c.args in
    adds_then _ _ _ _ _ _ _ _ c.put_gap-blank.ensures (adds_as _ _ _ _ _ _ (case_at a.cases.now a.i _ c.requires c.case_end-to.ensures _ _ c.variables_start-from.ensures) c.put_case.ensures)
