-- `write_induct` meets its contract.
use native.Mathlib.Omega.{arith}
use Rattle.emission.specs.Line.{induct_line}
use Rattle.emit_lines.specs.Cases.{cases_in}
use Rattle.emit_words.specs.Readying.{readied_placed}
use Rattle.emit_words.specs.Numbering.{count-induct, placed_steps, placed_inductions}
use Rattle.emit_words.specs.Stating.{answers_short, answers_line}
use Rattle.emit_words.proofs.state.write_induct.Goals as goal

pub put_induct-end-requires : goal.put_induct-end-requires
put_induct-end-requires c =
    readied_placed _ _ _ _ _ _ c.requires _ c.in-Some.is c.name_words.ensures

pub overflow_add-t : goal.overflow_add-t
overflow_add-t c =
    record { fits = omega (arith, placed_inductions _ _ _ _ (readied_placed _ _ _ _ _ _ c.requires _ c.in-Some.is c.name_words.ensures)) }

pub numbered-requires : goal.numbered-requires
numbered-requires c =
    placed_steps _ _ _ _ (readied_placed _ _ _ _ _ _ c.requires _ c.in-Some.is c.name_words.ensures)

pub returns : goal.returns
returns c =
    record { answer = answers_line (λ said. induct_line said (cases_in c.args.cases.now)) _ _ _ _ _ _ _ _ _ c.requires _ c.in-Some.is c.name_words.ensures c.put_induct-end.new.proof c.put_induct-end.auto.proof _ c.put_induct-end.ensures _ (λ s. count-induct c.in-Some.t s (cases_in c.args.cases.now)) _ c.numbered.ensures.counts; line = c.numbered.ensures.line }

pub returns-in_default : goal.returns-in_default
returns-in_default c =
    record { answer = answers_short (λ said. induct_line said (cases_in c.args.cases.now)) _ _ _ _ _ _ c.in_default.is c.name_words.ensures; line = tt }
