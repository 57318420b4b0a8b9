-- `write_hyp` meets its contract.
use Rattle.emission.specs.Line.{hyp_line}
use Rattle.emit_words.specs.Readying.{readied_placed}
use Rattle.emit_words.specs.Numbering.{count_hyp, placed_steps}
use Rattle.emit_words.specs.Stating.{answers_short, answers_line}
use Rattle.emit_words.proofs.state.write_hyp.Goals as goal

pub put_hyp-end-requires : goal.put_hyp-end-requires
put_hyp-end-requires c =
    readied_placed _ _ _ _ _ _ c.requires _ c.in-Some.is c.name_words.ensures

pub numbered-requires : goal.numbered-requires
numbered-requires c =
    placed_steps _ _ _ _ (readied_placed _ _ _ _ _ _ c.requires _ c.in-Some.is c.name_words.ensures)

pub returns : goal.returns
returns c =
    record { answer = answers_line (λ said. hyp_line said) _ _ _ _ _ _ _ _ _ c.requires _ c.in-Some.is c.name_words.ensures c.put_hyp-end.new.proof c.put_hyp-end.auto.proof _ c.put_hyp-end.ensures _ (λ s. count_hyp c.in-Some.t s) _ c.numbered.ensures.counts; line = c.numbered.ensures.line }

pub returns-in_default : goal.returns-in_default
returns-in_default c =
    record { answer = answers_short (λ said. hyp_line said) _ _ _ _ _ _ c.in_default.is c.name_words.ensures; line = tt }
