-- `name_and_put` meets its contract.
use Rattle.emission.specs.Line.{step_line_of}
use Rattle.emission.specs.Words.{step}
use Rattle.emit_words.specs.Readying.{readied_placed}
use Rattle.emit_words.specs.Numbering.{count-step, placed_steps}
use Rattle.emit_words.specs.Stating.{answers_short, answers_line}
use Rattle.emit_words.proofs.state.name_and_put.Goals as goal

pub put_step-end-requires : goal.put_step-end-requires
put_step-end-requires c =
    readied_placed _ _ _ _ _ _ c.requires _ c.in-Some.is c.name_words.ensures

pub numbered-requires : goal.numbered-requires
numbered-requires c =
    placed_steps _ _ _ _ (readied_placed _ _ _ _ _ _ c.requires _ c.in-Some.is c.name_words.ensures)

pub returns : goal.returns
unfolding step
returns c =
    record { answer = answers_line (λ said. step_line_of c.args.rule c.args.refs.now said) _ _ _ _ _ _ _ _ _ c.requires _ c.in-Some.is c.name_words.ensures c.put_step-end.new.proof c.put_step-end.auto.proof _ c.put_step-end.ensures _ (λ s. count-step c.in-Some.t s c.args.rule c.args.refs.now) _ c.numbered.ensures.counts; line = c.numbered.ensures.line }

pub returns-in_default : goal.returns-in_default
unfolding step
returns-in_default c =
    record { answer = answers_short (λ said. step_line_of c.args.rule c.args.refs.now said) _ _ _ _ _ _ c.in_default.is c.name_words.ensures; line = tt }
