-- `seek` meets its contract.
use mathlib.Core.Path.{sym, ap, ◌∙◌}
use Rattle.host_search.specs.Ends.{sought_of, refused_as}
use Rattle.definition.specs.Answer.{answer}
use Rattle.host_search.proofs.answer.seek.Goals as goal

pub returns-in-Line : goal.returns-in-Line
returns-in-Line c = sym (ap sought_of c.in-Line.is)

pub returns-in-Fails : goal.returns-in-Fails
returns-in-Fails c = sym (ap sought_of c.in-Fails.is)

pub returns-in-Refused : goal.returns-in-Refused
unfolding answer
returns-in-Refused c = refused_as _ _ c.outcome_answer.ensures ∙ sym (ap sought_of c.in-Refused.is)
