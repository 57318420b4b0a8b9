-- `finish` meets its contract.
use Rattle.host_search.specs.Ends.{told_text}
use Rattle.host_search.proofs.answer.finish.Goals as goal

pub returns : goal.returns
returns c = told_text _ c.args.text _ _ c.requires c.fill_from.ensures
