-- `root` meets its contract.
use Rattle.term_values.specs.Stores.{finds_root}
use Rattle.term_values.proofs.values.root.Goals as goal

pub returns : goal.returns
returns c = finds_root _ _ _ c.requires.0 _ _ _ _ c.find.ensures
