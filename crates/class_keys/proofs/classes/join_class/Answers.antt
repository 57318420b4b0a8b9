-- `join_class` meets its contract.
use mathlib.Core.Path.{refl}
use Rattle.class_keys.specs.ClassWords.{joined}
use Rattle.class_keys.proofs.classes.join_class.Goals as goal

pub returns : goal.returns
unfolding joined
returns c = refl
