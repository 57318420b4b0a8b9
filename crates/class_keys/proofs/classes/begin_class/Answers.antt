-- `begin_class` meets its contract.
use mathlib.Core.Path.{refl}
use Rattle.class_keys.specs.ClassWords.{begun}
use Rattle.class_keys.proofs.classes.begin_class.Goals as goal

pub returns : goal.returns
unfolding begun
returns c = refl
