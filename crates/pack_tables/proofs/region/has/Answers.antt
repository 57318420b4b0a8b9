-- `has` meets its contract.
use mathlib.Core.Path.{ap, ◌∙◌}
use mathlib.Core.List.{List}
use Prim.Native.Nat.{ℕ}
use Rattle.base.specs.Same.{same_is}
use Rattle.definition.specs.Test.{same}
use Rattle.pack_tables.proofs.region.has.Goals as goal

pub returns : goal.returns
returns c = (c.eq.ensures ∙ same_is _ _) ∙ ap (λ (l : List ℕ). same l c.args.key.now) c.key_of-own.ensures
