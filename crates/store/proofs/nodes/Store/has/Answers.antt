-- `Store::has` meets its contract.
use mathlib.Core.Path.{ap, ◌∙◌}
use mathlib.Core.List.{List}
use Prim.Native.Nat.{ℕ}
use Rattle.definition.specs.Test.{same}
use Rattle.store.proofs.nodes.Store.has.Goals as goal

pub returns : goal.returns
returns c = c.same_words.ensures ∙ ap (λ (l : List ℕ). same l c.args.key.now) c.key_at.ensures
