-- `parse_pack` meets its contract.
use mathlib.Core.Path.{refl, ap, ◌∙◌}
use Prim.Native.Nat.{ℕ}
use lib.ListN.{replicate}
use Rattle.host_read.specs.Read.{left_is}
use Rattle.host_read.proofs.parse_pack.Goals as goal

pub returns : goal.returns
returns c = left_is _ _ c.open_pack-outcome.new.work _ c.open_pack-outcome.result _ _ refl c.open_pack-outcome.ensures c.outcome_answer.ensures ((c.fill.ensures.after (λ y e. e)) ∙ ap (λ (n : ℕ). replicate n 0) c.open_pack-outcome.auto.work)
