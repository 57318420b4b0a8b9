-- `enter_hyp` meets its contract.
use mathlib.Core.Path.{sym, subst}
use Prim.Native.Nat.{ℕ, ◌+◌}
use lib.ListN.{set}
use Rattle.emit_maps.specs.Holds.{Supposes}
use Rattle.emit_maps.specs.Dropping.{supposed}
use Rattle.emit_maps.proofs.hyps.enter_hyp.Goals as goal

pub returns : goal.returns
returns c =
    let a = c.args in
    subst (λ (i : ℕ). Supposes a.work.now (set a.work.now i (a.n + 1)) a.m a.p a.n) (sym c.place-at.ensures)
    (supposed a.work.now a.m c.requires.0 a.p a.n c.requires.1)
