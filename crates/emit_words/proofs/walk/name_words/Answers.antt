-- `name_words` meets its contract: with each turn there is as much to do as at first.
use Rattle.std.proofs.Common.{◌∙◌, ap, Some}
use mathlib.Core.Path.{refl}
use Rattle.emit_state.specs.Places.{small_places}
use Rattle.emit_words.specs.Readying.{reached_none, reached_walking, reached_more, reached_done, reached_short}
use Rattle.emit_words.proofs.walk.name_words.Goals as goal

pub walk-requires : goal.walk-requires
walk-requires c =
    small_places _ _ c.requires.ready.holding.laid

pub loop-next-init : goal.loop-next-init
loop-next-init c =
    reached_none _ _ _ _ _ c.walk.ensures refl

pub take_turn-requires : goal.take_turn-requires
take_turn-requires c =
    reached_walking _ _ _ _ _ _ _ c.requires c.loop-next.invariant

pub loop-next-smaller : goal.loop-next-smaller
loop-next-smaller c =
    let N = rw c.in-Next.is at c.in_ok-next.ensures in
    N.0.less

pub loop-next-preserved : goal.loop-next-preserved
loop-next-preserved c =
    let g = c.loop-next.invariant in
    reached_more _ _ _ _ _ _ _ c.requires g _ _ c.take_turn.ensures _ _ (c.in_ok-next.was ∙ ap Some c.in-Next.is)

pub returns-in-Done : goal.returns-in-Done
returns-in-Done c =
    reached_done _ _ _ _ _ _ _ c.requires c.loop-next.invariant _ _ c.take_turn.ensures (c.in_ok-next.was ∙ ap Some c.in-Done.is)

pub returns-in_err-next : goal.returns-in_err-next
returns-in_err-next c =
    rw c.from_residual.ensures (reached_short _ _ _ _ _ _ _ c.requires c.loop-next.invariant _ _ c.take_turn.ensures c.in_err-next.was)
