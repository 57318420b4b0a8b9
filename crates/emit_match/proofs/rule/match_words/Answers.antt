-- `match_words` meets its contract: with each turn as much is to come as before.
use native.Mathlib.Numerals.{add-one}
use native.Mathlib.Omega.{arith}
use Rattle.emit_match.specs.Places.{stays_then}
use Rattle.emit_match.specs.Goings.{going_none, going_asked, going_early, going_more, going_done, going_fails}
use Rattle.emit_match.proofs.rule.match_words.Goals as goal

pub loop-next-init : goal.loop-next-init
loop-next-init c = going_none _ _ _ _ _ _ _ _ c.requires

pub match_turn-requires : goal.match_turn-requires
match_turn-requires c = going_asked _ _ _ _ _ _ _ _ c.requires _ _ _ c.loop-next.invariant

pub overflow_add-i : goal.overflow_add-i
overflow_add-i c = omega (arith, going_early _ _ _ _ _ _ _ _ c.requires _ _ _ c.loop-next.invariant c.match_turn.new.work _ (rw c.in-Next.is at c.match_turn.ensures.turn))

pub loop-next-smaller : goal.loop-next-smaller
loop-next-smaller c = omega (arith, going_early _ _ _ _ _ _ _ _ c.requires _ _ _ c.loop-next.invariant c.match_turn.new.work _ (rw c.in-Next.is at c.match_turn.ensures.turn))

pub loop-next-preserved : goal.loop-next-preserved
loop-next-preserved c = rw (add-one c.loop-next.i) (going_more _ _ _ _ _ _ _ _ c.requires _ _ _ c.loop-next.invariant c.match_turn.new.work _ c.match_turn.ensures.frame (rw c.in-Next.is at c.match_turn.ensures.turn))

pub returns-in-Done : goal.returns-in-Done
returns-in-Done c =
    let g = c.loop-next.invariant in
    record { matched = going_done _ _ _ _ _ _ _ _ c.requires _ _ _ g c.match_turn.new.work (rw c.in-Done.is at c.match_turn.ensures.turn); frame = stays_then _ _ _ _ g.0 c.match_turn.ensures.frame }

pub returns-in-Fails : goal.returns-in-Fails
returns-in-Fails c =
    let g = c.loop-next.invariant in
    record { matched = going_fails _ _ _ _ _ _ _ _ c.requires _ _ _ g c.match_turn.new.work (rw c.in-Fails.is at c.match_turn.ensures.turn); frame = stays_then _ _ _ _ g.0 c.match_turn.ensures.frame }
