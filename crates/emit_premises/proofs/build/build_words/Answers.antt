-- `build_words` meets its contract.
use Rattle.emit_premises.specs.Goings.{going_none, going_asked, going_less, going_more, going_full, going_lacks, going_short}
use Rattle.emit_premises.proofs.build.build_words.Goals as goal

pub loop-next-init : goal.loop-next-init
loop-next-init c = going_none _ _ _ _ _ _ _ _ c.requires

pub build_turn-requires : goal.build_turn-requires
build_turn-requires c = going_asked _ _ _ _ _ _ _ _ c.requires _ _ _ _ c.loop-next.invariant

pub loop-next-smaller : goal.loop-next-smaller
loop-next-smaller c = going_less _ _ _ _ _ _ _ _ c.requires _ _ _ _ c.loop-next.invariant c.build_turn.new.work c.build_turn.new.words c.build_turn.new.stack _ (rw c.in-Next.is at c.in_ok-next.ensures.turn) (rw c.in-Next.is at c.in_ok-next.ensures.frame)

pub loop-next-preserved : goal.loop-next-preserved
loop-next-preserved c = going_more _ _ _ _ _ _ _ _ c.requires _ _ _ _ c.loop-next.invariant c.build_turn.new.work c.build_turn.new.words c.build_turn.new.stack _ c.build_turn.auto.words c.build_turn.auto.stack (rw c.in-Next.is at c.in_ok-next.ensures.turn) (rw c.in-Next.is at c.in_ok-next.ensures.frame)

pub returns-in-Full : goal.returns-in-Full
returns-in-Full c = let r = going_full _ _ _ _ _ _ _ _ c.requires _ _ _ _ c.loop-next.invariant c.build_turn.new.work c.build_turn.new.words c.build_turn.new.stack (rw c.in-Full.is at c.in_ok-next.ensures.turn) (rw c.in-Full.is at c.in_ok-next.ensures.frame) in record { built = r.0; frame = r.1 }

pub returns-in-Lacks : goal.returns-in-Lacks
returns-in-Lacks c = let r = going_lacks _ _ _ _ _ _ _ _ c.requires _ _ _ _ c.loop-next.invariant c.build_turn.new.work c.build_turn.new.words c.build_turn.new.stack (rw c.in-Lacks.is at c.in_ok-next.ensures.turn) (rw c.in-Lacks.is at c.in_ok-next.ensures.frame) in record { built = r.0; frame = r.1 }

pub returns-in_err-next : goal.returns-in_err-next
returns-in_err-next c =
    let r = going_short _ _ _ _ _ _ _ _ c.requires _ _ _ _ c.loop-next.invariant c.build_turn.new.work c.build_turn.new.words c.build_turn.new.stack c.in_err-next.ensures.turn c.in_err-next.ensures.frame in
    rw c.from_residual.ensures (record { built = r.0; frame = r.1 })
