-- `meet_arguments` meets its contract: with each turn one argument more is met.
use native.Mathlib.Omega.{arith}
use Rattle.emit_open.specs.Meets.{meeting_given, meeting_meetable, meeting_more}
use Rattle.emit_open.proofs.open.meet_arguments.Goals as goal

pub argument-x-requires : goal.argument-x-requires
argument-x-requires c = let Q = c.requires in let G = meeting_given _ _ _ _ _ _ _ _ Q _ _ _ c.loop-j.invariant.1 in (G.stored, Q.pattern, omega (arith, Q.arity, c.loop-j-test.true))

pub meet-on-requires : goal.meet-on-requires
meet-on-requires c = meeting_meetable _ _ _ _ _ _ _ _ c.requires _ _ _ c.loop-j.invariant.1 c.loop-j-test.true _ c.argument-x.ensures

pub loop-j-preserved : goal.loop-j-preserved
loop-j-preserved c = (omega (arith, c.loop-j-test.true), meeting_more _ _ _ _ _ _ _ _ c.requires _ _ _ c.loop-j.invariant.1 c.loop-j-test.true _ c.argument-x.ensures _ _ c.meet-on.ensures)
