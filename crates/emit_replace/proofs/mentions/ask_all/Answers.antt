-- `ask_all` meets its contract.
use mathlib.Core.Path.{ap}
use Prim.Native.Nat.{ℕ}
use Rattle.base.specs.declared.stack.Stack.{Stack}
use Rattle.emit_replace.specs.AskTurns.{since_none, since_asked, since_more, since_done}
use Rattle.emit_replace.proofs.mentions.ask_all.Goals as goal

-- an empty stack there
abbrev on : ℕ → Stack
on a = record { at = a; len = 0 }

pub loop-next-init : goal.loop-next-init
loop-next-init c = since_none _ _ _ _ _ _ _

pub ask_turn-requires : goal.ask_turn-requires
ask_turn-requires c = since_asked _ _ _ _ _ _ _ _ _ _ c.loop-next.invariant (ap on c.walk.ensures) c.requires

pub loop-next-smaller : goal.loop-next-smaller
loop-next-smaller c = c.ask_turn.ensures.less

pub loop-next-preserved : goal.loop-next-preserved
loop-next-preserved c = since_more _ _ _ _ _ _ _ _ _ _ c.loop-next.invariant _ _ _ c.in-On.ensures

pub returns : goal.returns
returns c = since_done _ _ _ _ _ _ _ _ _ _ c.loop-next.invariant _ _ (ap on c.walk.ensures) c.in-Done.ensures
