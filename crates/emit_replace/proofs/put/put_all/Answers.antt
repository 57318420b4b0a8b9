-- `put_all` meets its contract.
use mathlib.Core.Path.{refl, ap}
use Prim.Native.Nat.{ℕ}
use Rattle.base.specs.declared.stack.Stack.{Stack}
use Rattle.emit_replace.specs.PutRuns.{puts_none, puts_asked, puts_more, puts_all, puts_all_short}
use Rattle.emit_replace.proofs.put.put_all.Goals as goal

-- an empty stack there
abbrev on : ℕ → Stack
on a = record { at = a; len = 0 }

pub loop-more-init : goal.loop-more-init
loop-more-init c = puts_none _ _ _ _ _ _ _

pub put_turn-requires : goal.put_turn-requires
put_turn-requires c = puts_asked _ _ _ _ _ _ _ _ _ _ _ _ c.loop-more.invariant (ap on c.walk.ensures) c.requires

pub loop-more-smaller : goal.loop-more-smaller
loop-more-smaller c = (rw c.in-On.is at c.in_ok-more.ensures).less

pub loop-more-preserved : goal.loop-more-preserved
loop-more-preserved c = puts_more _ _ _ _ _ _ _ _ _ _ _ _ c.loop-more.invariant _ _ _ _ _ (rw c.in-On.is at c.in_ok-more.ensures) c.put_turn.auto.words

pub returns : goal.returns
returns c = puts_all _ _ _ _ _ _ _ _ _ _ _ _ c.loop-more.invariant _ _ _ _ _ refl (ap on c.walk.ensures) (rw c.in-Done.is at c.in_ok-more.ensures)

pub returns-in_err-more : goal.returns-in_err-more
returns-in_err-more c = rw c.from_residual.ensures (puts_all_short _ _ _ _ _ _ _ _ _ _ _ _ c.loop-more.invariant _ _ (ap on c.walk.ensures) c.in_err-more.ensures)
