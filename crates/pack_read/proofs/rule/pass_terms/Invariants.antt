-- `pass_terms` meets its contract: ahead of each word as many terms are to come as `left` says.
use mathlib.Core.Path.{◌≡◌}
use Prim.Native.Nat.{◌-◌}
use Rattle.definition.specs.Pack.{Terms}
use Rattle.definition.specs.Certificate.{count}
use Rattle.pack_read.specs.Held.{OfHeld}
use Rattle.pack_read.specs.Clause.{Spelt, Passing}
use Rattle.pack_read.proofs.rule.pass_terms.Given as goal

abbrev pub invariant-loop-left : goal.invariant-loop-left
invariant-loop-left l = OfHeld l.pack l.work l.c (λ P. (ts : Terms) → Spelt P l.r l.vars l.from ts → count ts ≡ l.n → Passing P l.from ts l.i l.left)

abbrev pub decreases-loop-left : goal.decreases-loop-left
decreases-loop-left l = 256 - l.i
