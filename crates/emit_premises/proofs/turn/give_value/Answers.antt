-- `give_value` meets its contract.
use native.Mathlib.Omega.{arith}
use Prim.Native.Nat.{◌+◌, ◌-◌}
use lib.ListN.{get_or}
use Rattle.emit_premises.proofs.turn.give_value.Goals as goal

pub returns : goal.returns
returns c = (get_or c.args.work.now (c.args.at + c.args.k) 0 - 1, omega (arith, c.if-v-eq0.false), c.give.ensures.words, c.give.ensures.state)
