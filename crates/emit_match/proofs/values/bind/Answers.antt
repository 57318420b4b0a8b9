-- `bind` meets its contract: no value yet, or the one that it has.
use Prim.Native.Nat.{◌+◌}
use native.Mathlib.Omega.{arith}
use Rattle.base.specs.Outside.{outside_none, outside_set}
use Rattle.emit_match.specs.Values.{bind-first, bind_again}
use Rattle.emit_match.proofs.values.bind.Goals as goal

pub returns-then-v-eq0 : goal.returns-then-v-eq0
returns-then-v-eq0 c =
    let a = c.args in
    record { value = bind-first a.work.now a.at a.k a.p c.requires.1 c.requires.0 c.if-v-eq0.true; frame = outside_set a.at (a.at + 64) a.work.now (a.at + a.k) (a.p + 1) (omega arith) (omega (arith, c.requires.1)) }

pub returns : goal.returns
returns c =
    let a = c.args in
    record { value = bind_again a.work.now a.at a.k a.p c.requires.1 c.if-v-eq0.false; frame = outside_none a.at (a.at + 64) a.work.now }
