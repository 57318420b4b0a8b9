-- `put_keyed` meets its contract.
use Prim.Native.Nat.{◌+◌}
use native.Mathlib.Omega.{arith}
use Rattle.base.specs.Outside.{outside_none}
use Rattle.emit_chains.specs.Chain.{put_on, put_off}
use Rattle.emit_chains.specs.Places.{firsts, links, length-firsts}
use Rattle.emit_chains.proofs.chain.put_keyed.Goals as goal

pub returns-then-chains-key : goal.returns-then-chains-key
returns-then-chains-key c =
    let a = c.args in
    let l = length-firsts a.work.now a.chains c.requires.0 in
    record { put = put_off (firsts a.work.now a.chains) (links a.work.now a.chains) a.key a.i (omega (arith, l, c.if-chains-key.true)); frame = outside_none a.chains.first (a.chains.next + a.chains.items) a.work.now }

pub returns : goal.returns
returns c =
    let a = c.args in
    let l = length-firsts a.work.now a.chains c.requires.0 in
    let u = c.put_first in
    record { put = put_on (firsts a.work.now a.chains) (links a.work.now a.chains) a.key a.i (firsts u.new.work a.chains) (links u.new.work a.chains) (omega (arith, l, c.if-chains-key.false)) u.ensures.first u.ensures.link; frame = u.ensures.frame }
