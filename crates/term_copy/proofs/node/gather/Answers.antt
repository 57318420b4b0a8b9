-- `gather` meets its contract.
use Prim.Native.Nat.{◌<◌}
use Rattle.term_copy.specs.Writes.{gather_more, argument_below}
use Rattle.term_copy.specs.Places.{copy_in}
use lib.ListN.{length, length-set}
use native.Mathlib.Omega.{arith}
use mathlib.Core.Path.{◌∙◌}
use Rattle.term_copy.proofs.node.gather.Goals as goal

pub copy_of-requires : goal.copy_of-requires
copy_of-requires c =
    let p = c.requires in
    (p.0, p.1, argument_below _ c.args.key.now c.loop-i.i p.2.known (omega (arith, c.loop-i-test.true, c.loop-i.invariant.0, p.3)))

pub loop-i-preserved : goal.loop-i-preserved
loop-i-preserved c =
    let g = c.loop-i in
    let h : g.i < length g.args = omega (arith, c.loop-i-test.true, g.invariant.0) in
    let k = length-set g.args g.i c.copy_of.result.0 in
    (k ∙ g.invariant.0, omega (arith, k, h), gather_more (copy_in c.args.work.now c.args.l c.args.memo) c.args.key.now g.args g.i c.copy_of.result.0 (omega (arith, h, g.invariant.0, c.requires.3)) h c.copy_of.ensures g.invariant.2)
