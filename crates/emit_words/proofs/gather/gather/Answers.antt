-- `gather` meets its contract.
use borrow.Author.Rules.{rules}
use Prim.Native.Nat.{◌-◌}
use native.Mathlib.Omega.{arith}
use mathlib.Core.Path.{refl}
use Rattle.emit_words.specs.Gathering.{gathered_none, gathered_more, gathered_all}
use Rattle.emit_words.proofs.gather.gather.Goals as goal

pub loop-i-init : goal.loop-i-init
loop-i-init c =
    (omega arith, refl, gathered_none _ _ _ _ c.args.key.now c.args.numbers.now (1 - 1) (omega arith))

pub number_of-requires : goal.number_of-requires
number_of-requires c =
    let p = c.requires.0 in
    let g = c.loop-i.invariant in
    record { pack = p.pack; proof = p.proof; world = p.world; state = p.state; ready = p.ready; there = p.there _ (omega (arith, g.0)) (omega arith) }

pub loop-i-preserved : goal.loop-i-preserved
loop-i-preserved c =
    let g = c.loop-i.invariant in
    (omega arith, search rules, gathered_more _ _ _ _ c.args.key.now c.loop-i.i g.0 c.loop-i.numbers _ g.2 c.number_of.ensures (omega arith) (omega (arith, c.requires.1, g.1)))

pub returns : goal.returns
returns c =
    let g = c.loop-i.invariant in
    gathered_all _ _ _ _ c.args.key.now c.loop-i.numbers _ g.0 (omega arith) g.2
