-- `put_name` meets its contract: with each turn one underscore more is there.
use mathlib.Core.Path.{◌≡◌, ap}
use Prim.Native.Nat.{ℕ}
use native.Mathlib.Omega.{arith}
use lib.ListN.{replicate}
use Rattle.emission.specs.Name.{name_with}
use Rattle.text_write.specs.Written.{adds_none, adds_then, adds_as}
use Rattle.emit_lines.specs.Side.{underscore_next}
use Rattle.emit_lines.proofs.variable.put_name.Goals as goal

pub loop-i-init : goal.loop-i-init
loop-i-init c = adds_none _ _

pub loop-i-preserved : goal.loop-i-preserved
loop-i-preserved c = let g = c.loop-i in adds_as _ _ _ _ _ _ (underscore_next g._i) (adds_then _ _ _ _ _ _ (replicate g._i 95) _ g.invariant c.put_byte-end-in-loop-i.ensures.byte)

pub returns : goal.returns
unfolding name_with
returns c =
    let g = c.loop-i in
    let u = c.args.u in
    let e : g._i ≡ u = omega (arith, c.loop-i-test.false) in
    adds_then _ _ _ _ _ _ _ (replicate u 95) c.put_byte-end.ensures.byte (adds_as _ _ _ _ (replicate g._i 95) (replicate u 95) (ap (λ (n : ℕ). replicate n 95) e) g.invariant)
