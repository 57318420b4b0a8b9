-- `put_numbers` meets its contract: with each turn one number more is there.
use mathlib.Core.Path.{ap}
use mathlib.Core.List.{List, map}
use Prim.Native.Nat.{ℕ}
use native.Mathlib.Omega.{arith}
use lib.ListN.{take}
use lib.Seq.{take_all}
use Rattle.definition.specs.Decimal.{decimal}
use Rattle.emission.specs.Text.{joined}
use Rattle.text_write.specs.Written.{adds_none, adds_then, adds_as}
use Rattle.emit_lines.specs.Side.{joined-next}
use Rattle.emit_lines.proofs.list.put_numbers.Goals as goal

pub loop-i-init : goal.loop-i-init
unfolding joined
loop-i-init c = adds_none _ _

pub loop-i-preserved : goal.loop-i-preserved
loop-i-preserved c =
    let g = c.loop-i in
    let s = c.args.numbers.now in
    adds_as _ _ _ _ _ _ (joined-next decimal s g.i c.loop-i-test.true) (adds_then _ _ _ _ _ _ (joined (map decimal (take g.i s))) _ g.invariant c.put_listed-end.ensures)

pub returns : goal.returns
returns c = let g = c.loop-i in adds_as _ _ _ _ _ _ (ap (λ (l : List ℕ). joined (map decimal l)) (take_all g.i c.args.numbers.now (omega (arith, c.loop-i-test.false)))) g.invariant
