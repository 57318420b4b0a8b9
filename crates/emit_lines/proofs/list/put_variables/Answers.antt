-- `put_variables` meets its contract: with each turn one variable more is there.
use mathlib.Core.Path.{ap}
use mathlib.Core.List.{List, map}
use Prim.Native.Nat.{ℕ}
use native.Mathlib.Omega.{arith}
use lib.ListN.{take}
use lib.Seq.{take_all}
use Rattle.emission.specs.Name.{name_with}
use Rattle.emission.specs.Text.{blanked}
use Rattle.emission.specs.Render.{variable_text}
use Rattle.text_write.specs.Written.{adds_none, adds_then, adds_as}
use Rattle.emit_lines.specs.Side.{blanked-next}
use Rattle.emit_lines.proofs.list.put_variables.Goals as goal

pub loop-k-init : goal.loop-k-init
unfolding blanked
loop-k-init c = adds_none _ _

pub loop-k-preserved : goal.loop-k-preserved
loop-k-preserved c =
    let g = c.loop-k in
    let a = c.args in
    let f = variable_text (name_with a.u) in
    let s = a.variables.now in
    adds_as _ _ _ _ _ _ (blanked-next f s g.k-index c.loop-k-test.true) (adds_then _ _ _ _ _ _ (blanked (map f (take g.k-index s))) _ g.invariant c.put_blanked_variable-end.ensures)

pub returns : goal.returns
returns c =
    let g = c.loop-k in
    let a = c.args in
    adds_as _ _ _ _ _ _ (ap (λ (l : List ℕ). blanked (map (variable_text (name_with a.u)) l)) (take_all g.k-index a.variables.now (omega (arith, c.loop-k-test.false)))) g.invariant
