-- `write_variables` meets its contract: with each turn the lines of one variable more are there.
use mathlib.Core.Path.{refl, ◌∙◌}
use native.Mathlib.Omega.{arith}
use Rattle.text_goals.specs.Lines.{lining_none, lining_lined, lining_many, lining_on, lining_all}
use Rattle.text_goals.proofs.values.write_variables.Goals as goal

pub row_variables-n-requires : goal.row_variables-n-requires
row_variables-n-requires c = omega (arith, c.requires.within)

pub loop-k-init : goal.loop-k-init
loop-k-init c = let a = c.args in (omega arith, refl, lining_none _ _ _ _ _ _ _ c.requires)

pub write_variable-end-requires : goal.write_variable-end-requires
write_variable-end-requires c =
    let a = c.args in
    let p = c.requires in
    let K = c.loop-k.invariant.2 in
    (lining_lined _ _ _ _ a.text.now _ a.at p _ _ _ _ K, omega (arith, c.loop-k-test.true, c.row_variables-n.ensures, p.count, lining_many _ _ _ _ a.text.now _ a.at p _ _ _ _ K))

pub loop-k-preserved : goal.loop-k-preserved
loop-k-preserved c =
    let K = c.loop-k.invariant in
    (omega (arith, c.loop-k-test.true), c.write_variable-end.auto.text ∙ K.1, lining_on _ _ _ _ _ _ _ c.requires _ _ _ _ K.2 _ _ _ c.write_variable-end.ensures)

pub returns : goal.returns
returns c =
    let p = c.requires in
    let K = c.loop-k.invariant in
    lining_all _ _ _ _ _ _ _ p _ _ _ _ K.2 (omega (arith, K.0, c.loop-k-test.false, c.row_variables-n.ensures, p.count))
