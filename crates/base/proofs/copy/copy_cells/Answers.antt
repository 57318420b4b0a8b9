-- `copy_cells` meets its contract: with each turn one cell more is the same.
use mathlib.Core.Path.{refl, sym, ◌∙◌}
use native.Mathlib.Omega.{arith}
use lib.ListN.{length-set}
use lib.Seq.{take_all}
use Rattle.base.specs.Part.{copied-turn}
use Rattle.base.proofs.copy.copy_cells.Goals as goal

pub loop-i-init : goal.loop-i-init
loop-i-init g c = (sym c.requires, refl)

pub loop-i-preserved : goal.loop-i-preserved
loop-i-preserved g c =
    let l = c.loop-i in
    let x = c.index-from-i in
    (length-set l.to l.i _ ∙ l.invariant.0, copied-turn l.i c.args.from.now l.to x.result c.loop-i-test.true (omega (arith, c.loop-i-test.true, l.invariant.0)) x.is l.invariant.1)

pub returns : goal.returns
returns g c =
    let l = c.loop-i in
    sym (take_all l.i l.to (omega (arith, l.invariant.0))) ∙ l.invariant.1 ∙ take_all l.i c.args.from.now (omega arith)
