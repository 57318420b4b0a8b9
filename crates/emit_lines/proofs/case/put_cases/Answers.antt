-- `put_cases` meets its contract: with each turn one case more is there.
use borrow.Author.Rules.{rules}
use mathlib.Core.Path.{refl}
use native.Mathlib.Omega.{arith}
use Rattle.emit_lines.specs.Cased.{cased_none, cased_on, cased_all}
use Rattle.emit_lines.proofs.case.put_cases.Goals as goal

pub loop-i-init : goal.loop-i-init
loop-i-init c = (omega arith, refl, cased_none _ _ _ _)

pub loop-i-preserved : goal.loop-i-preserved
loop-i-preserved c =
    let g = c.loop-i in
    (c.case_end-i.ensures.within, search rules, cased_on _ _ _ _ _ _ _ g.invariant.2 _ _ _ c.loop-i-test.true c.case_end-i.ensures c.put_case_at-end.ensures)

pub returns : goal.returns
returns c = let g = c.loop-i in cased_all _ _ _ _ _ _ _ g.invariant.2 (omega (arith, c.loop-i-test.false))
