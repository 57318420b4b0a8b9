-- `put_case` meets its contract.
use native.Mathlib.Omega.{arith}
use lib.ListN.{length-set}
use Rattle.emit_case.specs.Laying.{case_go, next-below, case_more, begun_long, case_end}
use Rattle.emit_case.proofs.case.put_case.Goals as goal

pub bounds-cases-at-2 : goal.bounds-cases-at-2
bounds-cases-at-2 c = omega (arith, c.requires.1, length-set c.args.cases.now c.args.at c.args.last)

pub loop-i-init : goal.loop-i-init
loop-i-init c = case_go _ _ _ _ c.requires.0 (omega (arith, c.requires.1, begun_long c.args.cases.now c.args.at c.args.last c.args.n))

pub bounds-cases-from : goal.bounds-cases-from
bounds-cases-from c = next-below _ _ _ _ _ _ c.loop-i.invariant c.loop-i-test.true

pub loop-i-preserved : goal.loop-i-preserved
loop-i-preserved c = case_more _ _ _ _ _ _ c.loop-i.invariant c.loop-i-test.true

pub returns : goal.returns
returns c = case_end _ _ _ _ _ _ _ c.requires.1 c.loop-i.invariant c.loop-i-test.false
