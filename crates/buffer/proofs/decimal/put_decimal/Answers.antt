-- `put_decimal` meets its contract: with each turn the digits still to be written give the same text.
use mathlib.Core.Path.{refl, ◌∙◌}
use Prim.Native.Nat.{◌/◌}
use native.Mathlib.Omega.{arith}
use lib.ListN.{length-set}
use Rattle.definition.specs.Decimal.{decimal, decimal-first, length_more}
use Rattle.buffer.specs.Text.{write-fits, write_short, decimal-turn, decimal-end}
use Rattle.buffer.proofs.decimal.put_decimal.Goals as goal

pub returns-then-text-at : goal.returns-then-text-at
returns-then-text-at c = let a = c.args in write_short a.text.now a.at (decimal a.n) (omega arith)

pub returns-then-text-at-2 : goal.returns-then-text-at-2
returns-then-text-at-2 c = let a = c.args in write_short a.text.now a.at (decimal a.n) (omega arith)

pub overflow_sub-i : goal.overflow_sub-i
overflow_sub-i c = omega (arith, (decimal-first c.args.n).0)

pub loop-m-init : goal.loop-m-init
loop-m-init c = let f = (decimal-first c.args.n).0 in (omega arith, omega arith, refl, refl)

pub overflow_sub-i-in-loop-m : goal.overflow_sub-i-in-loop-m
overflow_sub-i-in-loop-m c = let m = c.loop-m.m in omega (arith, length_more m (omega arith), (decimal-first (m / 10)).0)

pub loop-m-preserved : goal.loop-m-preserved
loop-m-preserved c =
    let g = c.loop-m in
    let l = length_more g.m (omega arith) in
    let f = (decimal-first (g.m / 10)).0 in
    (omega arith, simp length-set (omega arith), simp length-set g.invariant.2, decimal-turn c.args.at g.m g.i g.text (omega arith) g.invariant.0 g.invariant.1 ∙ g.invariant.3)

pub returns : goal.returns
returns c =
    let a = c.args in
    let g = c.loop-m in
    let t = decimal-end a.at g.m g.i g.text (omega arith) g.invariant.0 g.invariant.1 ∙ g.invariant.3 in
    write-fits a.text.now a.at (decimal a.n) _ _ (omega arith) (omega arith) t
