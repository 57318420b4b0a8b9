-- `header_of` meets its contract: each test that fails makes the record bad, and they are all the tests there are.
use native.Mathlib.Omega.{arith}
use Rattle.pack_tables.specs.Header.{cut_bad, short_bad, low_bad, high_bad, falls_bad, whole_good}
use Rattle.pack_tables.proofs.header.header_of.Goals as goal

pub returns-then-tail-lt-SIZE : goal.returns-then-tail-lt-SIZE
returns-then-tail-lt-SIZE c = let a = c.args in cut_bad a.tail.now a.last (omega arith)

pub returns-then-tail-size : goal.returns-then-tail-size
returns-then-tail-size c = let a = c.args in short_bad a.tail.now a.last (omega arith) (omega arith)

pub returns-then-kind-lt-SORT : goal.returns-then-kind-lt-SORT
returns-then-kind-lt-SORT c = let a = c.args in low_bad a.tail.now a.last (omega arith)

pub returns-then-kind-gt-ABSTRACT : goal.returns-then-kind-gt-ABSTRACT
returns-then-kind-gt-ABSTRACT c = let a = c.args in high_bad a.tail.now a.last (omega arith)

pub returns-then-kind-last : goal.returns-then-kind-last
returns-then-kind-last c = let a = c.args in falls_bad a.tail.now a.last (omega arith)

pub returns : goal.returns
returns c =
    let a = c.args in
    let g = whole_good a.tail.now a.last (omega arith) (omega arith) (omega arith) (omega arith) in
    (rw (c.u16_at-kind.ensures.0, c.u32_at-size.ensures) g, omega arith, omega arith, omega arith)
