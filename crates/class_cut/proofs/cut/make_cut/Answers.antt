-- `make_cut` meets its contract: the conclusion is in the store, then the row is written.
use mathlib.Core.Path.{refl}
use native.Mathlib.Omega.{arith}
use Rattle.class_cut.specs.Making.{asks_symbol, asks_short, asked-readable, asked-symbol, asked_few, asked_short, asked_writing, asked-places, asked-rows, asked-done}
use Rattle.class_cut.proofs.cut.make_cut.Goals as goal

pub cut_conclusion-requires : goal.cut_conclusion-requires
cut_conclusion-requires c = let K = c.requires in rw c.lifting-lifted.ensures (K.asks.standing.lifts, asks_symbol _ _ _ _ _ _ _ _ _ _ _ _ _ _ _ _ K.asks)

pub symbol_arity-n-requires : goal.symbol_arity-n-requires
symbol_arity-n-requires c =
    let A = c.requires.asks in
    let f = c.cut_conclusion in
    let C = rw c.lifting-lifted.ensures at c.in-Some.ensures in
    (asked-readable _ _ _ _ _ _ _ _ _ _ _ _ _ _ _ _ A _ _ _ _ f.auto.words C, asked-symbol _ _ _ _ _ _ _ _ _ _ _ _ _ _ _ _ A _ _ _ _ f.auto.words C)

pub overflow_add-n : goal.overflow_add-n
overflow_add-n c =
    let f = c.cut_conclusion in
    let C = rw c.lifting-lifted.ensures at c.in-Some.ensures in
    omega (arith, asked_few _ _ _ _ _ _ _ _ _ _ _ _ _ _ _ _ c.requires.asks _ _ _ _ f.auto.words C c.symbol_arity-n.result c.symbol_arity-n.ensures)

pub returns-then-class-s : goal.returns-then-class-s
returns-then-class-s c =
    let f = c.cut_conclusion in
    let C = rw c.lifting-lifted.ensures at c.in-Some.ensures in
    λ cells r memo P b A. asked_short _ _ _ _ cells _ _ _ r _ memo _ _ _ P b A _ _ _ _ f.auto.words C c.symbol_arity-n.result c.symbol_arity-n.ensures (omega (arith, c.if-class-s.true))

pub write_cut-requires : goal.write_cut-requires
write_cut-requires c =
    let K = c.requires in
    let f = c.cut_conclusion in
    let C = rw c.lifting-lifted.ensures at c.in-Some.ensures in
    asked_writing _ _ _ _ _ _ _ _ _ _ _ _ _ _ _ _ K.asks _ _ _ _ f.auto.words C c.symbol_arity-n.result c.symbol_arity-n.ensures (omega (arith, c.if-class-s.false)) K.small

pub returns : goal.returns
returns c =
    let K = c.requires in
    let f = c.cut_conclusion in
    let C = rw c.lifting-lifted.ensures at c.in-Some.ensures in
    let n = c.symbol_arity-n in
    let left = c.if-class-s.false in
    let w = c.write_cut.ensures in
    rw c.go_on.ensures (
      refl,
      refl,
      (λ cells r memo P b A. asked-done _ _ _ _ cells _ _ _ r _ memo _ _ _ P b A _ _ _ _ f.auto.words C n.result n.ensures (omega (arith, left)) _ _ w),
      C.are,
      asked-places _ _ _ _ _ _ _ _ _ _ _ _ _ _ _ _ K.asks _ _ _ _ f.auto.words C n.result n.ensures (omega (arith, left)) _ _ w,
      asked-rows _ _ _ _ _ _ _ _ _ _ _ _ _ _ _ _ K.asks _ _ _ _ f.auto.words C n.result n.ensures (omega (arith, left)) _ _ w,
    )

pub returns-in_default : goal.returns-in_default
returns-in_default c = let C = rw c.lifting-lifted.ensures at c.in_default.ensures in λ cells r memo P b A L e f. asks_short _ _ _ _ cells _ _ _ r _ memo _ _ _ P b A _ C L e
