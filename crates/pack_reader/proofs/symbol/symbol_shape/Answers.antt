-- `symbol_shape` meets its contract.
use native.Mathlib.Omega.{arith}
use Rattle.pack_reader.specs.Named.{rest_misnamed, rest_named}
use Rattle.pack_reader.specs.Symbol.{short_symbol, wide_symbol, cut-symbol, outless_symbol, inless_symbol, misnamed_symbol, formed_symbol}
use mathlib.Core.Bool.{not}
use Rattle.std.proofs.Common.{ap}
use Rattle.pack_reader.proofs.symbol.symbol_shape.Goals as goal

pub returns-then-body-lt6 : goal.returns-then-body-lt6
returns-then-body-lt6 c = let a = c.args in short_symbol a.body.now a.sorts c.if-body-lt6.true

pub returns-then-arity-gt-ARITY : goal.returns-then-arity-gt-ARITY
returns-then-arity-gt-ARITY c = let a = c.args in wide_symbol a.body.now a.sorts (omega (arith, c.if-body-lt6.false)) c.u16_at-arity.result c.u16_at-arity.ensures.0 c.if-arity-gt-ARITY.true

pub returns-then-body-name : goal.returns-then-body-name
returns-then-body-name c = let a = c.args in cut-symbol a.body.now a.sorts (omega (arith, c.if-body-lt6.false)) c.u16_at-arity.result c.u16_at-arity.ensures.0 (omega (arith, c.if-arity-gt-ARITY.false)) c.if-body-name.true

pub returns-then-not-is_output : goal.returns-then-not-is_output
returns-then-not-is_output c =
    let a = c.args in
    outless_symbol a.body.now a.sorts (omega (arith, c.if-body-lt6.false)) c.u16_at-arity.result c.u16_at-arity.ensures.0 (omega (arith, c.if-arity-gt-ARITY.false)) (omega (arith, c.if-body-name.false))
    c.is_output.result (rw c.u32_at-output.ensures at c.is_output.ensures) (ap not c.if-not-is_output.true)

pub returns-then-not-all_below : goal.returns-then-not-all_below
returns-then-not-all_below c =
    let a = c.args in
    inless_symbol a.body.now a.sorts (omega (arith, c.if-body-lt6.false)) c.u16_at-arity.result c.u16_at-arity.ensures.0 (omega (arith, c.if-arity-gt-ARITY.false)) (omega (arith, c.if-body-name.false))
    c.is_output.result (rw c.u32_at-output.ensures at c.is_output.ensures) (ap not c.if-not-is_output.false)
    c.all_below.result c.all_below.ensures (ap not c.if-not-all_below.true)

pub returns-then-not-is_name : goal.returns-then-not-is_name
returns-then-not-is_name c =
    let a = c.args in
    misnamed_symbol a.body.now a.sorts (omega (arith, c.if-body-lt6.false)) c.u16_at-arity.result c.u16_at-arity.ensures.0 (omega (arith, c.if-arity-gt-ARITY.false)) (omega (arith, c.if-body-name.false))
    c.is_output.result (rw c.u32_at-output.ensures at c.is_output.ensures) (ap not c.if-not-is_output.false)
    c.all_below.result c.all_below.ensures (ap not c.if-not-all_below.false)
    (rest_misnamed a.body.now _ c.is_name.result c.is_name.ensures (ap not c.if-not-is_name.true))

pub returns : goal.returns
returns c =
    let a = c.args in
    formed_symbol a.body.now a.sorts (omega (arith, c.if-body-lt6.false)) c.u16_at-arity.result c.u16_at-arity.ensures.0 (omega (arith, c.if-arity-gt-ARITY.false)) (omega (arith, c.if-body-name.false))
    c.is_output.result (rw c.u32_at-output.ensures at c.is_output.ensures) (ap not c.if-not-is_output.false)
    c.all_below.result c.all_below.ensures (ap not c.if-not-all_below.false)
    (rest_named a.body.now _ c.is_name.result c.is_name.ensures (ap not c.if-not-is_name.false))
