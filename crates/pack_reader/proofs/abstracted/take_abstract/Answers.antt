-- `take_abstract` meets its contract.
use mathlib.Core.Path.{◌∙◌}
use native.Mathlib.Omega.{arith}
use Rattle.pack_reader.specs.Taking.{abstracts_unkeyed}
use Rattle.pack_reader.specs.Sound.{readable}
use Rattle.pack_reader.specs.Abstracted.{second-abstract, unlike-abstract, symbolless_abstract, predicate_abstract, outside_abstract, push-abstract, new-abstract}
use Rattle.pack_reader.proofs.abstracted.take_abstract.Goals as goal

pub count-requires : goal.count-requires
count-requires c = (c.requires.0.cataloged.fits, omega arith)

pub returns-then-count-ne0 : goal.returns-then-count-ne0
returns-then-count-ne0 c = second-abstract _ _ _ _ _ c.requires.0 c.requires.1 (λ e. c.if-count-ne0.true (c.count.ensures ∙ e))

pub returns-then-body-ne8 : goal.returns-then-body-ne8
returns-then-body-ne8 c = unlike-abstract _ _ _ _ _ c.requires.0 c.requires.1 (omega (arith, c.if-count-ne0.false, c.count.ensures)) c.if-body-ne8.true

pub count-requires-2 : goal.count-requires-2
count-requires-2 c = (c.requires.0.cataloged.fits, omega arith)

pub returns-then-count-constructor : goal.returns-then-count-constructor
returns-then-count-constructor c = symbolless_abstract _ _ _ _ _ c.requires.0 c.requires.1 (omega (arith, c.if-count-ne0.false, c.count.ensures)) c.if-body-ne8.false (omega (arith, c.if-count-constructor.true, c.count-2.ensures, c.u32_at-constructor.ensures))

pub symbol_output-requires : goal.symbol_output-requires
symbol_output-requires c = (readable _ _ _ c.requires.0.cataloged c.requires.2, omega (arith, c.if-count-constructor.false, c.count-2.ensures))

pub returns-then-symbol_output : goal.returns-then-symbol_output
returns-then-symbol_output c =
    predicate_abstract _ _ _ _ _ c.requires.0 c.requires.1 (omega (arith, c.if-count-ne0.false, c.count.ensures)) c.if-body-ne8.false (omega (arith, c.if-count-constructor.false, c.count-2.ensures, c.u32_at-constructor.ensures))
    c.symbol_output.result (rw c.u32_at-constructor.ensures at c.symbol_output.ensures) c.if-symbol_output.true

pub symbol_arity-requires : goal.symbol_arity-requires
symbol_arity-requires c = (readable _ _ _ c.requires.0.cataloged c.requires.2, omega (arith, c.if-count-constructor.false, c.count-2.ensures))

pub returns-then-symbol_arity-position : goal.returns-then-symbol_arity-position
returns-then-symbol_arity-position c =
    outside_abstract _ _ _ _ _ c.requires.0 c.requires.1 (omega (arith, c.if-count-ne0.false, c.count.ensures)) c.if-body-ne8.false (omega (arith, c.if-count-constructor.false, c.count-2.ensures, c.u32_at-constructor.ensures))
    c.symbol_output.result (rw c.u32_at-constructor.ensures at c.symbol_output.ensures) c.if-symbol_output.false
    c.symbol_arity.result (rw c.u32_at-constructor.ensures at c.symbol_arity.ensures) (omega (arith, c.if-symbol_arity-position.true, c.u32_at-position.ensures))

pub push-requires : goal.push-requires
push-requires c = (
  push-abstract _ _ _ _ _ c.requires.0 c.requires.1 (omega (arith, c.if-count-ne0.false, c.count.ensures)) c.if-body-ne8.false (omega (arith, c.if-count-constructor.false, c.count-2.ensures, c.u32_at-constructor.ensures))
      c.symbol_output.result (rw c.u32_at-constructor.ensures at c.symbol_output.ensures) c.if-symbol_output.false
      c.symbol_arity.result (rw c.u32_at-constructor.ensures at c.symbol_arity.ensures) (omega (arith, c.if-symbol_arity-position.false, c.u32_at-position.ensures)),
  abstracts_unkeyed,
)

pub returns : goal.returns
returns c =
    new-abstract _ _ _ _ _ c.requires.0 c.requires.1 (omega (arith, c.if-count-ne0.false, c.count.ensures)) c.if-body-ne8.false (omega (arith, c.if-count-constructor.false, c.count-2.ensures, c.u32_at-constructor.ensures))
    c.symbol_output.result (rw c.u32_at-constructor.ensures at c.symbol_output.ensures) c.if-symbol_output.false
    c.symbol_arity.result (rw c.u32_at-constructor.ensures at c.symbol_arity.ensures) (omega (arith, c.if-symbol_arity-position.false, c.u32_at-position.ensures)) _ c.push.ensures
