-- `instantiate` meets its contract: with each word the terms from there on stand in the graph.
use mathlib.Core.Path.{refl}
use native.Mathlib.Omega.{arith}
use Rattle.term_instantiate.specs.Going.{going_first, going_taking, going_on, going_full, going_top, going_done}
use Rattle.term_instantiate.proofs.terms.instantiate.Goals as goal

pub loop-i-init : goal.loop-i-init
loop-i-init c = going_first _ _ _ _ _ _ _ _ _ c.requires _ refl

pub take_word-requires : goal.take_word-requires
take_word-requires c = going_taking _ _ _ _ _ _ _ _ _ c.requires _ _ _ _ _ _ c.loop-i.invariant c.loop-i-test.true

pub loop-i-preserved : goal.loop-i-preserved
loop-i-preserved c =
    let k = c.take_word.auto in
    going_on _ _ _ _ _ _ _ _ _ c.requires _ _ _ _ _ _ c.loop-i.invariant c.loop-i-test.true _ _ _ k.stack k.cells _ _ c.in_ok-top.ensures

pub returns-in_err-top : goal.returns-in_err-top
returns-in_err-top c =
    let k = c.take_word.auto in
    let z = c.take_word.new in
    rw c.from_residual.ensures (going_full _ _ _ _ _ _ _ _ _ c.requires _ _ _ _ _ _ c.loop-i.invariant c.loop-i-test.true z.work z.cells z.stack k.stack k.cells c.in_err-top.ensures)

pub offset_bounds-stack-top : goal.offset_bounds-stack-top
offset_bounds-stack-top c = omega (arith, going_top _ _ _ _ _ _ _ _ _ c.requires _ _ _ _ _ _ c.loop-i.invariant c.loop-i-test.false)

pub bounds-stack-top : goal.bounds-stack-top
bounds-stack-top c = omega (arith, going_top _ _ _ _ _ _ _ _ _ c.requires _ _ _ _ _ _ c.loop-i.invariant c.loop-i-test.false, c.loop-i.invariant.long)

pub returns : goal.returns
returns c = going_done _ _ _ _ _ _ _ _ _ c.requires _ _ _ _ _ _ c.loop-i.invariant c.loop-i-test.false _ refl
