-- `lay_filled` meets its contract.
use mathlib.Core.Path.{refl}
use Rattle.emit_induct.specs.Filling.{fill_go, fill_below, fill_next, fill_more, fill_end, fill_small}
use Rattle.emit_induct.proofs.candidates.lay_filled.Goals as goal

pub loop-i-init : goal.loop-i-init
loop-i-init c = fill_go _ _ _ c.args.key.now c.requires.0 c.requires.1

pub overflow_add-key : goal.overflow_add-key
overflow_add-key c = record { fits = fill_next _ _ _ _ _ c.loop-i.invariant c.loop-i-test.true }

pub bounds-key-i : goal.bounds-key-i
bounds-key-i c = fill_below _ _ _ _ _ c.loop-i.invariant c.loop-i-test.true

pub loop-i-preserved : goal.loop-i-preserved
loop-i-preserved c = fill_more _ _ _ _ _ c.loop-i.invariant c.loop-i-test.true _ c.fill.ensures

pub overflow_add-result : goal.overflow_add-result
overflow_add-result c = record { fits = fill_small _ _ _ _ _ c.loop-i.invariant }

pub returns : goal.returns
returns c = (refl, fill_end _ _ _ _ _ c.loop-i.invariant c.loop-i-test.false)
