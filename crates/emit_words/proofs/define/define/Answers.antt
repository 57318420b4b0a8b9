-- `define` meets its contract.
use mathlib.Core.Path.{refl}
use native.Mathlib.Omega.{arith}
use Rattle.emit_state.specs.Writes.{maps_laid}
use Rattle.emit_words.specs.Defining.{definable_placed, definable_low, definable_few, defined_short, defined_longer, defined_in}
use Rattle.emit_words.proofs.define.define.Goals as goal

pub put_definition-end-requires : goal.put_definition-end-requires
put_definition-end-requires c =
    definable_placed _ _ _ _ _ _ _ c.requires

pub returns-then-proof-end : goal.returns-then-proof-end
returns-then-proof-end c =
    λ w e D. defined_short _ _ _ _ _ _ _ w e D c.put_definition-end.new.proof c.put_definition-end.auto.proof _ c.put_definition-end.ensures (omega arith)

pub enter-trail-requires : goal.enter-trail-requires
enter-trail-requires c =
    let D = c.requires.defining in
    let H = D.ready.holding in
    rw c.maps.ensures (maps_laid _ _ H.laid, omega arith, definable_low _ _ _ _ _ _ _ _ _ D, omega (arith, definable_few _ _ _ _ _ _ _ _ _ D), H.counted)

pub overflow_add-result : goal.overflow_add-result
overflow_add-result c =
    record { fits = omega (arith, definable_few _ _ _ _ _ _ _ _ _ c.requires.defining) }

pub returns : goal.returns
returns c =
    let D = c.requires.defining in
    let long = c.put_definition-end.auto.proof in
    let E = rw c.maps.ensures at c.enter-trail.ensures in
    (record { longer = defined_longer _ _ _ _ _ _ _ _ _ D c.put_definition-end.new.proof long _ c.put_definition-end.ensures (omega (arith, c.if-proof-end.false, long)); ends = omega (arith, c.if-proof-end.false, long); long = long; store = refl; outside = E.outside }, λ w e K. defined_in _ _ _ _ _ _ _ w e K c.put_definition-end.new.proof long _ c.put_definition-end.ensures (omega (arith, c.if-proof-end.false, long)) c.enter-trail.new.work _ E)
