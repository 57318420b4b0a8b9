-- `known` meets its contract.
use mathlib.Core.Path.{ap}
use native.Mathlib.Omega.{arith}
use Rattle.emit_maps.specs.declared.maps.Maps.{Maps}
use Rattle.emit_search.specs.Known.{recalls_proved, recalls_supposed}
use Rattle.emit_search.proofs.known.known.Goals as goal

pub look-requires : goal.look-requires
look-requires c =
    let m = c.maps-maps.ensures in
    (rw m c.requires.0, omega arith, omega (arith, c.requires.1, ap (λ (h : Maps). h.room) m))

pub look-requires-in-None : goal.look-requires-in-None
look-requires-in-None c =
    let m = c.maps-maps.ensures in
    (rw m c.requires.0, omega arith, omega (arith, c.requires.1, ap (λ (h : Maps). h.room) m))

pub returns-in-Some : goal.returns-in-Some
returns-in-Some c = recalls_proved _ _ _ _ (rw (c.maps-maps.ensures, c.in-Some.is) at c.look.ensures)

pub returns-in-None : goal.returns-in-None
returns-in-None c =
    let m = c.maps-maps.ensures in
    recalls_supposed _ _ _ _ (rw (m, c.in-None.is) at c.look.ensures) (rw m at c.look-in-None.ensures)
