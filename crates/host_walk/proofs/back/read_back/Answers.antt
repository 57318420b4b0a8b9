-- `read_back` meets its contract.
use native.Mathlib.Omega.{arith}
use Rattle.host_walk.specs.Back.{lying_few, back_ready, back_short, back_read}
use Rattle.host_walk.proofs.back.read_back.Goals as goal

pub no_values-requires : goal.no_values-requires
no_values-requires c = let L = c.requires.0.lying in (L.room, L.fits, lying_few _ _ _ _ _ _ _ _ _ _ _ L)

pub clear-requires : goal.clear-requires
clear-requires c = let L = c.requires.0.lying in (L.room, omega (arith, L.fits, c.no_values.ensures.long), lying_few _ _ _ _ _ _ _ _ _ _ _ L)

pub resolve-requires : goal.resolve-requires
resolve-requires c = (back_ready _ _ _ _ _ _ _ _ _ _ c.no_values.ensures _ c.clear.ensures c.requires.0, c.requires.1)

pub returns : goal.returns
returns c = let A = c.in-Some.ensures in back_read _ _ _ _ _ _ _ _ _ _ c.no_values.ensures _ c.clear.ensures _ c.resolve.new.work _ c.resolve.auto.words _ _ _ A

pub returns-in_default : goal.returns-in_default
returns-in_default c = let A = c.in_default.ensures in back_short _ _ _ _ _ _ _ _ _ _ c.no_values.ensures _ c.clear.ensures _ c.resolve.new.work c.resolve.new.words c.resolve.auto.words A
