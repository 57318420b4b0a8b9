-- `append` meets its contract.
use mathlib.Core.Path.{refl}
use native.Mathlib.Omega.{arith}
use lib.ListN.{length-set}
use Rattle.pack_tables.specs.Region.{appended}
use Rattle.pack_tables.proofs.region.append.Goals as goal

pub bounds-region-n-2 : goal.bounds-region-n-2
bounds-region-n-2 c = simp length-set (omega (arith, c.requires.long, c.requires.room))

pub bounds-region-0-2 : goal.bounds-region-0-2
bounds-region-0-2 c = simp length-set (omega (arith, c.requires.long, c.requires.room))

pub returns : goal.returns
unfolding appended
returns c = refl
