-- `tell_joined` meets its contract.
use native.Mathlib.Omega.{arith}
use Rattle.host_unify.specs.Tells.{joins, joins_only}
use Rattle.host_unify.proofs.tell_joined.Goals as goal

pub returns-then-stage-lt2 : goal.returns-then-stage-lt2
returns-then-stage-lt2 c = joins_only _ _ c.args.roots.now _ _ _ (omega arith) c.requires.1.zeros

pub write_roots-requires : goal.write_roots-requires
write_roots-requires c = let H = c.requires.0 in ((H.0, (c.circular-circle.ensures.0 H.0 H.1 H.2).1), c.requires.1)

pub shape_of-work : goal.shape_of-work
shape_of-work c = search

pub shape_of-roots : goal.shape_of-roots
shape_of-roots c = search

pub returns : goal.returns
returns c = joins _ _ _ _ _ _ _ _ _ _ (omega arith) c.circular-circle.ensures.0 c.bit_of.ensures c.write_roots.ensures
