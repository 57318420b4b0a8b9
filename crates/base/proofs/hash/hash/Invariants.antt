-- `hash` meets its contract: with each turn the hash of what is left gives the same whole.
use Rattle.std.specs.Prelude.{◌≡◌, ◌<◌, drop, map}
use Rattle.base.specs.Hash.{hash_from}
use Rattle.base.proofs.hash.hash.Given as goal

abbrev pub invariant-loop-x : goal.invariant-loop-x
invariant-loop-x g l = (l.h < 4294967296) × (hash_from l.h (map g.T.Cell.number (drop l.x-index l.key)) ≡ hash_from 0 (map g.T.Cell.number l.key))
