-- `search` meets its contract.
use mathlib.Core.Path.{refl}
use native.Mathlib.Omega.{arith}
use Rattle.std.proofs.Common.{◌∙◌}
use Rattle.base.specs.Hash.{plain_hash}
use Rattle.class_keys.specs.Table.{asked, steps_small, searching, written-lent, sought}
use Rattle.class_keys.proofs.table.search.Goals as goal

pub write_key-n-requires : goal.write_key-n-requires
write_key-n-requires c = let p = c.requires in (asked _ _ _ _ _ _ p.0 _ p.1, refl)

pub count-steps-requires : goal.count-steps-requires
count-steps-requires c = (c.requires.0.keyable.held.cataloged.fits, omega arith)

pub hash-h-requires : goal.hash-h-requires
hash-h-requires c = let l = steps_small _ _ _ _ _ _ c.requires.0 in (omega arith, omega (arith, l, c.count-steps.ensures))

pub probe-requires : goal.probe-requires
probe-requires c = let u = c.hash-h.ensures in searching _ _ _ _ _ _ c.requires.0 _ _ _ c.count-steps.ensures (u.0 ∙ plain_hash _ _) u.1

pub returns : goal.returns
returns c = let S = searching _ _ _ _ _ _ c.requires.0 _ _ _ c.count-steps.ensures (c.hash-h.ensures.0 ∙ plain_hash _ _) c.hash-h.ensures.1 in sought _ _ _ _ _ _ _ _ _ c.probe.result S.hash_is (written-lent _ _ _ _ _ _ _ c.write_key-n.ensures) c.probe.ensures
