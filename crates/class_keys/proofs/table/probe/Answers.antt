-- `probe` meets its contract: what the search has passed is taken, and not by the key.
use mathlib.Core.Path.{refl}
use native.Mathlib.Omega.{arith}
use Rattle.class_keys.specs.Table.{probing_none, probing_free, probing_class, probing_found, probing_more}
use Rattle.class_keys.proofs.table.probe.Goals as goal

pub loop-c-init : goal.loop-c-init
loop-c-init c = probing_none _ _ _ _ _ _ c.requires.tabled _ _ c.requires

pub has_key-requires : goal.has_key-requires
has_key-requires c = (c.requires.tabled, probing_class _ _ _ _ _ _ c.requires.tabled _ _ c.requires _ c.loop-c.invariant _ refl c.if-id-eq0.false)

pub loop-c-smaller : goal.loop-c-smaller
loop-c-smaller c = omega (arith, c.loop-c.invariant.inside)

pub loop-c-preserved : goal.loop-c-preserved
loop-c-preserved c = probing_more _ _ _ _ _ _ c.requires.tabled _ _ c.requires _ c.loop-c.invariant _ refl c.if-id-eq0.false _ c.has_key.ensures c.if-has_key.false

pub returns-then-id-eq0 : goal.returns-then-id-eq0
returns-then-id-eq0 c = probing_free _ _ _ _ _ _ c.requires.tabled _ _ c.requires _ c.loop-c.invariant c.if-id-eq0.true

pub returns-then-has_key : goal.returns-then-has_key
returns-then-has_key c = probing_found _ _ _ _ _ _ c.requires.tabled _ _ c.requires _ c.loop-c.invariant _ refl c.if-id-eq0.false _ c.has_key.ensures c.if-has_key.true
