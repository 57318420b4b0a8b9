-- `has_keys` meets its contract.
use mathlib.Core.Path.{sym, ap}
use Rattle.definition.specs.Test.{◌and◌}
use Rattle.pack_tables.specs.Catalog.{keyed_kind, keyed_but}
use Rattle.pack_tables.proofs.catalog.has_keys.Goals as goal

pub returns-then-kind-eq-STEPS : goal.returns-then-kind-eq-STEPS
unfolding ◌and◌
returns-then-kind-eq-STEPS c = sym (ap keyed_kind c.if-kind-eq-STEPS.true)

pub returns-then-kind-eq-CUTS : goal.returns-then-kind-eq-CUTS
unfolding ◌and◌
returns-then-kind-eq-CUTS c = sym (ap keyed_kind c.if-kind-eq-CUTS.true)

pub returns : goal.returns
returns c = sym (keyed_but c.args.kind c.if-kind-eq-STEPS.false c.if-kind-eq-CUTS.false)
