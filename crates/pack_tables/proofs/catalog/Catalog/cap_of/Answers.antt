-- `Catalog::cap_of` meets its contract.
use mathlib.Core.Path.{sym}
use native.Mathlib.Omega.{arith}
use Rattle.pack_tables.specs.Catalog.{cap_all, cap_own, cap_least}
use Rattle.pack_tables.proofs.catalog.Catalog.cap_of.Goals as goal

pub returns-then-kind-ge-NODES : goal.returns-then-kind-ge-NODES
returns-then-kind-ge-NODES c = sym (cap_all c.args.self c.args.kind (omega arith))

pub returns-then-self-le-LIMITED : goal.returns-then-self-le-LIMITED
returns-then-self-le-LIMITED c = sym (cap_own c.args.self c.args.kind (omega arith) (omega arith))

pub returns : goal.returns
returns c = sym (cap_least c.args.self c.args.kind (omega arith) (omega arith))
