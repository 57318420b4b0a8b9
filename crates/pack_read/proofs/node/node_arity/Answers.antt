-- `node_arity` meets its contract.
use mathlib.Core.Path.{ap, ◌∙◌}
use Prim.Native.Nat.{ℕ, ◌-◌, ◌/◌}
use native.Mathlib.Omega.{arith}
use Rattle.pack_tables.specs.Catalog.{records_of}
use Rattle.pack_read.specs.Says.{arguments_read}
use Rattle.pack_read.proofs.node.node_arity.Goals as goal

pub overflow_sub-result : goal.overflow_sub-result
overflow_sub-result c = omega (arith, c.body_len.ensures, (c.requires.0.reads.nodes.form c.args.n.0 c.requires.1).0)

pub returns : goal.returns
returns c =
    let a = c.args in
    λ P R. ap (λ (x : ℕ). (x - 4) / 4) c.body_len.ensures ∙ arguments_read a.pack.now (records_of a.work.now a.c) P R a.n.0 c.requires.1
