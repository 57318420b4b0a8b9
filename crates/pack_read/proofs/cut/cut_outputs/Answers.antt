-- `cut_outputs` meets its contract.
use mathlib.Core.Path.{ap, ◌∙◌}
use Prim.Native.Nat.{ℕ, ◌-◌, ◌/◌}
use native.Mathlib.Omega.{arith}
use Rattle.pack_tables.specs.Catalog.{records_of}
use Rattle.pack_read.specs.Says.{cut-outputs_read}
use Rattle.pack_read.proofs.cut.cut_outputs.Goals as goal

pub overflow_sub-result : goal.overflow_sub-result
overflow_sub-result c = omega (arith, c.body_len.ensures, c.requires.0.reads.cuts.form c.args.j c.requires.1)

pub returns : goal.returns
returns c =
    let a = c.args in
    λ P R. ap (λ (x : ℕ). (x - 4) / 4) c.body_len.ensures ∙ cut-outputs_read a.pack.now (records_of a.work.now a.c) P R a.j c.requires.1
