-- `node_sort` meets its contract.
use mathlib.Core.Path.{ap, ◌∙◌}
use Prim.Native.Nat.{ℕ}
use native.Mathlib.Omega.{arith}
use Rattle.definition.specs.Pack.{symbol_of, sort_of}
use Rattle.pack_tables.specs.Catalog.{records_of}
use Rattle.pack_read.specs.Reads.{length_symbols}
use Rattle.pack_read.proofs.node.node_sort.Goals as goal

pub symbol_output-requires : goal.symbol_output-requires
symbol_output-requires c =
    let a = c.args in
    let p = c.requires in
    (p.0, omega (arith, c.node_head-h.ensures p.0.pack p.0.reads, p.2, length_symbols a.pack.now (records_of a.work.now a.c) p.0.pack p.0.reads))

pub returns : goal.returns
unfolding sort_of
returns c = λ P R. c.symbol_output.ensures P R ∙ ap (λ (h : ℕ). (symbol_of P h).output) (c.node_head-h.ensures P R)
