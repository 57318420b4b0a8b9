-- `symbol_arity` meets its contract.
use mathlib.Core.Path.{◌∙◌}
use native.Mathlib.Omega.{arith}
use Rattle.pack_tables.specs.Catalog.{records_of}
use Rattle.pack_read.specs.Says.{arity_read}
use Rattle.pack_read.proofs.symbol.symbol_arity.Goals as goal

pub body_half-requires : goal.body_half-requires
body_half-requires c =
    (c.requires.0.cataloged, omega arith, c.requires.1, omega (arith, (c.requires.0.reads.symbols.form c.args.h c.requires.1).0))

pub returns : goal.returns
returns c =
    let a = c.args in
    λ P R. c.body_half.ensures ∙ arity_read a.pack.now (records_of a.work.now a.c) P R a.h c.requires.1
