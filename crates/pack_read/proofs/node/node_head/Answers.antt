-- `node_head` meets its contract.
use mathlib.Core.Path.{◌∙◌}
use native.Mathlib.Omega.{arith}
use Rattle.pack_tables.specs.Catalog.{records_of}
use Rattle.pack_read.specs.Says.{head_read}
use Rattle.pack_read.proofs.node.node_head.Goals as goal

pub body_word-requires : goal.body_word-requires
body_word-requires c =
    (c.requires.0.cataloged, omega arith, c.requires.1, omega (arith, (c.requires.0.reads.nodes.form c.args.n.0 c.requires.1).0))

pub returns : goal.returns
returns c =
    let a = c.args in
    λ P R. c.body_word.ensures ∙ head_read a.pack.now (records_of a.work.now a.c) P R a.n.0 c.requires.1
