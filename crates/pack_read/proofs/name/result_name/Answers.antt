-- `result_name` meets its contract.
use mathlib.Core.Path.{◌∙◌}
use Rattle.pack_tables.specs.Catalog.{records_of}
use Rattle.pack_read.specs.Says.{result_named}
use Rattle.pack_read.proofs.name.result_name.Goals as goal

pub returns : goal.returns
returns c =
    let a = c.args in
    λ P R. c.name_of.ensures ∙ result_named a.pack.now (records_of a.work.now a.c) P R a.i c.requires.1
