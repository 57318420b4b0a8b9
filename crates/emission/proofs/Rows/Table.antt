-- The small packs whole: the definition's table and emission's, under one theorem.
use Rattle.definition.specs.Rows.Row.{Holds as HoldsThere}
use Rattle.definition.proofs.Rows.Table.{joined, parts, small_packs as there}
use Rattle.emission.specs.Rows.Row.{Holds}
use Rattle.emission.proofs.Rows.Emit.{rows, hold}

pub small_packs : HoldsThere (joined parts).rows × Holds rows
small_packs = (there, hold)
