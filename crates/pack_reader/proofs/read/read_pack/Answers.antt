-- `read_pack` meets its contract.
use Rattle.pack_reader.specs.Parsed.{parses_from}
use Rattle.pack_reader.proofs.read.read_pack.Goals as goal

pub read_records-requires : goal.read_records-requires
read_records-requires c = (c.open_tables-c.ensures.0, c.open_tables-c.ensures.1)

pub returns : goal.returns
returns c = parses_from _ _ _ _ c.read_records.result c.open_tables-c.ensures.2 c.read_records.ensures
