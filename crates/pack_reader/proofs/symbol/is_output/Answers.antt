-- `is_output` meets its contract.
use Rattle.pack_reader.specs.Symbol.{output_mark, output_unmarked}
use Rattle.pack_reader.proofs.symbol.is_output.Goals as goal

pub returns-then-output-eq-PROP : goal.returns-then-output-eq-PROP
returns-then-output-eq-PROP c = output_mark c.args.sorts c.args.output c.if-output-eq-PROP.true

pub returns : goal.returns
returns c = output_unmarked c.args.sorts c.args.output c.if-output-eq-PROP.false
