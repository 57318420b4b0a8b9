-- `name_byte` meets its contract, test by test.
use mathlib.Core.Path.{sym}
use native.Mathlib.Omega.{arith}
use Rattle.pack_tables.specs.Name.{low_no, high_no, open_no, byte_is}
use Rattle.pack_tables.proofs.name.name_byte.Goals as goal

pub returns-then-b-lt33 : goal.returns-then-b-lt33
returns-then-b-lt33 c = sym (low_no c.args.b (omega arith))

pub returns-then-b-gt126 : goal.returns-then-b-gt126
returns-then-b-gt126 c = sym (high_no c.args.b (omega arith))

pub returns-then-b-eq40 : goal.returns-then-b-eq40
returns-then-b-eq40 c = sym (open_no c.args.b c.if-b-eq40.true)

pub returns : goal.returns
returns c = sym (byte_is c.args.b (omega arith) (omega arith) c.if-b-eq40.false)
