-- `after` meets its contract: the part that is lent is all that is left.
use Rattle.pack_tables.specs.Header.{lent-tail}
use Rattle.pack_tables.proofs.unread.after.Goals as goal

pub returns : goal.returns
returns c = lent-tail c.args.tail.now c.args.end
