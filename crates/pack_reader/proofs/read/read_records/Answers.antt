-- Where nothing is left, all records are in the tables.
use Rattle.std.proofs.Common.{arith, subst}
use Rattle.pack_tables.specs.declared.catalog.Catalog.{Catalog}
use Rattle.pack_reader.specs.Ahead.{Ahead, ahead-end}
use Rattle.pack_reader.proofs.read.read_records.Goals as goal

pub returns : goal.returns
returns c =
    let l = c.loop-unread in
    let bytes = c.args.pack.now in
    let A = subst (λ (k : Catalog). Ahead bytes l.unread.tail.now c.args.work.now l.work k l.unread.last) c.requires.0 l.invariant in
    ahead-end bytes l.unread.tail.now c.args.work.now l.work l.unread.last A (λ h. omega arith)
