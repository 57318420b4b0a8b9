-- `begin` meets its contract.
use Rattle.term_copy.specs.Places.{table_in}
use Rattle.memo.specs.Recall.{recall}
use Rattle.term_copy.specs.Begun.{begun}
use Rattle.base.specs.Part.{part}
use lib.ListN.{length}
use Rattle.term_copy.proofs.copy.begin.Goals as goal

pub clear-fresh-requires : goal.clear-fresh-requires
unfolding part
clear-fresh-requires c = c.requires.0

pub returns : goal.returns
unfolding part
returns c =
    begun c.args.work.now c.args.flex.now c.args.l c.args.p.0 c.clear-fresh.result c.requires.1 c.requires.2 c.requires.3 c.clear-fresh.new.table c.fill.new.self c.clear-fresh.auto.table (c.fill.ensures.after (λ y e. e)) (length (recall (table_in c.args.work.now c.args.l) c.args.memo)) c.clear-fresh.ensures
