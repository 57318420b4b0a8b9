-- `Memo::new` meets its contract.
use mathlib.Core.Path.{refl}
use lib.ListN.{length}
use Rattle.memo.specs.Recall.{begun-new}
use Rattle.memo.proofs.memo.Memo.new.Goals as goal

pub returns : goal.returns
returns c = begun-new _ (length c.args.table.now) _ (c.fill.ensures.after (λ y e. e)) refl
