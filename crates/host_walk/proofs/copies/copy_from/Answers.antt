-- `copy_from` meets its contract.
use Rattle.host_walk.specs.CopyCalls.{stock_refused, stock_copyable, stock_copied, stock_word}
use Rattle.host_walk.proofs.copies.copy_from.Goals as goal

pub returns-then-s-p : goal.returns-then-s-p
returns-then-s-p c = stock_refused _ _ _ _ _ _ _ _ c.requires c.args.p c.args.copies c.args.read c.if-s-p.true

pub overflow_cast-p : goal.overflow_cast-p
overflow_cast-p c = record { fits = stock_word _ _ _ _ _ _ _ _ c.requires c.args.p c.args.copies c.args.read c.if-s-p.false }

pub copies_in-requires : goal.copies_in-requires
copies_in-requires c = stock_copyable _ _ _ _ _ _ _ _ c.requires c.args.p c.args.copies c.args.read c.if-s-p.false

pub shape_of-work : goal.shape_of-work
shape_of-work c = search

pub shape_of-words : goal.shape_of-words
shape_of-words c = search

pub shape_of-cells : goal.shape_of-cells
shape_of-cells c = search

pub returns : goal.returns
returns c = stock_copied _ _ _ _ _ _ _ _ c.requires c.args.p c.args.copies c.args.read c.if-s-p.false c.copies_in.new.words c.copies_in.result c.copies_in.ensures
