-- `finish` meets its contract.
use native.Mathlib.Omega.{arith}
use Rattle.base.specs.Part.{part}
use Rattle.term_lift.specs.Nodes.{key_some, number_small, finish_id, finish_short}
use Rattle.term_lift.proofs.lift.finish.Goals as goal

pub intern-requires : goal.intern-requires
unfolding part
intern-requires c = let p = c.requires in (p.0.index, key_some _ _ _ _ _ _ _ p.0 p.1 _ _ c.key_of-k.ensures)

pub overflow_add-work : goal.overflow_add-work
unfolding part
overflow_add-work c = let p = c.requires in let s = number_small _ _ _ _ _ _ _ p.0 p.1 _ _ c.key_of-k.ensures c.intern.new.index c.intern.new.words c.intern.auto.index _ _ c.in_ok-p.ensures in omega arith

pub returns : goal.returns
unfolding part
returns c = let p = c.requires in finish_id _ _ _ _ _ _ _ p.0 p.1 _ _ c.key_of-k.ensures c.intern.new.index c.intern.new.words c.intern.auto.index _ _ c.in_ok-p.ensures

pub returns-in_err-p : goal.returns-in_err-p
unfolding part
returns-in_err-p c = let p = c.requires in rw c.from_residual.ensures (finish_short _ _ _ _ _ _ _ p.0 p.1 _ _ c.key_of-k.ensures c.intern.new.index c.intern.new.words c.intern.auto.index c.in_err-p.ensures)
