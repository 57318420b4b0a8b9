-- `intern_key` meets its contract.
use Rattle.base.specs.Part.{part}
use Rattle.term_lift.specs.Kept.{interns}
use Rattle.term_lift.proofs.intern.intern_key.Goals as goal

pub intern-requires : goal.intern-requires
unfolding part
intern-requires c = let p = c.requires in (p.0.index, p.1)

pub returns : goal.returns
unfolding part
returns c = let p = c.requires in interns _ _ _ _ p.0 c.intern.new.index c.intern.new.words _ c.intern.auto.index c.intern.result c.intern.ensures
