-- `take` meets its contract.
use Rattle.emit_open.specs.Takes.{ready_node, takes-variable, takes_notable, takes-given, takes_taking, takes_all}
use Rattle.emit_open.proofs.open.take.Goals as goal

pub head-requires : goal.head-requires
head-requires c = let Q = c.requires in (Q.given.stored, ready_node _ _ _ _ _ _ _ _ _ Q)

pub returns-then-head : goal.returns-then-head
returns-then-head c = takes-variable _ _ _ _ _ _ _ _ _ c.requires _ c.head.ensures c.if-head.true

pub note-requires : goal.note-requires
note-requires c = takes_notable _ _ _ _ _ _ _ _ _ c.requires _ c.head.ensures c.if-head.false

pub arity-k-requires : goal.arity-k-requires
arity-k-requires c = let Q = c.requires in ((takes-given _ _ _ _ _ _ _ _ _ Q _ c.head.ensures c.if-head.false _ c.note.ensures).stored, ready_node _ _ _ _ _ _ _ _ _ Q)

pub meet_arguments-requires : goal.meet_arguments-requires
meet_arguments-requires c = takes_taking _ _ _ _ _ _ _ _ _ c.requires _ c.head.ensures c.if-head.false _ c.note.ensures _ c.arity-k.ensures

pub returns : goal.returns
returns c = takes_all _ _ _ _ _ _ _ _ _ c.requires _ c.head.ensures c.if-head.false _ c.note.ensures _ _ c.meet_arguments.ensures
