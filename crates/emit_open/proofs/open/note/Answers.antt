-- `note` meets its contract.
use native.Mathlib.Omega.{arith}
use Rattle.emit_open.specs.Notes.{notes-other, notes_short, notes-node, notes-applied, notes_number, notes_inside, notes-marked}
use Rattle.emit_open.proofs.open.note.Goals as goal

pub returns-then-head-c : goal.returns-then-head-c
returns-then-head-c c = notes-other _ _ _ _ _ _ _ c.requires _ c.head.ensures c.if-head-c.true

pub returns-then-arity-i : goal.returns-then-arity-i
returns-then-arity-i c = notes_short _ _ _ _ _ _ _ c.requires _ c.arity.ensures c.if-arity-i.true

pub head-requires-2 : goal.head-requires-2
head-requires-2 c = let Q = c.requires in (Q.given.stored, notes-node _ _ _ _ _ _ _ Q _ c.head.ensures c.if-head-c.false _ c.arity.ensures c.if-arity-i.false _ c.argument.ensures)

pub returns-then-head : goal.returns-then-head
returns-then-head c = let Q = c.requires in notes-applied _ _ _ _ _ _ _ Q _ c.head.ensures c.if-head-c.false _ c.arity.ensures c.if-arity-i.false _ c.argument.ensures _ c.head-2.ensures c.if-head.true

pub argument-v-requires : goal.argument-v-requires
argument-v-requires c = let Q = c.requires in (Q.given.stored, notes-node _ _ _ _ _ _ _ Q _ c.head.ensures c.if-head-c.false _ c.arity.ensures c.if-arity-i.false _ c.argument.ensures, notes_number _ _ _ _ _ _ _ Q _ c.head.ensures c.if-head-c.false _ c.arity.ensures c.if-arity-i.false _ c.argument.ensures _ c.head-2.ensures c.if-head.false)

pub bounds-work-l : goal.bounds-work-l
bounds-work-l c = omega (arith, notes_inside _ _ _ _ _ _ _ c.requires _ c.head.ensures c.if-head-c.false _ c.arity.ensures c.if-arity-i.false _ c.argument.ensures _ c.head-2.ensures c.if-head.false _ c.argument-v.ensures)

pub returns : goal.returns
returns c = notes-marked _ _ _ _ _ _ _ c.requires _ c.head.ensures c.if-head-c.false _ c.arity.ensures c.if-arity-i.false _ c.argument.ensures _ c.head-2.ensures c.if-head.false _ c.argument-v.ensures
