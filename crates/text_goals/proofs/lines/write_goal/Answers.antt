-- `write_goal` meets its contract.
use Rattle.pack_read.specs.Held.{readable}
use Rattle.text_goals.specs.Goals.{goal-row, goal_writing, goal_lined, goal_writes}
use Rattle.text_goals.proofs.lines.write_goal.Goals as goal

pub goal_name-requires : goal.goal_name-requires
goal_name-requires c = let p = c.requires in (readable _ _ _ p.0.patterns.sourced.held, p.1)

pub row_conclusion-p-requires : goal.row_conclusion-p-requires
row_conclusion-p-requires c = let a = c.args in goal-row a.pack.now a.work.now _ a.words.now a.f c.requires.0

pub write_term-form-requires : goal.write_term-form-requires
write_term-form-requires c = goal_writing _ _ _ _ _ c.requires.0 _ c.row_conclusion-p.ensures

pub write_variables-requires : goal.write_variables-requires
write_variables-requires c = goal_lined _ _ _ _ _ c.requires.0 _ c.write_term-form.ensures.upto

pub returns : goal.returns
returns c =
    let a = c.args in
    goal_writes _ _ _ _ _ c.requires.0 _ c.write_term-form.ensures.upto _ _ _ _ _ _ _ _ a.budget _ _ _ _ _ _ a.g _ c.goal_name.ensures c.put_bytes-name.ensures c.put_byte-blank.ensures.byte c.row_conclusion-p.ensures c.write_term-form.ensures c.put_byte-line.ensures.byte c.write_variables.ensures
