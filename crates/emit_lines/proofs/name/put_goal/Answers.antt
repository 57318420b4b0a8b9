-- `put_goal` meets its contract.
use mathlib.Core.Path.{sym}
use native.Mathlib.Omega.{arith}
use Rattle.emission.specs.Render.{goal_name}
use Rattle.text_write.specs.Written.{adds_none, adds_as}
use Rattle.emit_lines.specs.Names.{no_goal_law}
use Rattle.emit_lines.proofs.name.put_goal.Goals as goal

pub count-requires : goal.count-requires
count-requires c = (c.requires.cataloged.fits, omega arith)

pub returns-then-count-goal : goal.returns-then-count-goal
returns-then-count-goal c = λ P R. adds_as _ _ _ _ _ _ (sym (no_goal_law _ _ _ P R _ (omega (arith, c.if-count-goal.true, c.count.ensures)))) (adds_none _ _)

pub goal_name-requires : goal.goal_name-requires
goal_name-requires c = (c.requires, omega (arith, c.if-count-goal.false, c.count.ensures))

pub returns : goal.returns
unfolding goal_name
returns c = λ P R. adds_as _ _ _ _ _ _ (c.goal_name.ensures P R) c.put_bytes.ensures
