-- `write_variable` meets its contract.
use mathlib.Core.Path.{sym, ap, ◌∙◌}
use Rattle.memo.specs.Recall.{known}
use Rattle.text_goals.specs.Lines.{variable-kept, variable-kinds, variable_some, variable-none}
use Rattle.text_goals.proofs.values.write_variable.Goals as goal

pub get-requires : goal.get-requires
get-requires c = let p = c.requires in variable-kept _ _ _ _ _ _ p.0 p.1

pub write_line-requires : goal.write_line-requires
write_line-requires c = let p = c.requires in variable-kinds _ _ _ _ _ _ p.0 p.1 _ (sym (ap known c.in-Some.is) ∙ c.get.ensures)

pub returns-in-Some : goal.returns-in-Some
returns-in-Some c = let p = c.requires in variable_some _ _ _ _ _ _ p.0 p.1 _ (sym (ap known c.in-Some.is) ∙ c.get.ensures) _ _ _ _ _ c.write_line.ensures

pub returns-in-None : goal.returns-in-None
returns-in-None c = let p = c.requires in variable-none _ _ _ _ _ _ p.0 p.1 (sym (ap known c.in-None.is) ∙ c.get.ensures) _ _
