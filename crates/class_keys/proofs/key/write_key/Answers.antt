-- `write_key` meets its contract.
use mathlib.Core.Path.{sym, ◌∙◌}
use Rattle.class_keys.specs.Writing.{written-cut, written-rule}
use Rattle.class_keys.proofs.key.write_key.Goals as goal

pub step_is_cut-requires : goal.step_is_cut-requires
step_is_cut-requires c = let A = c.requires.0 in (A.noted.placed.held, A.noted.placed.marks, A.given)

pub step_predicate-requires : goal.step_predicate-requires
step_predicate-requires c = let A = c.requires.0 in (A.noted.placed.held, A.given)

pub returns-then-step_is_cut : goal.returns-then-step_is_cut
returns-then-step_is_cut c = let p = c.requires in written-cut _ _ _ _ _ _ p.0 c.args.key.now _ p.1 c.step_predicate.ensures (λ P R Q. sym (c.step_is_cut.ensures P R Q) ∙ c.if-step_is_cut.true)

pub returns : goal.returns
returns c = written-rule _ _ _ _ _ _ c.requires.0 _ _ c.write_rule_key.ensures (λ P R Q. sym (c.step_is_cut.ensures P R Q) ∙ c.if-step_is_cut.false)
