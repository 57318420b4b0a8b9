-- `take_rule` meets its contract.
use Rattle.std.proofs.lemmas.Result.{err_from_is_err_and}
use native.Mathlib.Omega.{arith}
use Rattle.pack_reader.specs.Taking.{rules-keyed}
use Rattle.pack_reader.specs.Sound.{readable}
use Rattle.pack_reader.specs.Rule.{many-rules, faulty-rule, inside_rule, enter_rule, new-rule, old-rule}
use Rattle.pack_reader.proofs.rule.take_rule.Goals as goal

pub count-requires : goal.count-requires
count-requires c = (c.requires.0.cataloged.fits, omega arith)

pub returns-then-count-ge-RULES : goal.returns-then-count-ge-RULES
returns-then-count-ge-RULES c = many-rules _ _ _ _ _ c.requires.0 c.requires.1 (omega (arith, c.if-count-ge-RULES.true, c.count.ensures))

pub rule_form-requires : goal.rule_form-requires
rule_form-requires c = readable _ _ _ c.requires.0.cataloged c.requires.2

pub overflow_add-at : goal.overflow_add-at
overflow_add-at c =
    let l = inside_rule _ _ _ _ _ c.requires.0 c.requires.1 (omega (arith, c.if-count-ge-RULES.false, c.count.ensures)) _ c.in_ok-n.ensures in
    omega (arith, l)

pub enter-requires : goal.enter-requires
enter-requires c = (enter_rule _ _ _ _ _ c.requires.0 c.requires.1 (omega (arith, c.if-count-ge-RULES.false, c.count.ensures)) _ c.in_ok-n.ensures, rules-keyed)

pub returns-in-New : goal.returns-in-New
returns-in-New c =
    new-rule _ _ _ _ _ c.requires.0 c.requires.1 (omega (arith, c.if-count-ge-RULES.false, c.count.ensures)) _ c.in_ok-n.ensures _
    c.in-New.ensures

pub returns-in-Old : goal.returns-in-Old
returns-in-Old c =
    old-rule _ _ _ _ _ c.requires.0 c.requires.1 (omega (arith, c.if-count-ge-RULES.false, c.count.ensures)) _ c.in_ok-n.ensures _
    c.in-Old.ensures

pub returns-in_err-n : goal.returns-in_err-n
returns-in_err-n c =
    let p = err_from_is_err_and c.from_residual.result c.from_residual.ensures.1 in
    rw (p.1, p.2) (faulty-rule _ _ _ _ _ c.requires.0 c.requires.1 (omega (arith, c.if-count-ge-RULES.false, c.count.ensures)) _ c.in_err-n.ensures)
