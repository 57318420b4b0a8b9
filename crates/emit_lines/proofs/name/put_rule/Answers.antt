-- `put_rule` meets its contract.
use mathlib.Core.Path.{sym, ap}
use native.Mathlib.Omega.{arith}
use Rattle.definition.specs.Pack.{Rule}
use Rattle.text_write.specs.Written.{adds_none, adds_as}
use Rattle.emit_lines.specs.Names.{no_rule_law}
use Rattle.emit_lines.proofs.name.put_rule.Goals as goal

pub count-requires : goal.count-requires
count-requires c = (c.requires.cataloged.fits, omega arith)

pub returns-then-count-rule : goal.returns-then-count-rule
returns-then-count-rule c = λ P R. adds_as _ _ _ _ _ _ (sym (ap (λ (x : Rule). x.name) (no_rule_law _ _ _ P R _ (omega (arith, c.if-count-rule.true, c.count.ensures))))) (adds_none _ _)

pub rule_name-requires : goal.rule_name-requires
rule_name-requires c = (c.requires, omega (arith, c.if-count-rule.false, c.count.ensures))

pub returns : goal.returns
returns c = λ P R. adds_as _ _ _ _ _ _ (c.rule_name.ensures P R) c.put_bytes.ensures
