-- `step_ruling` meets its contract.
use mathlib.Core.Path.{refl}
use Rattle.pack_read.specs.Held.{readable}
use Rattle.class_all.specs.Class.{ruling_recorded}
use Rattle.class_all.proofs.class.step_ruling.Goals as goal

pub rule_vars-vars-requires : goal.rule_vars-vars-requires
rule_vars-vars-requires c = let pre = c.requires in (readable _ _ _ pre.0, ruling_recorded _ _ _ pre.0 _ pre.1 _ c.step_rule-r.ensures)

pub rule_premises-premises-requires : goal.rule_premises-premises-requires
rule_premises-premises-requires c = let pre = c.requires in (readable _ _ _ pre.0, ruling_recorded _ _ _ pre.0 _ pre.1 _ c.step_rule-r.ensures)

pub returns : goal.returns
returns c = (refl, λ P R Q. record { rule = c.step_rule-r.ensures P R; vars = c.rule_vars-vars.ensures P R; premises = c.rule_premises-premises.ensures P R })
