-- `step_passes` meets its contract.
use mathlib.Core.Path.{◌∙◌}
use Prim.Native.Nat.{◌<◌}
use native.Mathlib.Omega.{arith}
use lib.ListN.{length}
use Rattle.pack_read.specs.Reads.{length_steps}
use Rattle.pack_read.specs.Held.{readable}
use Rattle.check_steps.specs.MatchTurns.{step_ready, step_decided, judgments-room}
use Rattle.check_steps.proofs.steps.step_passes.Goals as goal

pub push_judgments-on-requires : goal.push_judgments-on-requires
push_judgments-on-requires c = let p = c.requires in (p.0, p.1, omega (arith, judgments-room p.0.pack p.0.proper _ p.1, p.2))

pub step_rule-r-requires : goal.step_rule-r-requires
step_rule-r-requires c = let p = c.requires in (readable _ _ _ p.0, omega (arith, p.1, length_steps _ _ p.0.pack p.0.reads))

pub rule_matches-requires : goal.rule_matches-requires
rule_matches-requires c =
    let p = c.requires in
    let H = p.0 in
    let j = c.push_judgments-on.ensures in
    (H, step_ready H.pack H.proper _ p.1 _ _ j.0 (c.push_judgments-on.auto.stack ∙ p.2) (j.1 H.pack H.reads H.proper) _ (c.step_rule-r.ensures H.pack H.reads), p.3)

pub returns : goal.returns
returns c = λ P R Q.
    let p = c.requires in
    let i = c.args.i in
    let j = c.push_judgments-on.ensures in
    let l : i < length P.steps = omega (arith, p.1, length_steps _ _ p.0.pack p.0.reads, length_steps _ _ P R) in
    let e = c.step_rule-r.ensures P R in
    let y = step_ready P Q i l _ _ j.0 (c.push_judgments-on.auto.stack ∙ p.2) (j.1 P R Q) _ e in
    step_decided P Q i l _ (j.1 P R Q) _ e _ (c.rule_matches.ensures P R Q y)
