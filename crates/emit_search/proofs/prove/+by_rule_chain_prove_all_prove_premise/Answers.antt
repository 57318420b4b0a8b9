use mathlib.Core.Path.{refl, ◌∙◌}
use native.Mathlib.Omega.{arith}
use lib.ListN.{length-set}
use Rattle.emit_state.specs.Holding.{lends}
use Rattle.emit_state.specs.Writes.{maps_laid}
use Rattle.emit_search.specs.Going.{rules_go, rules-end, rule-asked, rules-line, rules_short, next-asked, rules_less, rules_go_on, premises_go, step-asked, premises-end, deeper-asked, few_bytes, premises-fail, premises_short, premises_go_on}
use Rattle.emit_search.specs.Asking.{failing, asked-room, asked-headed}
use Rattle.emit_search.specs.Answering.{wrote_lined, front, deep_enough, deeper_enough, less_all, less_rule, less_chain, less_prove, remember_asked, note-asked, rule_short, rule_fails, all_asked, rule_goes_on, answers_known, answers_given-up, answers_refused, answers_proved, answers_failed}
use Rattle.emit_search.proofs.prove.+by_rule_chain_prove_all_prove_premise.Goals as goal

pub by_rule-slice_bounds-qs-end : goal.by_rule-slice_bounds-qs-end
by_rule-slice_bounds-qs-end t c = let F = rw c.in-Ok-Built.field-0-is at c.in-Ok-Built.ensures in omega (arith, F.grown.1, c.premises.auto)

pub by_rule-prove_all-requires : goal.by_rule-prove_all-requires
by_rule-prove_all-requires t c =
    let F = rw c.in-Ok-Built.field-0-is at c.in-Ok-Built.ensures in
    (less_all _ _ c.decreases, (all_asked _ _ _ _ _ _ _ _ _ 0 _ _ _ _ F c.requires.0, c.requires.1))

pub by_rule-returns-in-Err : goal.by_rule-returns-in-Err
by_rule-returns-in-Err t c =
    let F = c.in-Err.ensures in
    record { answer = rule_short _ _ _ _ _ _ _ _ _ _ _ _ _ F; line = tt }

pub by_rule-returns-in-Ok-Lacks : goal.by_rule-returns-in-Ok-Lacks
by_rule-returns-in-Ok-Lacks t c =
    let F = rw c.in-Ok-Lacks.field-0-is at c.in-Ok-Lacks.ensures in
    record { answer = rule_fails _ _ _ _ _ _ _ _ _ _ _ _ _ F; line = tt }

pub by_rule-returns-in-Ok-Built : goal.by_rule-returns-in-Ok-Built
by_rule-returns-in-Ok-Built t c =
    let F = rw c.in-Ok-Built.field-0-is at c.in-Ok-Built.ensures in
    record { answer = rule_goes_on _ _ _ _ _ _ _ _ _ _ _ _ _ c.in-Ok-Built.n F (lends _ _ _ _) _ _ c.prove_all.ensures.answer (front c.in-Ok-Built.n _); line = c.prove_all.ensures.line }

pub chain-first_rule-r-requires : goal.chain-first_rule-r-requires
chain-first_rule-r-requires t c =
    let A = c.requires.0 in
    (A.ready.holding.laid, asked-headed _ _ _ _ _ A.ready _ A.has)

pub chain-loop-r-init : goal.chain-loop-r-init
chain-loop-r-init t c = (refl, refl, refl, rules_go (lends _ _ _ _) _ _ _ _ _ c.first_rule-r.ensures)

pub chain-by_rule-requires : goal.chain-by_rule-requires
chain-by_rule-requires t c = (less_rule _ _ c.decreases, (rule-asked _ _ _ _ _ _ _ _ c.loop-r.invariant.3 c.if-r.false c.requires.0, c.requires.1))

pub chain-next_rule-r-requires : goal.chain-next_rule-r-requires
chain-next_rule-r-requires t c =
    let F = rw c.in-Fails.is at c.by_rule.ensures.answer in
    next-asked _ _ _ _ _ _ _ _ c.loop-r.invariant.3 c.if-r.false (lends _ _ _ _) _ F c.requires.0

pub chain-loop-r-smaller : goal.chain-loop-r-smaller
chain-loop-r-smaller t c =
    let F = rw c.in-Fails.is at c.by_rule.ensures.answer in
    rules_less _ _ _ _ _ _ _ _ c.loop-r.invariant.3 c.if-r.false (lends _ _ _ _) _ F _ c.next_rule-r.ensures c.requires.0

pub chain-loop-r-preserved : goal.chain-loop-r-preserved
chain-loop-r-preserved t c =
    let g = c.loop-r.invariant in
    let K = c.by_rule.auto in
    let F = rw c.in-Fails.is at c.by_rule.ensures.answer in
    (K.work ∙ g.0, K.words ∙ g.1, K.proof ∙ g.2, rules_go_on _ _ _ _ _ _ _ _ g.3 c.if-r.false (lends _ _ _ _) _ F _ c.next_rule-r.ensures)

pub chain-returns-then-r : goal.chain-returns-then-r
chain-returns-then-r t c = record { answer = rules-end _ _ _ _ _ _ _ _ c.loop-r.invariant.3 c.if-r.true; line = tt }

pub chain-returns-in-Line : goal.chain-returns-in-Line
chain-returns-in-Line t c =
    record { answer = rules-line _ _ _ _ _ _ _ _ c.loop-r.invariant.3 c.if-r.false (lends _ _ _ _) _ _ (rw c.in-Line.is at c.by_rule.ensures.answer); line = (rw c.in-Line.is at c.by_rule.ensures.line) }

pub chain-returns-in-Refused : goal.chain-returns-in-Refused
chain-returns-in-Refused t c =
    record { answer = rules_short _ _ _ _ _ _ _ _ c.loop-r.invariant.3 c.if-r.false (lends _ _ _ _) _ (rw c.in-Refused.is at c.by_rule.ensures.answer); line = tt }

pub prove_all-loop-i-init : goal.prove_all-loop-i-init
prove_all-loop-i-init t c = (refl, refl, refl, refl, premises_go (lends _ _ _ _) _ _ _ _ _ _ c.requires.0.few)

pub prove_all-offset_bounds-qs-i : goal.prove_all-offset_bounds-qs-i
prove_all-offset_bounds-qs-i t c = record { fits = few_bytes _ _ _ _ _ _ _ _ _ _ _ c.loop-i.invariant.4 (omega (arith, c.loop-i-test.true, c.loop-i.invariant.3)) }

pub prove_all-prove_premise-requires : goal.prove_all-prove_premise-requires
prove_all-prove_premise-requires t c = (less_prove _ _ c.requires.1 c.decreases, (deeper-asked _ _ _ _ _ _ _ _ _ _ _ c.loop-i.invariant.4 (omega (arith, c.loop-i-test.true, c.loop-i.invariant.3)) c.requires.0, deeper_enough _ c.requires.1))

pub prove_all-offset_bounds-qs-i-in-Line : goal.prove_all-offset_bounds-qs-i-in-Line
prove_all-offset_bounds-qs-i-in-Line t c = record { fits = few_bytes _ _ _ _ _ _ _ _ _ _ _ c.loop-i.invariant.4 (omega (arith, c.loop-i-test.true, c.loop-i.invariant.3)) }

pub prove_all-returns-in-Fails : goal.prove_all-returns-in-Fails
prove_all-returns-in-Fails t c =
    let E = c.in-Fails.ensures in
    record { answer = premises-fail _ _ _ _ _ _ _ _ _ _ _ c.loop-i.invariant.4 (omega (arith, c.loop-i-test.true, c.loop-i.invariant.3)) c.requires.1 (lends _ _ _ _) _ E; line = tt }

pub prove_all-returns-in-Refused : goal.prove_all-returns-in-Refused
prove_all-returns-in-Refused t c =
    let E = c.in-Refused.ensures in
    record { answer = premises_short _ _ _ _ _ _ _ _ _ _ _ c.loop-i.invariant.4 (omega (arith, c.loop-i-test.true, c.loop-i.invariant.3)) c.requires.1 (lends _ _ _ _) _ E; line = tt }

pub prove_all-loop-i-preserved : goal.prove_all-loop-i-preserved
prove_all-loop-i-preserved t c =
    let g = c.loop-i.invariant in
    let K = c.prove_premise.auto in
    let E = c.in-Line.ensures in
    (K.work ∙ g.0, K.words ∙ g.1, K.proof ∙ g.2, length-set c.loop-i.qs c.loop-i.i _ ∙ g.3, premises_go_on _ _ _ _ _ _ _ _ _ _ _ g.4 (omega (arith, c.loop-i-test.true, c.loop-i.invariant.3)) c.requires.1 (lends _ _ _ _) _ _ E)

pub prove_all-write_step-requires : goal.prove_all-write_step-requires
prove_all-write_step-requires t c = step-asked _ _ _ _ _ _ _ _ _ _ _ c.loop-i.invariant.4 c.requires.0

pub prove_all-returns : goal.prove_all-returns
prove_all-returns t c =
    record { answer = premises-end _ _ _ _ _ _ _ _ _ _ _ c.loop-i.invariant.4 (omega (arith, c.loop-i-test.false, c.loop-i.invariant.3)) (lends _ _ _ _) _ c.write_step.ensures.answer; line = wrote_lined c.write_step.result c.write_step.ensures.line }

pub prove_premise-known-requires : goal.prove_premise-known-requires
prove_premise-known-requires t c = let A = c.requires.0 in (maps_laid _ _ A.ready.holding.laid, asked-room _ _ _ _ _ A.ready _ A.has)

pub prove_premise-returns-in-Some : goal.prove_premise-returns-in-Some
prove_premise-returns-in-Some t c = let K = c.in-Some.ensures in answers_known (lends _ _ _ _) _ _ _ _ _ K

pub prove_premise-gives_up-requires : goal.prove_premise-gives_up-requires
prove_premise-gives_up-requires t c = let A = c.requires.0 in failing _ _ _ _ _ A.ready.holding _ (asked-room _ _ _ _ _ A.ready _ A.has)

pub prove_premise-returns-then-gives_up : goal.prove_premise-returns-then-gives_up
prove_premise-returns-then-gives_up t c =
    let K = c.in-None.ensures in
    let U = rw c.if-gives_up.true at c.gives_up.ensures in
    answers_given-up (lends _ _ _ _) _ _ _ _ K c.requires.1 U

pub prove_premise-chain-requires : goal.prove_premise-chain-requires
prove_premise-chain-requires t c =
    let U = rw c.if-gives_up.false at c.gives_up.ensures in
    (less_chain _ _ c.decreases, (c.requires.0, deep_enough _ U))

pub prove_premise-remember-requires : goal.prove_premise-remember-requires
prove_premise-remember-requires t c =
    remember_asked _ (lends _ _ _ _) _ _ _ _ c.requires.0 _ _ (rw c.in-Line.is at c.chain.ensures.answer) (rw c.in-Line.is at c.chain.ensures.line)

pub prove_premise-note_failed-requires : goal.prove_premise-note_failed-requires
prove_premise-note_failed-requires t c =
    note-asked _ (lends _ _ _ _) _ _ _ _ c.requires.0 _ (rw c.in-Fails.is at c.chain.ensures.answer)

pub prove_premise-returns-in-Line : goal.prove_premise-returns-in-Line
prove_premise-returns-in-Line t c =
    let K = c.in-None.ensures in
    let U = rw c.if-gives_up.false at c.gives_up.ensures in
    answers_proved (lends _ _ _ _) _ _ _ _ K U (lends _ _ _ _) _ _ (rw c.in-Line.is at c.chain.ensures.answer) _ _ c.remember.ensures

pub prove_premise-returns-in-Fails : goal.prove_premise-returns-in-Fails
prove_premise-returns-in-Fails t c =
    let K = c.in-None.ensures in
    let U = rw c.if-gives_up.false at c.gives_up.ensures in
    answers_failed (lends _ _ _ _) _ _ _ _ K U (lends _ _ _ _) _ (rw c.in-Fails.is at c.chain.ensures.answer) _ c.note_failed.ensures

pub prove_premise-returns-in-Refused : goal.prove_premise-returns-in-Refused
prove_premise-returns-in-Refused t c =
    let K = c.in-None.ensures in
    let U = rw c.if-gives_up.false at c.gives_up.ensures in
    answers_refused (lends _ _ _ _) _ _ _ _ K U (lends _ _ _ _) _ (rw c.in-Refused.is at c.chain.ensures.answer)
