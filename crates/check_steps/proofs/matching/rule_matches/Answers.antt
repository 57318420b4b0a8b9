-- `rule_matches` meets its contract: with each turn as much is to come as before.
use mathlib.Core.Path.{refl, sym, ap, ◌∙◌}
use mathlib.Core.List.{[]}
use native.Mathlib.Numerals.{add-one}
use native.Mathlib.Omega.{arith}
use Rattle.definition.specs.Verdict.{matched}
use Rattle.pack_read.specs.Held.{readable}
use Rattle.check_steps.specs.MatchTurns.{at_first}
use Rattle.check_steps.proofs.matching.rule_matches.Goals as goal

pub rule_vars-vars-requires : goal.rule_vars-vars-requires
rule_vars-vars-requires c = let p = c.requires in (readable _ _ _ p.0, omega (arith, p.1.rule, p.0.reads.rules.many))

pub slice_bounds-fill-end : goal.slice_bounds-fill-end
slice_bounds-fill-end c =
    let p = c.requires in
    omega (arith, c.rule_vars-vars.ensures p.0.pack p.0.reads, (p.0.proper.good.rules _ p.1.rule).variables, p.2)

pub loop-next-init : goal.loop-next-init
loop-next-init c =
    let p = c.requires in
    let n = c.rule_vars-vars.ensures p.0.pack p.0.reads in
    (p.1.room, (at_first p.0.pack p.0.proper _ _ c.args.values.now _ p.1 p.2 _ c.fill.new.self n (c.fill.ensures.after (λ y e. e))).slots, λ P R Q y. ([], at_first P Q _ _ c.args.values.now _ y c.requires.2 _ c.fill.new.self (c.rule_vars-vars.ensures P R) (c.fill.ensures.after (λ y e. e)), refl))

pub match_turn-requires : goal.match_turn-requires
match_turn-requires c =
    let p = c.requires in
    let H = p.0 in
    let v = c.loop-next.invariant.2 H.pack H.reads H.proper p.1 in
    (H, v.0, p.1.rule, c.rule_vars-vars.ensures H.pack H.reads, v.1)

pub overflow_add-i : goal.overflow_add-i
overflow_add-i c =
    let p = c.requires in
    let H = p.0 in
    let v = c.loop-next.invariant.2 H.pack H.reads H.proper p.1 in
    let t = c.in-Next.ensures in
    omega (arith, (t H.pack H.reads H.proper p.1.rule v.0 v.1).3)

pub loop-next-smaller : goal.loop-next-smaller
loop-next-smaller c =
    let p = c.requires in
    let H = p.0 in
    let v = c.loop-next.invariant.2 H.pack H.reads H.proper p.1 in
    let t = c.in-Next.ensures in
    omega (arith, (t H.pack H.reads H.proper p.1.rule v.0 v.1).3)

pub loop-next-preserved : goal.loop-next-preserved
loop-next-preserved c = (
  c.match_turn.auto.stack ∙ c.loop-next.invariant.0,
  c.match_turn.auto.values ∙ c.loop-next.invariant.1,
  λ P R Q y.
      let v = c.loop-next.invariant.2 P R Q y in
      let t = c.in-Next.ensures in
      let u = t P R Q y.rule v.0 v.1 in
      rw (add-one c.loop-next.i) (u.0, u.1, sym u.2 ∙ v.2),
)

pub shape_of-stack-in-Done : goal.shape_of-stack-in-Done
shape_of-stack-in-Done c = c.match_turn.auto.stack ∙ c.loop-next.invariant.0 ∙ sym c.requires.1.room

pub shape_of-values-in-Done : goal.shape_of-values-in-Done
shape_of-values-in-Done c = c.match_turn.auto.values ∙ c.loop-next.invariant.1 ∙ sym c.requires.2

pub returns-in-Done : goal.returns-in-Done
unfolding matched
returns-in-Done c = λ P R Q y.
    let v = c.loop-next.invariant.2 P R Q y in
    let t = c.in-Done.ensures in
    ap matched (sym (t P R Q y.rule v.0 v.1) ∙ v.2)

pub shape_of-stack-in-Fails : goal.shape_of-stack-in-Fails
shape_of-stack-in-Fails c = c.match_turn.auto.stack ∙ c.loop-next.invariant.0 ∙ sym c.requires.1.room

pub shape_of-values-in-Fails : goal.shape_of-values-in-Fails
shape_of-values-in-Fails c = c.match_turn.auto.values ∙ c.loop-next.invariant.1 ∙ sym c.requires.2

pub returns-in-Fails : goal.returns-in-Fails
unfolding matched
returns-in-Fails c = λ P R Q y.
    let v = c.loop-next.invariant.2 P R Q y in
    let t = c.in-Fails.ensures in
    ap matched (sym (t P R Q y.rule v.0 v.1) ∙ v.2)
