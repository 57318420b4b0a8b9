-- `value_premises` meets its contract.
use mathlib.Core.Path.{refl}
use Rattle.base.specs.Part.{part}
use Rattle.class_solve.specs.Valuing.{holds_inner, colours_room, values-start, values_differ, values-given, values_outside, circle_told}
use Rattle.class_solve.proofs.solve.value_premises.Goals as goal

pub circular-requires : goal.circular-requires
unfolding part
circular-requires c =
    let W = c.requires in
    (holds_inner _ _ _ _ _ _ _ _ _ _ _ _ _ _ _ _ W.counts W.fill W.pack W.built W.refs W.state W.taken, colours_room _ _ _ _ _ _ _ _ _ _ _ _ _ _ _ _ W.counts W.fill W.pack W.built W.refs W.state W.taken)

pub returns-then-circular : goal.returns-then-circular
unfolding part
returns-then-circular c =
    let N = rw c.if-circular.true at c.circular.ensures in
    λ r fill P b refs ps T. circle_told _ _ _ _ _ _ _ _ _ _ _ _ _ _ _ _ r fill P b refs ps T _ N.1 N.0

pub fix_premises-requires : goal.fix_premises-requires
unfolding part
fix_premises-requires c =
    let W = c.requires in
    let N = rw c.if-circular.false at c.circular.ensures in
    values-start _ _ _ _ _ _ _ _ _ _ _ _ _ _ _ _ W.counts W.fill W.pack W.built W.refs W.state W.taken _ N.1 N.0

pub returns-in-Done : goal.returns-in-Done
unfolding part
returns-in-Done c =
    let W = c.requires in
    let N = rw c.if-circular.false at c.circular.ensures in
    let F = c.in-Done.ensures in (
      refl,
      refl,
      refl,
      refl,
      values_outside _ _ _ _ _ _ _ _ _ _ _ _ _ _ _ _ W.counts W.fill W.pack W.built W.refs W.state W.taken _ N.1 N.0 _ F.0,
      λ r fill P b refs ps T. values-given _ _ _ _ _ _ _ _ _ _ _ _ _ _ _ _ r fill P b refs ps T _ N.1 N.0 _ F,
    )

pub returns-in-Differs : goal.returns-in-Differs
unfolding part
returns-in-Differs c =
    let N = rw c.if-circular.false at c.circular.ensures in
    let F = c.in-Differs.ensures in
    λ r fill P b refs ps T. values_differ _ _ _ _ _ _ _ _ _ _ _ _ _ _ _ _ r fill P b refs ps T _ N.1 N.0 c.fix_premises.new.work F
