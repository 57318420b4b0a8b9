-- `show_goals` meets its contract.
use Rattle.class_build.specs.Tests.{made-seen, made-values}
use Rattle.text_goals.specs.AllShown.{starts_showable, starts_shows}
use Rattle.text_goals.proofs.goals.show_goals.Goals as goal

pub begin-seen-requires : goal.begin-seen-requires
begin-seen-requires c = made-seen _ _ _ _ _ _ _ _ _ c.requires.made

pub begin-values-requires : goal.begin-values-requires
begin-values-requires c = made-values _ _ _ _ _ _ _ _ _ c.requires.made _ _ c.begin-seen.ensures

pub show_each-requires : goal.show_each-requires
show_each-requires c = let a = c.args in starts_showable _ _ _ _ a.s a.t c.requires _ _ c.begin-seen.ensures _ _ c.begin-values.ensures

pub returns : goal.returns
returns c = let a = c.args in starts_shows _ _ _ _ a.s a.t c.requires _ _ c.begin-seen.ensures _ _ c.begin-values.ensures _ _ _ a.b c.show_each.result c.show_each.ensures
