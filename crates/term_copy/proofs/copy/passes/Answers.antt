-- `passes` meets its contract.
use Rattle.base.specs.Part.{part}
use Rattle.term_copy.specs.Passes.{passes-not, passes_new}
use mathlib.Core.Path.{◌∙◌}
use Prim.Native.Nat.{◌+◌}
use lib.ListN.{get_or}
use Rattle.term_copy.proofs.copy.passes.Goals as goal

pub returns-then-work-at-ne0 : goal.returns-then-work-at-ne0
returns-then-work-at-ne0 c = passes-not _ _ c.if-work-at-ne0.true

pub get-requires : goal.get-requires
unfolding part
get-requires c = c.requires.3

pub returns : goal.returns
unfolding part
returns c = let a = c.args in c.is_some.ensures ∙ passes_new a.work.now a.l a.memo (get_or a.work.now a.at 0) (get_or a.work.now (a.at + 1) 0) c.get.result c.if-work-at-ne0.false c.get.ensures
