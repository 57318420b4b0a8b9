-- `take_node` meets its contract.
use mathlib.Core.Path.{refl, sym, ◌∙◌}
use native.Mathlib.Omega.{arith}
use Rattle.host_walk.specs.Lists.{indexed, too_few, no_pattern, turned_full, turned_next, pattern_count}
use borrow.Author.Rules.{rules}
use Rattle.host_walk.proofs.list.take_node.Goals as goal

pub returns-then-from-at-lt2 : goal.returns-then-from-at-lt2
returns-then-from-at-lt2 c = too_few _ _ _ _ c.requires.1 c.requires.2 (omega (arith, c.if-from-at-lt2.true))

pub overflow_cast-n : goal.overflow_cast-n
overflow_cast-n c = omega (arith, c.shared_slice_known-3-1.given c.args.at)

pub returns-then-from-at : goal.returns-then-from-at
returns-then-from-at c = too_few _ _ _ _ c.requires.1 c.requires.2 (omega (arith, c.if-from-at.true))

pub intern_key-requires : goal.intern_key-requires
intern_key-requires c = (indexed _ _ _ _ _ _ c.requires.0, search rules)

pub returns : goal.returns
returns c = let I = c.in-Some.ensures in turned_next _ _ _ _ c.requires.1 c.requires.2 _ refl (omega (arith, c.if-from-at.false, c.if-from-at-lt2.false)) (pattern_count _ _ _ _ _ _ c.requires.0 _ ∙ sym c.is_pattern.ensures ∙ c.if-not-is_pattern.false) _ _ _ _ _ _ c.requires.0 c.intern_key.auto.words _ _ I

pub returns-in_default : goal.returns-in_default
returns-in_default c = let I = c.in_default.ensures in turned_full _ _ _ _ c.requires.1 c.requires.2 _ refl (omega (arith, c.if-from-at.false, c.if-from-at-lt2.false)) (pattern_count _ _ _ _ _ _ c.requires.0 _ ∙ sym c.is_pattern.ensures ∙ c.if-not-is_pattern.false) _ _ c.intern_key.new.work c.intern_key.new.words _ _ c.requires.0 c.intern_key.auto.words I

pub returns-then-not-is_pattern : goal.returns-then-not-is_pattern
returns-then-not-is_pattern c = no_pattern _ _ _ _ c.requires.1 c.requires.2 _ refl (omega (arith, c.if-from-at.false)) (pattern_count _ _ _ _ _ _ c.requires.0 _ ∙ sym c.is_pattern.ensures ∙ c.if-not-is_pattern.true)
