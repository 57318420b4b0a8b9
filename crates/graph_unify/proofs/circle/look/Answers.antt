-- `look` meets its contract.
use native.Mathlib.Omega.{arith}
use Rattle.graph_unify.specs.Circles.{looking_node, looking_laid, looking_argument, looking_found, looking_held, looking_small}
use Rattle.graph_unify.specs.CircleWords.{looking_low, looking_entering, looks_ends_in, looks_circle_in, looks_variable_in, looks_deeper_in}
use Rattle.graph_unify.proofs.circle.look.Goals as goal

pub argument-argument-requires : goal.argument-argument-requires
argument-argument-requires c = let H = c.requires.0 in (looking_laid _ _ _ _ _ _ _ _ H, looking_node _ _ _ _ _ _ _ _ H, looking_argument _ _ _ _ _ _ _ _ H)

pub find-y-requires : goal.find-y-requires
find-y-requires c = let H = c.requires.0 in (looking_held _ _ _ _ _ _ _ _ H, looking_found _ _ _ _ _ _ _ _ H _ c.argument-argument.ensures)

pub bounds-table-colours : goal.bounds-table-colours
bounds-table-colours c = let w = looking_low _ _ _ _ _ _ c.requires in omega (arith, w.1 _ c.find-y.ensures.0, c.requires.1, c.find-y.ensures.3.long, c.colours_at-colours.ensures)

pub returns-then-seen-eq-DONE : goal.returns-then-seen-eq-DONE
returns-then-seen-eq-DONE c = looks_ends_in _ _ _ _ _ _ _ c.argument-argument.result.0 _ c.argument-argument.ensures c.find-y.ensures c.requires.1 ((looking_low _ _ _ _ _ _ c.requires).1 _ c.find-y.ensures.0) (rw c.colours_at-colours.ensures at c.if-seen-eq-DONE.true)

pub returns-then-seen-ne-UNSEEN : goal.returns-then-seen-ne-UNSEEN
returns-then-seen-ne-UNSEEN c = looks_circle_in _ _ _ _ _ _ _ c.argument-argument.result.0 _ c.argument-argument.ensures c.find-y.ensures c.requires.1 ((looking_low _ _ _ _ _ _ c.requires).1 _ c.find-y.ensures.0) (rw c.colours_at-colours.ensures at c.if-seen-eq-DONE.false) (rw c.colours_at-colours.ensures at c.if-seen-ne-UNSEEN.true)

pub overflow_mul-at : goal.overflow_mul-at
overflow_mul-at c = let w = looking_low _ _ _ _ _ _ c.requires in omega (arith, w.0, (looking_laid _ _ _ _ _ _ _ _ c.requires.0).small, c.colours_at-colours.ensures, c.pairs_at.ensures)

pub overflow_add-at : goal.overflow_add-at
overflow_add-at c = let w = looking_low _ _ _ _ _ _ c.requires in omega (arith, w.0, (looking_laid _ _ _ _ _ _ _ _ c.requires.0).small, c.colours_at-colours.ensures, c.pairs_at.ensures)

pub overflow_cast-table : goal.overflow_cast-table
overflow_cast-table c = omega (arith, (looking_small _ _ _ _ _ _ _ _ c.requires.0).0)

pub overflow_add-table : goal.overflow_add-table
overflow_add-table c = omega (arith, (looking_small _ _ _ _ _ _ _ _ c.requires.0).0)

pub overflow_add-table-2 : goal.overflow_add-table-2
overflow_add-table-2 c = let w = looking_low _ _ _ _ _ _ c.requires in omega (arith, w.0, (looking_laid _ _ _ _ _ _ _ _ c.requires.0).small, c.colours_at-colours.ensures, c.pairs_at.ensures)

pub offset_bounds-table-at : goal.offset_bounds-table-at
offset_bounds-table-at c = let w = looking_low _ _ _ _ _ _ c.requires in omega (arith, w.0, (looking_laid _ _ _ _ _ _ _ _ c.requires.0).small, c.colours_at-colours.ensures, c.pairs_at.ensures)

pub bounds-table-at : goal.bounds-table-at
bounds-table-at c = let w = looking_low _ _ _ _ _ _ c.requires in omega (arith, w.0, c.requires.1, c.find-y.ensures.3.long, c.colours_at-colours.ensures, c.pairs_at.ensures)

pub overflow_add-top : goal.overflow_add-top
overflow_add-top c = let w = looking_low _ _ _ _ _ _ c.requires in omega (arith, w.0, (looking_laid _ _ _ _ _ _ _ _ c.requires.0).small, c.colours_at-colours.ensures, c.pairs_at.ensures)

pub enter-requires : goal.enter-requires
enter-requires c = rw c.pairs_at.ensures (looking_entering _ _ _ _ _ _ _ _ _ c.argument-argument.ensures c.find-y.ensures c.requires)

pub returns-then-enter-top : goal.returns-then-enter-top
returns-then-enter-top c = looks_variable_in _ _ _ _ _ _ _ c.argument-argument.result.0 _ c.argument-argument.ensures c.find-y.ensures c.requires.1 ((looking_low _ _ _ _ _ _ c.requires).1 _ c.find-y.ensures.0) (rw c.colours_at-colours.ensures at c.if-seen-ne-UNSEEN.false) (looking_low _ _ _ _ _ _ c.requires).0 _ c.enter.result (rw c.pairs_at.ensures at c.enter.ensures) c.if-enter-top.true

pub returns : goal.returns
returns c = looks_deeper_in _ _ _ _ _ _ _ c.argument-argument.result.0 _ c.argument-argument.ensures c.find-y.ensures c.requires.1 ((looking_low _ _ _ _ _ _ c.requires).1 _ c.find-y.ensures.0) (rw c.colours_at-colours.ensures at c.if-seen-ne-UNSEEN.false) (looking_low _ _ _ _ _ _ c.requires).0 _ c.enter.result (rw c.pairs_at.ensures at c.enter.ensures) c.if-enter-top.false
