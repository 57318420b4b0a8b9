-- What adding a class comes to in lent buffers, of the definition alone: its patterns are written first, then its row.
use Rattle.std.specs.Prelude.{◌≡◌, List, [], ◌∷◌, ◌++◌, ℕ, ◌+◌, ◌≤◌, ◌<◌, length}
use Rattle.std.proofs.Common.{◌∙◌}
use Rattle.definition.specs.Pack.{Node}
use Rattle.definition.specs.Store.{pattern_words}
use Rattle.definition.specs.Classes.{Class, Built, add_class}
use Rattle.definition.specs.Frame.{fine, refuse}
use Rattle.definition.specs.Answer.{Lent}
use Rattle.definition.specs.Run.{length_of, outcome}
use Rattle.definition.specs.declared.Refusal.TheVariants.{Short}
use Rattle.theory.specs.Making.Runs.{outcome-note, outcome_short, outcome-return-end}

-- how full the class buffer is with one class more
abbrev pub fill_with : Built → Class → ℕ
fill_with b x = b.fill + 3 + length x.flex

-- what is built with one class more
abbrev pub built_with : Built → List Node → Class → Built
built_with b store x = record { store = store; classes = b.classes ++ (x ∷ []); fill = fill_with b x }

module _ (L : Lent) (b : Built) (store : List Node) (x : Class) where
  -- there is no room for its patterns
  pub add_short_patterns : L.pattern < length (pattern_words store) → outcome L (add_class b store x) ≡ refuse (Short 2)
  unfolding add_class length_of
  add_short_patterns h = outcome_short L 2 (length (pattern_words store)) _ h

  -- there is, and none for its row
  pub add_short_row : length (pattern_words store) ≤ L.pattern → L.class < fill_with b x → outcome L (add_class b store x) ≡ refuse (Short 1)
  unfolding add_class length_of
  add_short_row h k = outcome-note L 2 (length (pattern_words store)) _ h ∙ outcome_short L 1 (fill_with b x) _ k

  -- there is room for both
  pub add_fine : length (pattern_words store) ≤ L.pattern → fill_with b x ≤ L.class → outcome L (add_class b store x) ≡ fine (built_with b store x)
  unfolding add_class length_of
  add_fine h k = outcome-note L 2 (length (pattern_words store)) _ h ∙ outcome-note L 1 (fill_with b x) _ k ∙ outcome-return-end L (built_with b store x)
