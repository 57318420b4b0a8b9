-- A frame's pattern: whether it was copied before, and how many nodes stand below it.
use Rattle.std.specs.Prelude.{Option, Some, None, refl, is_some as has_some}
use Rattle.std.specs.Prelude.{◌≡◌, Bool, true, false, List, ℕ, ◌-◌, eqb, length, get_or}
use Rattle.std.proofs.Math.Path.{sym, ap}
use Rattle.std.proofs.Common.{◌∙◌, eq-eqb, ne_eqb, length-drop}
use Rattle.std.proofs.Math.Option.{none, some}
use Rattle.definition.specs.Test.{◌and◌}
use Rattle.definition.specs.Store.{is_variable, variable_head, below}
use Rattle.definition.specs.Classes.{is_some}
use Rattle.store.specs.Words.{node_with}
use Rattle.memo.specs.Recall.{known}
use Rattle.memo.specs.declared.memo.Memo.{Memo}
use Rattle.term_copy.specs.declared.node.Copying.{Copying}
use Rattle.term_copy.specs.Places.{value_in}

-- a frame that has taken is not passed
pub passes-not : (taken : ℕ) (b : Bool) → (taken ≡ 0 → ⊥) → false ≡ (eqb taken 0 and b)
unfolding ◌and◌
passes-not taken b h = rw (ne_eqb taken 0 h, ◌and◌)

-- a memo has what it is known for
known_some : (r : Option ℕ) → has_some r ≡ is_some (known r)
unfolding is_some
known_some (Some v) = refl
known_some None = refl

-- a new one is just if the memo has its pattern
module _ (work : List ℕ) (l : Copying) (memo : Memo) (p taken : ℕ) (r : Option ℕ) (z : taken ≡ 0) (e : known r ≡ value_in work l memo p) where
  -- it has
  pub passes_some : (v : ℕ) → r ≡ Some v → true ≡ (eqb taken 0 and is_some (value_in work l memo p))
  unfolding ◌and◌ is_some
  passes_some v f = let g : value_in work l memo p ≡ some v = sym e ∙ ap known f in rw (eq-eqb taken 0 z, g)

  -- it has not
  pub passes_none : r ≡ None → false ≡ (eqb taken 0 and is_some (value_in work l memo p))
  unfolding ◌and◌ is_some
  passes_none f = let g : value_in work l memo p ≡ none = sym e ∙ ap known f in rw (eq-eqb taken 0 z, g)

  -- whether it has
  pub passes_new : has_some r ≡ (eqb taken 0 and is_some (value_in work l memo p))
  unfolding ◌and◌
  passes_new = rw (eq-eqb taken 0 z, ← e) (known_some r)

-- ---- how many nodes stand below a key's
-- below a variable's there is none
pub kids-variable : (key : List ℕ) → get_or key 0 0 ≡ variable_head → 0 ≡ length (below (node_with key))
unfolding below node_with is_variable
kids-variable key e = let f = eq-eqb (get_or key 0 0) variable_head e in rw (f, below)

-- an application's arguments
pub kids-applied : (key : List ℕ) → (get_or key 0 0 ≡ variable_head → ⊥) → length key - 1 ≡ length (below (node_with key))
unfolding below node_with is_variable
kids-applied key e = let f = ne_eqb (get_or key 0 0) variable_head e in rw (f, below) (sym (length-drop 1 key))
