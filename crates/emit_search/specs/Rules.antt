-- The rules of a predicate by their chain.
use Rattle.std.specs.Prelude.{List, ℕ, ◌<◌, length, get_or}
use Rattle.definition.specs.Pack.{no_node}
use Rattle.store.specs.Stored.{Stored, nodes}
use Rattle.store.specs.declared.nodes.Store.{Store}
use Rattle.emit_state.specs.Places.{index_in}
use Rattle.emit_state.specs.declared.places.Places.{Places}

abbrev pub head_in : List ℕ → Store → ℕ → ℕ
head_in words st j = (get_or (nodes words st) j no_node).head

-- the head of pattern j can be asked for, and has a chain
pub record Headed (work words : List ℕ) (l : Places) (st : Store) (j : ℕ) : Type 0 where
  pub stored : Stored (index_in work l) words st
  pub below : j < length (nodes words st)
  pub head : head_in words st j < l.hand.catalog.cap
