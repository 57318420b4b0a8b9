-- The places of class building's words, and that they fit into work.
use Rattle.std.specs.Prelude.{◌≡◌, List, ℕ, ◌+◌, ◌*◌, ◌/◌, ◌≤◌, length}
use Rattle.pack_tables.specs.declared.catalog.Catalog.{Catalog}
use Rattle.pack_reader.specs.Marks.{marks_at}
use Rattle.class_keys.specs.ClassWords.{end_of}
use Rattle.class_keys.specs.declared.classes.Keying.{Keying}
use Rattle.class_premises.specs.declared.layout.Layout.{Layout}
use Rattle.class_premises.specs.Standing.{Placed}

-- the keys behind the tables and their marks
abbrev pub keying_of : Catalog → Keying
keying_of c = record { at = marks_at c + c.cap; cap = c.cap }

-- how many words stand behind the keys
abbrev pub behind_keys : List ℕ → List ℕ → Keying → ℕ → ℕ
behind_keys words cells k nodes = k.cap + 3 * nodes + (8 * (length words / 2) + 1) + (13 * length cells + 23)

-- there is room for all
pub record Roomy (work words cells : List ℕ) (k : Keying) (nodes : ℕ) : Type 0 where
  pub room : end_of k + behind_keys words cells k nodes ≤ length work

-- what `layout` answers: all places, with an index as long as a store asks for
pub record Places (work words cells : List ℕ) (k : Keying) (n : ℕ) (l : Layout) : Type 0 where
  pub placed : Placed work words cells k l
  pub nodes : l.nodes ≡ n
  pub index : l.lifted + 3 * l.nodes + (4 * (length words / 2) + 1) ≤ l.copied
  pub behind : l.copied ≤ end_of k + k.cap + 3 * n + (4 * (length words / 2) + 1)
