-- What lies in the buffers that are lent, what is at hand, and what is counted at first.
use Rattle.std.specs.Prelude.{List, ℕ}
use Rattle.memo.specs.declared.memo.Memo.{Memo}
use Rattle.store.specs.declared.nodes.Store.{Store}
use Rattle.pack_tables.specs.declared.catalog.Catalog.{Catalog}
use Rattle.class_keys.specs.declared.classes.Keying.{Keying}
use Rattle.class_premises.specs.declared.layout.Layout.{Layout}
use Rattle.class_premises.specs.declared.building.Building.{Building}
use Rattle.class_premises.specs.declared.building.Counted.{Counted}

-- the pack's bytes, and the words of the buffers in document 01's order
pub record Buffers : Type 0 where
  -- the bytes of the pack
  pub pack : List ℕ
  -- the words of the steps' classes and the classes' rows
  pub class : List ℕ
  -- the words of all patterns
  pub pattern : List ℕ
  -- the cells of one class's term graph
  pub graph : List ℕ
  -- all tables
  pub work : List ℕ

-- these five
abbrev pub lent : List ℕ → List ℕ → List ℕ → List ℕ → List ℕ → Buffers
lent pack class pattern graph work = record { pack = pack; class = class; pattern = pattern; graph = graph; work = work }

-- these are at hand
abbrev pub handed : Catalog → Keying → Layout → Store → Memo → ℕ → Building
handed c k l st memo fill = record { catalog = c; keying = k; layout = l; store = st; memo = memo; fill = fill }

-- the same places with another store and memo, filled further
abbrev pub onward : Building → Store → Memo → ℕ → Building
onward s st memo fill = handed s.catalog s.keying s.layout st memo fill

-- what figures count of no class, and of a cut one
abbrev pub uncounted : Counted
uncounted = record { vars = 0; flex = 0; fixed = 0; entries = 0; renamings = 0 }
