-- What stands on the stack and in the graph while a rule's term is put there, word by word from the last one on.
use Rattle.std.specs.Prelude.{Option, Some, None}
use Rattle.std.specs.Prelude.{◌≡◌, List, ℕ, suc, ◌+◌, ◌-◌, ◌≤◌, ◌<◌, length, get_or, drop}
use Rattle.std.proofs.Common.{arith}
use Rattle.definition.specs.Pack.{Term, nil, cons, Pack, rule_of}
use Rattle.definition.specs.Good.{Sorted, Below}
use Rattle.definition.specs.Graph.{Graph, cells as cells_of}
use Rattle.definition.specs.Analysis.{GrownAll, instantiate, instantiate_all}
use Rattle.definition.proofs.Laws.Prefix.{term_words}
use Rattle.base.specs.Outside.{Outside}
use Rattle.base.specs.Part.{part}
use Rattle.pack_tables.specs.SameTables.{Same, end_of}
use Rattle.pack_tables.specs.Catalog.{records_of}
use Rattle.pack_tables.specs.declared.catalog.Catalog.{Catalog}
use Rattle.pack_read.specs.Reads.{Reads, rule_words}
use Rattle.pack_read.specs.Held.{Proper, Held}
use Rattle.graph.specs.declared.graph.Graph.{Graph as Counts}
use Rattle.graph.specs.Cells.{rows_end, Shows}
use Rattle.theory.specs.Unification.Inner.{Inner}
use Rattle.term_instantiate.specs.declared.terms.Place.{Place}
use Rattle.definition.proofs.Laws.Suffix.{after}
use Rattle.base.specs.declared.id.Node.{Node as Id}

-- a term of a rule, whose words are the rule's from one place to another
pub record Spells (P : Pack) (r vars from to : ℕ) (t : Term) : Type 0 where
  pub rule : r < length P.rules
  pub many : vars ≡ length (rule_of P r).vars
  pub words : (j : ℕ) → j < length (term_words t) → get_or (rule_words (rule_of P r)) (from + j) 0 ≡ get_or (term_words t) j 0
  pub long : to ≡ from + length (term_words t)
  pub within : to ≤ length (rule_words (rule_of P r))
  pub few : length (term_words t) ≤ 256
  pub sort : ℕ
  pub sorted : Sorted P (rule_of P r).vars t sort

-- the graph's table
abbrev pub table_in : List ℕ → Place → List ℕ
table_in work l = part l.at (l.end - l.at) work

-- it stands behind the catalog's, and has a row for as many nodes as there are cells
pub record Room (work cells : List ℕ) (c : Catalog) (l : Place) : Type 0 where
  pub behind : end_of c ≤ l.at
  pub fits : l.at + rows_end cells ≤ l.end
  pub within : l.end ≤ length work

-- beside its rows nothing changes
abbrev pub Beside : List ℕ → List ℕ → List ℕ → Place → Type 0
Beside work work' cells l = Outside l.at (l.at + rows_end cells) work work'

-- so the pack is held still
pub beside_same : (work work' cells : List ℕ) (c : Catalog) (l : Place) → Room work cells c l → Beside work work' cells l → Same work work' c
beside_same work work' cells c l R O = record { long = O.long; words = λ i h. O.ahead i (omega (arith, R.behind)) }

-- the terms behind j words of t, and their nodes in a graph
abbrev pub nodes_of : Term → List ℕ → Graph → ℕ → GrownAll
nodes_of t env h j = instantiate_all (after (cons t nil) j) env h

-- ---- the words behind the first j were taken: their terms' nodes stand on the stack, and the graph has them
pub record Built (t : Term) (env : List ℕ) (h : Graph) (work cells stack : List ℕ) (l : Place) (g : Counts) (top j : ℕ) : Type 0 where
  pub shows : Shows cells (table_in work l) g (nodes_of t env h j).graph
  pub inner : Inner (nodes_of t env h j).graph
  pub inside : Below (length (nodes_of t env h j).graph) (nodes_of t env h j).ats
  pub nodes : Below (length (nodes_of t env h j).graph) env
  pub high : top + length (nodes_of t env h j).ats ≡ 256
  pub stacked : drop top stack ≡ (nodes_of t env h j).ats

-- what a word asks
pub record Taking (bytes work cells : List ℕ) (c : Catalog) (l : Place) (g : Counts) (env stack : List ℕ) (top i : ℕ) : Type 0 where
  pub held : Held bytes work c
  pub room : Room work cells c l
  pub term : Term
  pub from : ℕ
  pub to : ℕ
  pub spells : Spells held.pack l.rule l.vars from to term
  pub graph : Graph
  pub word : ℕ
  pub place : i ≡ from + word
  pub there : word < length (term_words term)
  pub env_long : l.vars ≤ length env
  pub stack_long : length stack ≡ 256
  pub built : Built term env graph work cells stack l g top (suc word)

-- the word is one of the rule's
pub asked-word : (bytes work cells : List ℕ) (c : Catalog) (l : Place) (g : Counts) (env stack : List ℕ) (top i : ℕ) → (T : Taking bytes work cells c l g env stack top i) → i < length (rule_words (rule_of T.held.pack l.rule))
asked-word bytes work cells c l g env stack top i T = omega (arith, T.place, T.there, T.spells.long, T.spells.within)

-- what it answers
abbrev pub Takes : List ℕ → List ℕ → List ℕ → List ℕ → List ℕ → Catalog → Place → Counts → List ℕ → List ℕ → List ℕ → ℕ → ℕ → Option (ℕ × Counts) → Type 0
Takes bytes work work' cells cells' c l g env stack stack' top i (Some (top', g')) =
    Beside work work' cells l
    × ((P : Pack) → Reads bytes (records_of work c) P → Proper P → (t : Term) (from to j : ℕ) → Spells P l.rule l.vars from to t → i ≡ from + j → j < length (term_words t) → (h : Graph)
    → Built t env h work cells stack l g top (suc j) → Built t env h work' cells' stack' l g' top' j)
Takes bytes work work' cells cells' c l g env stack stack' top i None =
    (P : Pack) → Reads bytes (records_of work c) P → Proper P → (t : Term) (from to j : ℕ) → Spells P l.rule l.vars from to t → i ≡ from + j → j < length (term_words t) → (h : Graph)
    → Built t env h work cells stack l g top (suc j) → length cells < cells_of (nodes_of t env h j).graph

-- ---- what the term asks, and what it comes to
pub record Asked (bytes work cells : List ℕ) (c : Catalog) (l : Place) (g : Counts) (env : List ℕ) (from to : ℕ) : Type 0 where
  pub held : Held bytes work c
  pub room : Room work cells c l
  pub term : Term
  pub spells : Spells held.pack l.rule l.vars from to term
  pub graph : Graph
  pub shows : Shows cells (table_in work l) g graph
  pub inner : Inner graph
  pub nodes : Below (length graph) env
  pub env_long : l.vars ≤ length env

abbrev pub Instantiates : List ℕ → List ℕ → List ℕ → List ℕ → List ℕ → Catalog → Place → Counts → List ℕ → ℕ → ℕ → Option (Id × Counts) → Type 0
Instantiates bytes work work' cells cells' c l g env from to (Some (x, g')) =
    Beside work work' cells l
    × ((P : Pack) → Reads bytes (records_of work c) P → Proper P → (t : Term) → Spells P l.rule l.vars from to t → (h : Graph) → Shows cells (table_in work l) g h → Inner h → Below (length h) env
    → (x.0 ≡ (instantiate t env h).at) × Shows cells' (table_in work' l) g' (instantiate t env h).graph × Inner (instantiate t env h).graph × (x.0 < length (instantiate t env h).graph))
Instantiates bytes work work' cells cells' c l g env from to None =
    (P : Pack) → Reads bytes (records_of work c) P → Proper P → (t : Term) → Spells P l.rule l.vars from to t → (h : Graph) → Shows cells (table_in work l) g h → Inner h → Below (length h) env
    → length cells < cells_of (instantiate t env h).graph
