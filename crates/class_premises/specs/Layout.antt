-- The places of class building's words in work, and that they fit.
use Rattle.std.specs.Prelude.{◌≡◌, List, ℕ, ◌+◌, ◌*◌, ◌/◌, ◌-◌, ◌≤◌, length}
use Rattle.std.proofs.Common.{sym, subst, arith}
use Rattle.base.specs.Part.{part}
use Rattle.term_copy.specs.declared.node.Copying.{Copying}
use Rattle.term_instantiate.specs.declared.terms.Place.{Place}
use Rattle.class_premises.specs.declared.layout.Layout.{Layout}

-- where a copy has its tables
abbrev pub copying_of : Layout → Copying
copying_of l = record { index = l.lifted + 3 * l.nodes; copied = l.copied; walk = l.walk; variables = l.variables; graph = l.graph; end = l.end }

-- where a rule's terms are put
abbrev pub place_of : Layout → ℕ → ℕ → Place
place_of l rule vars = record { rule = rule; vars = vars; at = l.graph; end = l.end }

-- the store's index
abbrev pub index_in : List ℕ → Layout → List ℕ
index_in work l = part (l.lifted + 3 * l.nodes) (l.copied - (l.lifted + 3 * l.nodes)) work

-- what pattern nodes were copied to
abbrev pub memo_in : List ℕ → Layout → List ℕ
memo_in work l = part l.copied (l.walk - l.copied) work

-- the graph's table
abbrev pub table_in : List ℕ → Layout → List ℕ
table_in work l = part l.graph (l.end - l.graph) work

-- where the copies' variables stand in the table, and where they end
abbrev pub copies_at : List ℕ → ℕ
copies_at cells = 11 * length cells + 7

abbrev pub copies_end : List ℕ → ℕ
copies_end cells = 12 * length cells + 7

-- all stand one behind the other, with room for as many pattern nodes as the words can hold and as many graph nodes as the cells can;
-- a class has no more variables than there are cells, or, if it is a cut one, than a predicate can have arguments
pub record Laid (work words cells : List ℕ) (l : Layout) : Type 0 where
  pub index : l.lifted + 3 * l.nodes ≤ l.copied
  pub memo : l.copied + 2 * (length words / 2) ≤ l.walk
  pub stack : l.walk + 2 * (length words / 2) ≤ l.variables
  pub variables : l.variables + (length cells + 16) ≤ l.graph
  pub table : l.graph + copies_end cells ≤ l.end
  pub inside : l.end ≤ length work

-- another work as long
pub laid_on : (work work' words cells : List ℕ) (l : Layout) → length work' ≡ length work → Laid work words cells l → Laid work' words cells l
laid_on work work' words cells l e D = record { index = D.index; memo = D.memo; stack = D.stack; variables = D.variables; table = D.table; inside = omega (arith, e, D.inside) }

-- other words, as many
pub laid_words : (work words words' cells : List ℕ) (l : Layout) → length words' ≡ length words → Laid work words cells l → Laid work words' cells l
laid_words work words words' cells l e D = record {
  index = D.index;
  memo = subst (λ (n : ℕ). l.copied + 2 * (n / 2) ≤ l.walk) (sym e) D.memo;
  stack = subst (λ (n : ℕ). l.walk + 2 * (n / 2) ≤ l.variables) (sym e) D.stack;
  variables = D.variables;
  table = D.table;
  inside = D.inside;
}

-- other cells, as many
pub laid_cells : (work words cells cells' : List ℕ) (l : Layout) → length cells' ≡ length cells → Laid work words cells l → Laid work words cells' l
laid_cells work words cells cells' l e D = record { index = D.index; memo = D.memo; stack = D.stack; variables = omega (arith, e, D.variables); table = omega (arith, e, D.table); inside = D.inside }
