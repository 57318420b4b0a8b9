-- An instance and a copy unified in the graph's table, and the copy's variables noted behind it.
use Rattle.std.specs.Prelude.{Result, Ok, Err}
use Rattle.std.specs.Prelude.{◌≡◌, List, ◌++◌, ℕ, ◌+◌, ◌-◌, ◌≤◌, ◌<◌, length}
use Rattle.std.proofs.Common.{sym, ap, ap₂, ◌∙◌, subst, arith}
use Rattle.std.proofs.Math.Option.{none, some}
use Rattle.definition.specs.Graph.{Graph, Unified, unify}
use Rattle.base.specs.Lent.{back as lent_back, back-first, back_outside as lent_outside}
use Rattle.base.specs.Part.{part, put, part_at, length_part, part-put-before}
use Rattle.base.specs.Outside.{Outside, outside_then, outside_wider, part-behind}
use Rattle.definition.specs.declared.Refusal.TheVariants.{Clash as Clashes}
use Rattle.graph.specs.declared.graph.Graph.{Graph as Counts}
use Rattle.graph.specs.Cells.{rows_end, Shows, SameRows, shows_rows, Unchanged}
use Rattle.graph.specs.Stack.{pairs_end}
use Rattle.theory.specs.Unification.Inner.{Inner}
use Rattle.graph.specs.Inner.{HoldsInner}
use Rattle.graph_unify.specs.Unifies.{Unifies}
use Rattle.class_premises.specs.declared.layout.Layout.{Layout}
use Rattle.class_premises.specs.declared.premise.Premise.{Premise}
use Rattle.class_premises.specs.declared.premise.Fresh.{Fresh}
use Rattle.class_premises.specs.Layout.{table_in, copies_at, copies_end}
use Rattle.class_premises.specs.Noted.{said, Room, Notes}
use Rattle.base.specs.declared.id.Node.{Node as Id}
use Rattle.class_premises.specs.declared.premise.Reached.{Reached}
use Rattle.definition.specs.declared.Refusal.{Refusal}

-- the words of a copy's variables
abbrev pub variables_in : List ℕ → Layout → ℕ → List ℕ
variables_in work l n = part l.variables n work

-- the first k variables of all copies
abbrev pub copies_in : List ℕ → List ℕ → Layout → ℕ → List ℕ
copies_in work cells l k = part (l.graph + copies_at cells) k work

-- what is asked: two nodes of the graph held, and room for the variables that the words say
pub record Joining (work cells : List ℕ) (l : Layout) (g : Counts) (x y n copies : ℕ) : Type 0 where
  pub variables : l.variables + n ≤ l.graph
  pub table : l.graph + copies_end cells ≤ l.end
  pub inside : l.end ≤ length work
  pub graph : Graph
  pub shows : Shows cells (table_in work l) g graph
  pub inner : Inner graph
  pub left : x < g.nodes
  pub right : y < g.nodes
  pub room : copies + length (said (variables_in work l n)) ≤ length cells

-- the variables that the words say stand behind those noted before
pub record Noted (work work' cells : List ℕ) (l : Layout) (n copies k : ℕ) : Type 0 where
  pub outside : Outside l.graph l.end work work'
  pub list : copies_in work' cells l k ≡ copies_in work cells l copies ++ said (variables_in work l n)
  pub many : k ≡ copies + length (said (variables_in work l n))

-- what is answered: the two unified in whatever graph is held, and the variables noted; or that they clash
abbrev pub JoinsTo : List ℕ → List ℕ → List ℕ → Layout → Counts → Premise → Fresh → ℕ → ℕ → Result (Reached × Id) Refusal → Type 0
JoinsTo work work' cells l g p f x to (Ok (t, z)) =
    (t.graph ≡ g) × (t.memo ≡ f.memo) × (z.0 ≡ x) × (t.from ≡ to) × Noted work work' cells l f.variables p.copies t.copies
    × ((h : Graph) → Shows cells (table_in work l) g h → Inner h → (h' : Graph) × ((unify h x f.node.0).graph ≡ some h') × Shows cells (table_in work' l) g h' × Inner h')
JoinsTo work work' cells l g p f x to (Err z) = (z ≡ Clashes p.step) × ((h : Graph) → Shows cells (table_in work l) g h → Inner h → (unify h x f.node.0).graph ≡ none)

-- rows that stand ahead of what was written are as they were
pub rows_outside : (work work' cells : List ℕ) (l : Layout) (a e : ℕ) → Outside a e work work' → l.graph + rows_end cells ≤ a → l.graph + rows_end cells ≤ l.end → l.end ≤ length work → SameRows cells (table_in work l) (table_in work' l)
rows_outside work work' cells l a e O low fits inside =
    let n : ℕ = l.end - l.graph in
    let m = length_part l.graph n work (omega arith) in
    let m' = length_part l.graph n work' (omega (arith, O.long)) in
    record { long = m' ∙ sym m; rows = λ i h. part_at l.graph n work' i (omega arith) ∙ O.ahead (l.graph + i) (omega arith) ∙ sym (part_at l.graph n work i (omega arith)) }

module _ (work cells : List ℕ) (l : Layout) (g : Counts) (x y n copies : ℕ) (J : Joining work cells l g x y n copies) where
  -- the table fits
  fit : l.graph + (l.end - l.graph) ≤ length work
  fit = omega (arith, J.table, J.inside)

  pub table_long : length (table_in work l) ≡ l.end - l.graph
  table_long = length_part l.graph (l.end - l.graph) work fit

  -- the pairs have room in it
  pub pairs_room : pairs_end cells ≤ length (table_in work l)
  pairs_room = omega (arith, table_long, J.table)

  pub holds : HoldsInner cells (table_in work l) g
  holds = (J.graph, J.shows, J.inner)

  -- ---- the table came back
  module _ (table' : List ℕ) (U : Unchanged (pairs_end cells) (table_in work l) table') where
    abbrev back : List ℕ
    back = put l.graph (l.end - l.graph) table' work

    as_long : length table' ≡ l.end - l.graph
    as_long = U.long ∙ table_long

    pub table-back : table_in back l ≡ table'
    table-back = lent_back l.graph l.end work table' (omega (arith, J.table)) J.inside U.long

    pub back_outside : Outside l.graph l.end work back
    back_outside = lent_outside l.graph l.end work table' (omega (arith, J.table)) J.inside U.long

    -- the copy's words are as they were
    pub back_variables : variables_in back l n ≡ variables_in work l n
    back_variables = part-put-before l.graph (l.end - l.graph) work fit table' as_long l.variables n J.variables

    -- and what was noted
    back_copies : copies_in back cells l copies ≡ copies_in work cells l copies
    back_copies =
        part-behind l.graph (l.graph + pairs_end cells) work back (back-first l.graph l.end work table' (omega (arith, J.table)) J.inside U.long (pairs_end cells) U.words) (l.graph + copies_at cells) copies (omega arith)
        (omega (arith, J.room, J.table, J.inside))

    -- the variables are noted there
    pub notes-room : Room back l.variables n (l.graph + copies_at cells) copies
    notes-room = record { ahead = omega (arith, J.variables); room = omega (arith, J.room, ap (λ (xs : List ℕ). length (said xs)) back_variables, J.table, J.inside, back_outside.long) }

    module _ (work' : List ℕ) (k : ℕ) (N : Notes back work' l.variables n (l.graph + copies_at cells) copies k) where
      noted-many : k ≡ copies + length (said (variables_in work l n))
      noted-many = N.2 ∙ ap (λ (xs : List ℕ). copies + length (said xs)) back_variables

      pub joins_noted : Noted work work' cells l n copies k
      joins_noted = record {
        outside =
            outside_then l.graph l.end work back work' back_outside
            (outside_wider (l.graph + copies_at cells + copies) (l.graph + copies_at cells + k) l.graph l.end back work' (omega arith) (omega (arith, noted-many, J.room, J.table)) N.0);
        list = N.1 ∙ ap₂ (λ (xs ys : List ℕ). xs ++ said ys) back_copies back_variables;
        many = noted-many;
      }

      rows : SameRows cells table' (table_in work' l)
      rows =
          subst (λ (t : List ℕ). SameRows cells t (table_in work' l)) table-back
          (rows_outside back work' cells l (l.graph + copies_at cells + copies) (l.graph + copies_at cells + k) N.0 (omega arith) (omega (arith, J.table)) (omega (arith, J.inside, back_outside.long)))

      pub joins_on : (m : ℕ) → Unifies cells (table_in work l) table' g x y (Ok m) → (h : Graph) → Shows cells (table_in work l) g h → Inner h → (h' : Graph) × ((unify h x y).graph ≡ some h') × Shows cells (table_in work' l) g h' × Inner h'
      joins_on m W h S I =
          let u = W.0 h S I in
          (u.0, ap (λ (v : Unified). v.graph) u.1, shows_rows cells table' (table_in work' l) g u.0 rows u.2, u.3)

pub joins_clash : (work cells : List ℕ) (l : Layout) (g : Counts) (x y m : ℕ) (table' : List ℕ) → Unifies cells (table_in work l) table' g x y (Err m) → (h : Graph) → Shows cells (table_in work l) g h → Inner h → (unify h x y).graph ≡ none
joins_clash work cells l g x y m table' W h S I = ap (λ (v : Unified). v.graph) (W.0 h S I)
