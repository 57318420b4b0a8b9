-- One premise as a whole: a fresh copy of its ref's conclusion, then the instance unified with it.
use Rattle.std.specs.Prelude.{Option, Some, None, Result, Ok, Err}
use Rattle.std.specs.Prelude.{◌≡◌, refl, ◌⊎◌, Bool, List, ◌++◌, ℕ, ◌+◌, ◌*◌, ◌-◌, ◌≤◌, ◌<◌, length, get_or, take, drop}
use Rattle.std.proofs.Common.{sym, ap, ap₂, ◌∙◌, subst, inl, inr, arith}
use Rattle.std.proofs.Math.Option.{none, some}
use Rattle.definition.specs.Pack.{Term, Node, Pack}
use Rattle.definition.specs.Good.{Below}
use Rattle.definition.proofs.Laws.Grow.{below_more}
use Rattle.definition.specs.Graph.{Graph, up_to, Unified, unify, cells as cells_of}
use Rattle.definition.specs.Analysis.{Copy, copied, copy, instantiate}
use Rattle.definition.specs.Classes.{in_order}
use Rattle.definition.proofs.Laws.Prefix.{term_words}
use Rattle.definition.specs.declared.Refusal.TheVariants.{Clash as Clashes, Short as TooShort}
use Rattle.base.specs.Part.{part, length_part, part-lent}
use Rattle.base.specs.Outside.{Outside, outside_then, outside_wider, part-ahead, part-behind}
use Rattle.base.specs.declared.id.Node.{Node as Id}
use Rattle.store.specs.Stored.{Stored, nodes}
use Rattle.memo.specs.Recall.{Remembers}
use Rattle.memo.specs.declared.memo.Memo.{Memo}
use Rattle.store.specs.declared.nodes.Store.{Store}
use Rattle.pack_tables.specs.SameTables.{end_of, Same}
use Rattle.pack_tables.specs.Catalog.{records_of}
use Rattle.pack_tables.specs.declared.catalog.Catalog.{Catalog}
use Rattle.pack_read.specs.Reads.{Reads}
use Rattle.pack_read.specs.Held.{Held, OfHeld, held_on, reads_on}
use Rattle.graph.specs.declared.graph.Graph.{Graph as Counts}
use Rattle.graph.specs.Cells.{rows_end, nodes_few, Shows, marks_in}
use Rattle.theory.specs.Unification.Inner.{Inner}
use Rattle.graph.specs.Inner.{HoldsInner, many-nodes}
use Rattle.theory.specs.Copies.Terms.{Patterns}
use Rattle.term_copy.specs.Held.{Given, Made, Copies}
use Rattle.class_premises.specs.declared.layout.Layout.{Layout}
use Rattle.class_premises.specs.declared.premise.Premise.{Premise}
use Rattle.class_premises.specs.declared.building.Building.{Building}
use Rattle.class_premises.specs.Buffers.{Buffers}
use Rattle.class_premises.specs.Layout.{copying_of, index_in, memo_in, table_in, copies_at, Laid}
use Rattle.class_premises.specs.Noted.{said}
use Rattle.class_premises.specs.Copied.{copied_inside, copy-longer, copy_variables, in_order_few, in_order_said}
use Rattle.class_premises.specs.Joins.{variables_in, copies_in}
use Rattle.class_premises.specs.Meets.{SpellsAt, Meeting, meets, MeetsTo, instantiate_cells}
use Rattle.class_premises.specs.declared.premise.Reached.{Reached}
use Rattle.definition.specs.declared.Refusal.{Refusal}

-- where the row of step f's class stands
abbrev pub row_in : (work class : List ℕ) (l : Layout) (f : ℕ) → ℕ
row_in work class l f = get_or work (l.rows + get_or class f 0) 0

-- a row's conclusion, how many variables it has, and their marks
abbrev pub conclusion_in : List ℕ → ℕ → ℕ
conclusion_in class row = get_or class row 0

abbrev pub count_in : List ℕ → ℕ → ℕ
count_in class row = get_or class (row + 2) 0

abbrev pub flex_in : List ℕ → ℕ → List ℕ
flex_in class row = part (row + 3) (count_in class row) class

-- a row that stands in the class buffer, of a conclusion that the store has, with no more variables than there are words for
pub record Row (class words cells : List ℕ) (st : Store) (row : ℕ) : Type 0 where
  pub inside : row + 3 + count_in class row ≤ length class
  pub few : count_in class row ≤ length cells + 16
  pub stored : conclusion_in class row < length (nodes words st)

-- the store, a memo and a graph are held, and there is such a row
pub record Copying (work class words cells : List ℕ) (l : Layout) (st : Store) (memo : Memo) (g : Counts) (row : ℕ) : Type 0 where
  pub laid : Laid work words cells l
  pub stored : Stored (index_in work l) words st
  pub patterns : Patterns (nodes words st)
  pub remembers : Remembers (memo_in work l) memo
  pub graph : HoldsInner cells (table_in work l) g
  pub stands : Row class words cells st row

-- what is answered
abbrev pub CopiesTo : List ℕ → List ℕ → List ℕ → List ℕ → List ℕ → List ℕ → Layout → Store → Counts → ℕ → Option (Id × Counts × Memo) → Type 0
CopiesTo work work' class words cells cells' l st g row r = Copies work work' words cells cells' (flex_in class row) (copying_of l) st g (conclusion_in class row) r

-- what is asked of a premise: a pack held, one of its terms, a graph that has the rule's variables, and the row of its ref's class
pub record Taking (bytes work class words cells : List ℕ) (c : Catalog) (l : Layout) (st : Store) (memo : Memo) (g : Counts) (env : List ℕ) (p : Premise) : Type 0 where
  pub held : Held bytes work c
  pub behind : end_of c ≤ l.lifted
  pub laid : Laid work words cells l
  pub stored : Stored (index_in work l) words st
  pub patterns : Patterns (nodes words st)
  pub remembers : Remembers (memo_in work l) memo
  pub stands : Row class words cells st p.row
  pub term : Term
  pub spells : SpellsAt held.pack p term
  pub graph : Graph
  pub shows : Shows cells (table_in work l) g graph
  pub inner : Inner graph
  pub nodes-env : Below (length graph) env
  pub env_long : p.vars ≤ length env
  pub copies : p.copies ≤ g.nodes

-- a fresh copy of a conclusion, the graph with the premise's instance beside it, and both unified
abbrev pub fresh_of : List Node → List Bool → ℕ → Graph → Copy
fresh_of s flex p h = copy s flex h p

abbrev pub placed_of : List Node → List Bool → ℕ → List ℕ → Term → Graph → Graph
placed_of s flex p env t h = (instantiate t env (fresh_of s flex p h).graph).graph

abbrev pub joined_of : List Node → List Bool → ℕ → List ℕ → Term → Graph → Unified
joined_of s flex p env t h = unify (placed_of s flex p env t h) (instantiate t env (fresh_of s flex p h).graph).at (copied (fresh_of s flex p h).nodes p)

-- the same of a row
abbrev pub fresh_in : List ℕ → List ℕ → Store → ℕ → Graph → Copy
fresh_in class words st row h = fresh_of (nodes words st) (marks_in (flex_in class row)) (conclusion_in class row) h

abbrev pub placed_in : List ℕ → List ℕ → Store → ℕ → List ℕ → Term → Graph → Graph
placed_in class words st row env t h = placed_of (nodes words st) (marks_in (flex_in class row)) (conclusion_in class row) env t h

abbrev pub joined_in : List ℕ → List ℕ → Store → ℕ → List ℕ → Term → Graph → Unified
joined_in class words st row env t h = joined_of (nodes words st) (marks_in (flex_in class row)) (conclusion_in class row) env t h

-- of whatever pack, term and graph are held
abbrev pub Says : List ℕ → List ℕ → List ℕ → Catalog → Layout → Counts → List ℕ → Premise → (Term → Graph → Type 0) → Type 0
Says bytes work cells c l g env p F = OfHeld bytes work c (λ P. (t : Term) → SpellsAt P p t → (h : Graph) → Shows cells (table_in work l) g h → Inner h → Below (length h) env → F t h)

-- the graph then, the instance in it, the word behind the premise, and the copy's variables behind those noted before
pub record Took (work work' class words cells cells' : List ℕ) (l : Layout) (st : Store) (g' : Counts) (env : List ℕ) (p : Premise) (x to k : ℕ) (t : Term) (h : Graph) : Type 0 where
  pub graph : Graph
  pub unified : (joined_in class words st p.row env t h).graph ≡ some graph
  pub shows : Shows cells' (table_in work' l) g' graph
  pub inner : Inner graph
  pub instance : x ≡ (instantiate t env (fresh_in class words st p.row h).graph).at
  pub node : x < g'.nodes
  pub word : to ≡ p.from + length (term_words t)
  pub room : cells_of (placed_in class words st p.row env t h) ≤ length cells
  pub copies : copies_in work' cells l k ≡ copies_in work cells l p.copies ++ in_order (up_to (count_in class p.row)) (fresh_in class words st p.row h).variables

-- the two clash
abbrev pub Clashing : List ℕ → List ℕ → List ℕ → List ℕ → List ℕ → Catalog → Layout → Store → Counts → List ℕ → Premise → Type 0
Clashing bytes work class words cells c l st g env p =
    Says bytes work cells c l g env p (λ t h. ((joined_in class words st p.row env t h).graph ≡ none) × (cells_of (placed_in class words st p.row env t h) ≤ length cells))

-- the cells have no room for them
abbrev pub Crowded : List ℕ → List ℕ → List ℕ → List ℕ → List ℕ → Catalog → Layout → Store → Counts → List ℕ → Premise → Type 0
Crowded bytes work class words cells c l st g env p = Says bytes work cells c l g env p (λ t h. length cells < cells_of (placed_in class words st p.row env t h))

-- what is answered
abbrev pub TakesTo : List ℕ → List ℕ → List ℕ → List ℕ → List ℕ → List ℕ → List ℕ → Catalog → Layout → Store → Counts → List ℕ → Premise → Result (Reached × Id) Refusal → Type 0
TakesTo bytes work work' class words cells cells' c l st g env p (Ok (t, x)) =
    Outside l.copied l.end work work' × Remembers (memo_in work' l) t.memo × (t.copies ≤ t.graph.nodes) × (g.nodes ≤ t.graph.nodes)
    × Says bytes work cells c l g env p (λ a h. Took work work' class words cells cells' l st t.graph env p x.0 t.from t.copies a h)
TakesTo bytes work work' class words cells cells' c l st g env p (Err z) =
    ((z ≡ Clashes p.step) × Clashing bytes work class words cells c l st g env p) ⊎ ((z ≡ TooShort 3) × Crowded bytes work class words cells c l st g env p)

-- both of buffers that are lent, and what is at hand
abbrev pub TakingIn : Buffers → Building → Memo → Counts → List ℕ → Premise → Type 0
TakingIn B s memo g env p = Taking B.pack B.work B.class B.pattern B.graph s.catalog s.layout s.store memo g env p

abbrev pub TakesIn : Buffers → Buffers → Building → Counts → List ℕ → Premise → Result (Reached × Id) Refusal → Type 0
TakesIn B B' s g env p r = TakesTo B.pack B.work B'.work B.class B.pattern B.graph B'.graph s.catalog s.layout s.store g env p r

-- the marks are as many as the row says
flex_long : (class words cells : List ℕ) (st : Store) (row : ℕ) → Row class words cells st row → length (flex_in class row) ≡ count_in class row
flex_long class words cells st row R = length_part (row + 3) (count_in class row) class R.inside

-- as they are lent
pub flex_lent : (class : List ℕ) (row n : ℕ) → n ≡ count_in class row → take (row + 3 + n - (row + 3)) (drop (row + 3) class) ≡ flex_in class row
flex_lent class row n e = part-lent (row + 3) (row + 3 + n) n class refl ∙ ap (λ (m : ℕ). part (row + 3) m class) e

-- so the copy has its room
pub copying_given : (work class words cells : List ℕ) (l : Layout) (st : Store) (memo : Memo) (g : Counts) (row : ℕ) → Copying work class words cells l st memo g row → Given work words cells (flex_in class row) (copying_of l) st memo g
copying_given work class words cells l st memo g row C = record {
  laid = record {
    index = C.laid.index;
    table = C.laid.memo;
    stack = C.laid.stack;
    marks = omega (arith, C.laid.variables, flex_long class words cells st row C.stands, C.stands.few);
    rows = omega (arith, C.laid.table);
    inside = C.laid.inside;
  };
  stored = C.stored;
  patterns = C.patterns;
  remembers = C.remembers;
  graph = C.graph;
}

module _ (bytes work class words cells : List ℕ) (c : Catalog) (l : Layout) (st : Store) (memo : Memo) (g : Counts) (env : List ℕ) (p : Premise) (T : Taking bytes work class words cells c l st memo g env p) where
  abbrev n : ℕ
  n = count_in class p.row

  pub taking_copying : Copying work class words cells l st memo g p.row
  taking_copying = record { laid = T.laid; stored = T.stored; patterns = T.patterns; remembers = T.remembers; graph = (T.graph, T.shows, T.inner); stands = T.stands }

  -- the copy alone has too many cells
  pub takes-full : (work₁ cells₁ : List ℕ) → CopiesTo work work₁ class words cells cells₁ l st g p.row None → TakesTo bytes work work₁ class words cells cells₁ c l st g env p (Err (TooShort 3))
  takes-full work₁ cells₁ C =
      inr (
        refl,
        λ P R Q t S h H I b.
            let fresh = fresh_in class words st p.row h in
            omega (arith, C.0 h H I, instantiate_cells t env fresh.graph),
      )

  -- it is there
  module _ (y : Id) (g₁ : Counts) (memo₁ : Memo) (work₁ cells₁ : List ℕ) (C : CopiesTo work work₁ class words cells cells₁ l st g p.row (Some (y, g₁, memo₁))) (long : length cells₁ ≡ length cells) where
    outside : Outside l.copied (l.graph + rows_end cells) work work₁
    outside = C.2

    made : (h : Graph) → Shows cells (table_in work l) g h → Inner h → Made work₁ cells₁ (flex_in class p.row) (copying_of l) g₁ y.0 (conclusion_in class p.row) (fresh_in class words st p.row h)
    made h H I = C.0 h H I

    same : Same work work₁ c
    same = record { long = outside.long; words = λ i h. outside.ahead i (omega (arith, T.behind, T.laid.index)) }

    abbrev now-held : Held bytes work₁ c
    now-held = held_on bytes work work₁ c same T.held

    -- what the copy's words say
    words_say : (h : Graph) → Shows cells (table_in work l) g h → Inner h → said (variables_in work₁ l n) ≡ in_order (up_to n) (fresh_in class words st p.row h).variables
    words_say h H I =
        in_order_said work₁ l.variables (fresh_in class words st p.row h).variables n (omega (arith, T.laid.variables, T.stands.few, T.laid.table, T.laid.inside, outside.long))
        (λ k m. (made h H I).variables k (omega (arith, flex_long class words cells st p.row T.stands)))

    module _ (h : Graph) (H : Shows cells (table_in work l) g h) (I : Inner h) where
      abbrev fresh : Copy
      fresh = fresh_in class words st p.row h

      before-many : length h ≡ g.nodes
      before-many = many-nodes cells (table_in work l) g h H

      fresh-many : length (fresh_in class words st p.row h).graph ≡ g₁.nodes
      fresh-many = many-nodes cells₁ (table_in work₁ l) g₁ (fresh_in class words st p.row h).graph (made h H I).shows

      -- the copy is a node of the graph
      copy-node : y.0 < g₁.nodes
      copy-node = omega (arith, (made h H I).node, fresh-many, copied_inside (nodes words st) (marks_in (flex_in class p.row)) h (conclusion_in class p.row))

      -- there are no more variables of copies than nodes
      variables_few : p.copies + length (said (variables_in work₁ l n)) ≤ g₁.nodes
      variables_few =
          omega (arith, T.copies, before-many, fresh-many, ap length (words_say h H I), in_order_few n (fresh_in class words st p.row h).variables, copy_variables (nodes words st) (marks_in (flex_in class p.row)) h (conclusion_in class p.row))

      nodes-more : g.nodes ≤ g₁.nodes
      nodes-more = omega (arith, before-many, fresh-many, copy-longer (nodes words st) (marks_in (flex_in class p.row)) h (conclusion_in class p.row))

      env-below : Below (length h) env → Below (length (fresh_in class words st p.row h).graph) env
      env-below b = below_more (length h) (length (fresh_in class words st p.row h).graph) env (omega (arith, nodes-more, before-many, fresh-many)) b

    counted_meeting : Meeting bytes work₁ cells₁ c l g₁ env p (record { node = y; variables = count_in class p.row; memo = memo₁ })
    counted_meeting = record {
      held = now-held;
      behind = omega (arith, T.behind, T.laid.index, T.laid.memo, T.laid.stack, T.laid.variables);
      variables = omega (arith, T.laid.variables, T.stands.few);
      table = omega (arith, T.laid.table, long);
      inside = omega (arith, T.laid.inside, outside.long);
      term = T.term;
      spells = T.spells;
      graph = (fresh_in class words st p.row T.graph).graph;
      shows = (made T.graph T.shows T.inner).shows;
      inner = (made T.graph T.shows T.inner).inner;
      nodes = env-below T.graph T.shows T.inner T.nodes-env;
      env_long = T.env_long;
      right = copy-node T.graph T.shows T.inner;
      room = variables_few T.graph T.shows T.inner;
    }

    memo_kept : (work' : List ℕ) → Outside l.graph l.end work₁ work' → memo_in work' l ≡ memo_in work₁ l
    memo_kept work' O =
        part-ahead l.graph l.end work₁ work' O l.copied (l.walk - l.copied) (omega (arith, T.laid.memo, T.laid.stack, T.laid.variables))
        (omega (arith, T.laid.memo, T.laid.stack, T.laid.variables, T.laid.table, T.laid.inside, outside.long))

    copies_same : copies_in work₁ cells l p.copies ≡ copies_in work cells l p.copies
    copies_same =
        part-behind l.copied (l.graph + rows_end cells) work work₁ outside (l.graph + copies_at cells) p.copies (omega arith)
        (omega (arith, T.copies, nodes_few cells (table_in work l) g T.shows.laid, T.shows.laid.fits, T.laid.table, T.laid.inside))

    reads_now : (P : Pack) → Reads bytes (records_of work c) P → Reads bytes (records_of work₁ c) P
    reads_now P R = reads_on bytes work work₁ c same T.held.cataloged P R

    equal_node : (h : Graph) (H : Shows cells (table_in work l) g h) (I : Inner h) (t : Term) → meets t env (fresh_in class words st p.row h).graph y.0 ≡ joined_in class words st p.row env t h
    equal_node h H I t = ap (λ (z : ℕ). meets t env (fresh_in class words st p.row h).graph z) (made h H I).node

    counted-met : (work' cells' : List ℕ) (r : Result (Reached × Id) Refusal) → MeetsTo bytes work₁ work' cells₁ cells' c l g₁ env p (record { node = y; variables = count_in class p.row; memo = memo₁ }) r → TakesTo bytes work work' class words cells cells' c l st g env p r
    counted-met work' cells' (Ok (r, x)) M =
        let N = M.1 in
        let at : l.graph + copies_at cells₁ ≡ l.graph + copies_at cells = ap (λ (m : ℕ). l.graph + (11 * m + 7)) long in (
          outside_then l.copied l.end work work₁ work'
              (outside_wider l.copied (l.graph + rows_end cells) l.copied l.end work work₁ (omega arith) (omega (arith, T.laid.table)) outside)
              (outside_wider l.graph l.end l.copied l.end work₁ work' (omega (arith, T.laid.memo, T.laid.stack, T.laid.variables)) (omega arith) N.outside),
          rw M.0 (subst (λ (xs : List ℕ). Remembers xs memo₁) (sym (memo_kept work' N.outside)) C.1),
          omega (arith, N.many, variables_few T.graph T.shows T.inner, M.2),
          omega (arith, M.2, nodes-more T.graph T.shows T.inner),
          λ P R Q t S h H I b.
              let m = M.3 P (reads_now P R) Q t S (fresh_in class words st p.row h).graph (made h H I).shows (made h H I).inner (env-below h H I b) in
              record {
                graph = m.graph;
                unified = ap (λ (u : Unified). u.graph) (sym (equal_node h H I t)) ∙ m.unified;
                shows = m.shows;
                inner = m.inner;
                instance = m.instance;
                node = m.node;
                word = m.word;
                room = omega (arith, m.room, long);
                copies = ap (λ (a : ℕ). part a r.copies work') (sym at) ∙ N.list ∙ ap₂ (λ (a : ℕ) (ys : List ℕ). part a p.copies work₁ ++ ys) at (words_say h H I) ∙ ap (λ (xs : List ℕ). xs ++ in_order (up_to n) (fresh_in class words st p.row h).variables) copies_same;
              },
        )
    counted-met work' cells' (Err z) (inl M) =
        inl (
          M.0,
          λ P R Q t S h H I b.
              let m = M.1 P (reads_now P R) Q t S (fresh_in class words st p.row h).graph (made h H I).shows (made h H I).inner (env-below h H I b) in
              (ap (λ (u : Unified). u.graph) (sym (equal_node h H I t)) ∙ m.0, omega (arith, m.1, long)),
        )
    counted-met work' cells' (Err z) (inr M) =
        inr (
          M.0,
          λ P R Q t S h H I b.
              let m = M.1 P (reads_now P R) Q t S (fresh_in class words st p.row h).graph (made h H I).shows (made h H I).inner (env-below h H I b) in
              omega (arith, m, long),
        )

    -- both with the count as it was read
    module _ (n : ℕ) (counted : n ≡ count_in class p.row) where
      pub taking_meeting : Meeting bytes work₁ cells₁ c l g₁ env p (record { node = y; variables = n; memo = memo₁ })
      taking_meeting = subst (λ (m : ℕ). Meeting bytes work₁ cells₁ c l g₁ env p (record { node = y; variables = m; memo = memo₁ })) (sym counted) counted_meeting

      pub takes-met : (work' cells' : List ℕ) (r : Result (Reached × Id) Refusal) → MeetsTo bytes work₁ work' cells₁ cells' c l g₁ env p (record { node = y; variables = n; memo = memo₁ }) r → TakesTo bytes work work' class words cells cells' c l st g env p r
      takes-met work' cells' r M = counted-met work' cells' r (subst (λ (m : ℕ). MeetsTo bytes work₁ work' cells₁ cells' c l g₁ env p (record { node = y; variables = m; memo = memo₁ }) r) counted M)
