-- A rule's conclusion behind its premises, as a whole: its instance put into the graph, then read back with the copies' variables.
use Rattle.std.specs.Prelude.{Some, None, Result, Ok, Err, ◌⊎◌}
use Rattle.std.specs.Prelude.{◌≡◌, true, ℕ, suc, ◌+◌, ◌*◌, ◌-◌, ◌≤◌, ◌<◌}
use Rattle.std.proofs.Math.Path.{refl, sym, ap, subst}
use Rattle.std.proofs.Common.{ap₂, ◌∙◌, arith, inl, inr}
use Rattle.std.proofs.Math.Bool.{false}
use mathlib.Core.List.{List, [], ◌∷◌}
use Rattle.std.proofs.Math.Option.{none}
use Rattle.std.proofs.Math.ListN.{length, get_or}
use Rattle.definition.specs.Pack.{Term, Terms, nil, cons, Node, Pack, rule_of}
use Rattle.definition.specs.Certificate.{count}
use Rattle.definition.specs.Good.{Below}
use Rattle.definition.proofs.Laws.Grow.{below_more}
use Rattle.definition.proofs.Laws.Prefix.{term_words, terms_words}
use Rattle.definition.proofs.Laws.Suffix.{all_words}
use Rattle.definition.specs.Verdict.{Bound, value_of}
use Rattle.definition.specs.Store.{pattern_words}
use Rattle.definition.specs.Graph.{Graph, circular, up_to, Grown, cells as cells_of}
use Rattle.definition.specs.Analysis.{Numbered, Resolved, instantiate}
use Rattle.definition.specs.Classes.{count_of, is_fixed}
use Rattle.definition.specs.declared.Refusal.{Refusal}
use Rattle.definition.specs.declared.Refusal.TheVariants.{Short}
use Rattle.theory.specs.Unification.Circle.{length_up_to}
use Rattle.theory.specs.Copies.Variables.{up_to_below}
use Rattle.theory.specs.Patterns.Entries.{resolve_keeps}
use Rattle.theory.specs.Patterns.Interned.{Grows, grows_then, grows_long}
use Rattle.theory.specs.Walks.Reading.{numbered_as}
use Rattle.theory.specs.Unification.Inner.{Inner}
use Rattle.base.specs.Word.{word_of}
use Rattle.base.specs.Part.{part, part_at, length_part}
use Rattle.base.specs.Outside.{Outside, part-behind}
use Rattle.base.specs.declared.id.Node.{Node as Id}
use Rattle.store.specs.Stored.{nodes, written}
use Rattle.store.specs.declared.nodes.Store.{Store}
use Rattle.pack_tables.specs.SameTables.{Same}
use Rattle.pack_tables.specs.Catalog.{records_of}
use Rattle.pack_tables.specs.declared.catalog.Catalog.{Catalog}
use Rattle.pack_read.specs.Reads.{Reads, length-nodes}
use Rattle.pack_read.specs.Held.{Proper, Held, OfHeld, reads_on}
use Rattle.pack_read.specs.Clause.{Spelt, SpeltAll}
use Rattle.term_lift.specs.Lifts.{Lifts}
use Rattle.term_lift.specs.Nodes.{laid_same}
use Rattle.graph.specs.declared.graph.Graph.{Graph as Counts}
use Rattle.graph.specs.Cells.{rows_end, Shows, nodes_few}
use Rattle.graph.specs.Pushes.{cells_shown}
use Rattle.graph.specs.Inner.{many-nodes}
use Rattle.theory.specs.Copies.Terms.{Patterns}
use Rattle.term_instantiate.specs.Building.{Spells, Asked, Instantiates}
use Rattle.class_premises.specs.Layout.{place_of, table_in, copies_at, Laid, laid_on, laid_cells}
use Rattle.class_premises.specs.Joins.{copies_in}
use Rattle.class_premises.specs.Meets.{instantiate_longer}
use Rattle.class_premises.specs.declared.layout.Layout.{Layout}
use Rattle.term_readback.specs.Words.{values_at, numbers_at, Framed}
use Rattle.term_lift.specs.Kept.{lifts_on}
use Rattle.class_premises.specs.Standing.{lifted_of}
use Rattle.theory.specs.Making.Circles.{Instance, instance}
use Rattle.theory.specs.Making.FewArgs.{FewArgs, few_instance}
use Rattle.theory.specs.Making.ReadBack.{resolve_patterns}
use Rattle.theory.specs.Making.Values.{Grounded, grounded_value}
use Rattle.class_conclude.specs.declared.conclude.Ending.{Ending}
use Rattle.class_conclude.specs.declared.conclude.Concluded.{Concluded}
use Rattle.class_conclude.specs.Entries.{table_of, read_flex, renamed}
use Rattle.class_conclude.specs.Top.{Topped, Topping}
use Rattle.class_conclude.specs.Back.{read_top}
use Rattle.class_conclude.specs.Counted.{numbers_few, numbers_inside, numbers_are, TopRead, TopReads}

-- ---- what is asked
-- the words hold a pack, one of its rules' conclusion, the store's patterns, a graph without circles that has the rule's variables, values
-- of its nodes and of no others, and variables of copies
pub record Here (bytes work words cells : List ℕ) (c : Catalog) (l : Layout) (st : Store) (g : Counts) (env : List ℕ) (q : Ending) (P : Pack) (t : Term) (h : Graph) (vs : List Bound) : Type 0 where
  pub reads : Reads bytes (records_of work c) P
  pub proper : Proper P
  pub lifts : Lifts bytes work words c (lifted_of l) st
  pub laid : Laid work words cells l
  pub patterns : Patterns (nodes words st)
  pub spells : Spells P q.rule q.vars q.from (q.from + length (term_words t)) t
  pub env_is : env ≡ up_to q.vars
  pub wide : q.vars ≤ length h
  pub shows : Shows cells (table_in work l) g h
  pub inner : Inner h
  pub ends : circular h ≡ false
  pub few : FewArgs h
  pub values : (r : ℕ) → r < g.nodes → get_or (table_in work l) (values_at cells + r) 0 ≡ word_of (value_of r vs)
  pub beyond : (r : ℕ) → length h ≤ r → value_of r vs ≡ none
  pub grounded : Grounded P vs
  pub inside : Below (length h) (copies_in work cells l q.copies)
  pub copies : q.copies ≤ length cells
  pub some : 0 < l.nodes

-- there are such
pub record Concluding (bytes work words cells : List ℕ) (c : Catalog) (l : Layout) (st : Store) (g : Counts) (env : List ℕ) (q : Ending) : Type 0 where
  pub pack : Pack
  pub term : Term
  pub graph : Graph
  pub values : List Bound
  pub here : Here bytes work words cells c l st g env q pack term graph values

-- ---- what is answered
-- the conclusion's instance
abbrev pub top_of : Term → List ℕ → Graph → Grown
top_of t env h = instantiate t env h

-- what it is read back as, behind a store's nodes
abbrev pub conclusion_of : Pack → Term → List ℕ → Graph → List Bound → List Node → Resolved
conclusion_of P t env h vs s = read_top P (instantiate t env h).graph vs (instantiate t env h).at s

-- and the copies' variables behind it
abbrev pub entries_of : Pack → Term → List ℕ → Graph → List Bound → List Node → List ℕ → Resolved
entries_of P t env h vs s xs = read_flex P (instantiate t env h).graph vs xs (conclusion_of P t env h vs s).state

-- all was read
pub record Done (bytes work' words' cells cells' : List ℕ) (c : Catalog) (l : Layout) (st' : Store) (g' : Counts) (r : Concluded) (P : Pack) (t : Term) (env : List ℕ) (h : Graph) (vs : List Bound) (s : List Node) (xs : List ℕ) : Type 0 where
  pub room : cells_of (top_of t env h).graph ≤ length cells
  pub shows : Shows cells' (table_in work' l) g' (top_of t env h).graph
  pub lifts : Lifts bytes work' words' c (lifted_of l) st'
  pub store : nodes words' st' ≡ (entries_of P t env h vs s xs).state.store
  pub grows : Grows s (nodes words' st')
  pub patterns : Patterns (nodes words' st')
  pub pattern : r.pattern.0 ≡ get_or (conclusion_of P t env h vs s).patterns 0 0
  pub stored : r.pattern.0 < length (nodes words' st')
  pub numbers : part (l.graph + numbers_at cells) r.numbered work' ≡ (entries_of P t env h vs s xs).state.numbering
  pub many : length (entries_of P t env h vs s xs).state.numbering ≡ r.numbered
  pub numbered : r.numbered ≤ length cells
  pub inside : Below g'.nodes (entries_of P t env h vs s xs).state.numbering
  pub entries : r.entries ≡ length (entries_of P t env h vs s xs).patterns
  pub renamings : r.renamings ≡ count_of (renamed (entries_of P t env h vs s xs).state.store) (entries_of P t env h vs s xs).patterns
  pub fixed : r.fixed ≡ count_of (is_fixed (top_of t env h).graph vs (entries_of P t env h vs s xs).state.numbering) (up_to (length (top_of t env h).graph))

-- of whatever is held
abbrev pub Whatever : List ℕ → List ℕ → List ℕ → List ℕ → Catalog → Layout → Store → Counts → List ℕ → Ending → (Pack → Term → Graph → List Bound → Type 0) → Type 0
Whatever bytes work words cells c l st g env q F = (P : Pack) (t : Term) (h : Graph) (vs : List Bound) → Here bytes work words cells c l st g env q P t h vs → F P t h vs

-- the cells have no room for the conclusion
abbrev pub GraphShort : List ℕ → List ℕ → List ℕ → List ℕ → Catalog → Layout → Store → Counts → List ℕ → Ending → Type 0
GraphShort bytes work words cells c l st g env q = Whatever bytes work words cells c l st g env q (λ P t h vs. length cells < cells_of (top_of t env h).graph)

-- they have it, but the words have none for its patterns
abbrev pub PatternsShort : List ℕ → List ℕ → List ℕ → List ℕ → Catalog → Layout → Store → Counts → List ℕ → Ending → Type 0
PatternsShort bytes work words cells c l st g env q =
    Whatever bytes work words cells c l st g env q (λ P t h vs.
    (cells_of (top_of t env h).graph ≤ length cells) × (length words < length (pattern_words (entries_of P t env h vs (nodes words st) (copies_in work cells l q.copies)).state.store)))

-- what `conclude` answers: the buffer that is short, by its number, if it is refused
abbrev pub Concludes : List ℕ → List ℕ → List ℕ → List ℕ → List ℕ → List ℕ → List ℕ → Catalog → Layout → Store → Counts → List ℕ → Ending → Result (Counts × Store × Concluded) Refusal → Type 0
Concludes bytes work words cells work' words' cells' c l st g env q (Ok (g', st', r)) =
    Framed cells work work' (lifted_of l) (table_of l)
    × (words' ≡ written (nodes words' st') words)
    × Whatever bytes work words cells c l st g env q (λ P t h vs. Done bytes work' words' cells cells' c l st' g' r P t env h vs (nodes words st) (copies_in work cells l q.copies))
Concludes bytes work words cells work' words' cells' c l st g env q (Err z) =
    ((z ≡ Short 3) × GraphShort bytes work words cells c l st g env q) ⊎ ((z ≡ Short 2) × PatternsShort bytes work words cells c l st g env q)

-- ---- the term
-- alone it is spelt as it is
spelt_one : (P : Pack) (r vars from : ℕ) (t : Term) → Spells P r vars from (from + length (term_words t)) t → Spelt P r vars from (cons t nil)
spelt_one P r vars from t S =
    let e = all_words t in
    record {
      rule = S.rule;
      many = S.many;
      words = λ j h. S.words j (omega (arith, ap length e)) ∙ sym (ap (λ (ws : List ℕ). get_or ws j 0) e);
      within = omega (arith, ap length e, S.within);
      sorts = S.sort ∷ [];
      sorted = (S.sorted, tt);
    }

module _ (bytes work words cells : List ℕ) (c : Catalog) (l : Layout) (st : Store) (g : Counts) (env : List ℕ) (q : Ending) where
  -- the environment's nodes are the graph's
  env-below : (P : Pack) (t : Term) (h : Graph) (vs : List Bound) → Here bytes work words cells c l st g env q P t h vs → Below (length h) env
  env-below P t h vs H = subst (Below (length h)) (sym H.env_is) (below_more q.vars (length h) (up_to q.vars) H.wide (up_to_below q.vars))

  -- one for each variable of the rule
  env_long : (P : Pack) (t : Term) (h : Graph) (vs : List Bound) → Here bytes work words cells c l st g env q P t h vs → q.vars ≤ length env
  env_long P t h vs H = omega (arith, ap length H.env_is, length_up_to q.vars)

  -- the graph with the instance has no circles, and few arguments
  sane : (P : Pack) (t : Term) (h : Graph) (vs : List Bound) → Here bytes work words cells c l st g env q P t h vs → Instance h (instantiate t env h)
  sane P t h vs H =
      instance P (rule_of P q.rule).vars env t H.spells.sort h H.spells.sorted (omega (arith, H.spells.many, env_long P t h vs H)) H.shows.like.forest H.inner (env-below P t h vs H)

  -- nodes with few arguments
  few_then : (P : Pack) (t : Term) (h : Graph) (vs : List Bound) → Here bytes work words cells c l st g env q P t h vs → FewArgs (instantiate t env h).graph
  few_then P t h vs H = few_instance P H.proper.good (rule_of P q.rule).vars env t H.spells.sort h H.spells.sorted H.few

  module _ (K : Concluding bytes work words cells c l st g env q) where
    -- the pack that is held
    abbrev pub held_pack : Held bytes work c
    held_pack = record { cataloged = K.here.lifts.laid.held.cataloged; pack = K.pack; reads = K.here.reads; proper = K.here.proper }

    -- the term's end is looked for
    pub conclude_spelt : SpeltAll K.pack q.rule q.vars q.from 1
    unfolding count
    conclude_spelt = (cons K.term nil, spelt_one K.pack q.rule q.vars q.from K.term K.here.spells, refl)

    module _ (to : ℕ) (T : OfHeld bytes work c (λ P. (ts : Terms) → Spelt P q.rule q.vars q.from ts → count ts ≡ 1 → to ≡ q.from + length (terms_words ts))) where
      -- the word behind it
      word_is : (P : Pack) (t : Term) (h : Graph) (vs : List Bound) → Here bytes work words cells c l st g env q P t h vs → to ≡ q.from + length (term_words t)
      unfolding count
      word_is P t h vs H = T P H.reads H.proper (cons t nil) (spelt_one P q.rule q.vars q.from t H.spells) refl ∙ ap (λ (ws : List ℕ). q.from + length ws) (all_words t)

      -- so it is spelt up to there
      spells_to : (P : Pack) (t : Term) (h : Graph) (vs : List Bound) → Here bytes work words cells c l st g env q P t h vs → Spells P q.rule q.vars q.from to t
      spells_to P t h vs H = subst (λ (i : ℕ). Spells P q.rule q.vars q.from i t) (sym (word_is P t h vs H)) H.spells

      -- the instance is asked for
      pub conclude_asked : Asked bytes work cells c (place_of l q.rule q.vars) g env q.from to
      conclude_asked =
          let H = K.here in
          record {
            held = held_pack;
            room = record { behind = omega (arith, H.lifts.laid.behind, H.laid.index, H.laid.memo, H.laid.stack, H.laid.variables); fits = omega (arith, H.laid.table); within = H.laid.inside };
            term = K.term;
            spells = spells_to K.pack K.term K.graph K.values H;
            graph = K.graph;
            shows = H.shows;
            inner = H.inner;
            nodes = env-below K.pack K.term K.graph K.values H;
            env_long = env_long K.pack K.term K.graph K.values H;
          }

      -- there is no room for it
      pub conclude_full : (work₁ words₁ cells₁ : List ℕ) → Instantiates bytes work work₁ cells cells₁ c (place_of l q.rule q.vars) g env q.from to None → Concludes bytes work words cells work₁ words₁ cells₁ c l st g env q (Err (Short 3))
      conclude_full work₁ words₁ cells₁ I = inl (refl, λ P t h vs H. I P H.reads H.proper t (spells_to P t h vs H) h H.shows H.inner (env-below P t h vs H))

      -- it is there
      module _ (x : Id) (g₁ : Counts) (work₁ cells₁ : List ℕ) (I : Instantiates bytes work work₁ cells cells₁ c (place_of l q.rule q.vars) g env q.from to (Some (x, g₁))) (long : length cells₁ ≡ length cells) where
        -- only rows were written
        outside : Outside l.graph (l.graph + rows_end cells) work work₁
        outside = I.0

        module _ (P : Pack) (t : Term) (h : Graph) (vs : List Bound) (H : Here bytes work words cells c l st g env q P t h vs) where
          -- the graph with it
          abbrev top : Graph
          top = (instantiate t env h).graph

          -- what was built
          built : (x.0 ≡ (instantiate t env h).at) × Shows cells₁ (table_in work₁ l) g₁ (instantiate t env h).graph × Inner (instantiate t env h).graph × (x.0 < length (instantiate t env h).graph)
          built = I.1 P H.reads H.proper t (spells_to P t h vs H) h H.shows H.inner (env-below P t h vs H)

          -- as many nodes as there were
          before : length h ≡ g.nodes
          before = many-nodes cells (table_in work l) g h H.shows

          -- as many as there are
          after : length (instantiate t env h).graph ≡ g₁.nodes
          after = many-nodes cells₁ (table_in work₁ l) g₁ top built.1

          -- the table starts behind lifting's words
          apart : l.copied ≤ l.graph
          apart = omega (arith, H.laid.memo, H.laid.stack, H.laid.variables)

          -- no more nodes than cells
          nodes_here : g.nodes ≤ length cells
          nodes_here = omega (arith, nodes_few cells (table_in work l) g H.shows.laid, H.shows.laid.fits)

          -- the pack's tables are as they were
          same : Same work work₁ c
          same = laid_same bytes work words c (lifted_of l) st H.lifts.laid work₁ outside.long (λ i p. outside.ahead i (omega (arith, apart, H.laid.index)))

          -- the copies' variables are as they were
          copies_same : copies_in work₁ cells₁ l q.copies ≡ copies_in work cells l q.copies
          copies_same =
              ap (λ (n : ℕ). part (l.graph + (11 * n + 7)) q.copies work₁) long
              ∙ part-behind l.graph (l.graph + rows_end cells) work work₁ outside (l.graph + copies_at cells) q.copies (omega arith) (omega (arith, H.copies, H.laid.table, H.laid.inside))

          -- and the values
          values_same : (r : ℕ) → r < g.nodes → get_or (table_in work₁ l) (values_at cells₁ + r) 0 ≡ word_of (value_of r vs)
          values_same r p =
              let i : values_at cells + r < l.end - l.graph = omega (arith, H.laid.table, nodes_here) in
              ap (λ (n : ℕ). get_or (table_in work₁ l) (8 * n + 7 + r) 0) long
              ∙ part_at l.graph (l.end - l.graph) work₁ (values_at cells + r) i
              ∙ outside.behind (l.graph + (values_at cells + r)) (omega arith)
              ∙ sym (part_at l.graph (l.end - l.graph) work (values_at cells + r) i)
              ∙ H.values r p

          -- so all stands there to be read back
          topped : Topped bytes work₁ words cells₁ c l st g.nodes g₁ x.0 q.copies P (instantiate t env h).graph vs
          topped = record {
            lifts = lifts_on bytes work words c (lifted_of l) st work₁ outside.long (λ i p. outside.ahead i (omega (arith, apart))) H.lifts;
            reads = reads_on bytes work work₁ c same H.lifts.laid.held.cataloged P H.reads;
            proper = H.proper;
            laid = laid_cells work₁ words cells cells₁ l long (laid_on work work₁ words cells l outside.long H.laid);
            shows = built.1;
            inner = built.2;
            ends = (sane P t h vs H).acyclic H.ends;
            few = few_then P t h vs H;
            values = values_same;
            beyond = λ r p. H.beyond r (omega (arith, before));
            below = λ r n e. omega (arith, grounded_value P vs r n H.grounded e, length-nodes bytes (records_of work c) P H.reads, H.lifts.laid.many);
            low = omega (arith, before, after, instantiate_longer t env h);
            node = omega (arith, built.3, after);
            inside = subst (Below g₁.nodes) (sym copies_same) (below_more (length h) g₁.nodes (copies_in work cells l q.copies) (omega (arith, after, instantiate_longer t env h)) H.inside);
            copies_few = omega (arith, H.copies, long);
            some = H.some;
          }

          -- the cells had room
          fits : cells_of (instantiate t env h).graph ≤ length cells
          fits = omega (arith, cells_shown cells₁ (table_in work₁ l) g₁ top built.1, built.1.laid.fits, long)

          -- what is read, by the node and the list that the definition has
          same_read : {A : Type 0} (f : ℕ → List ℕ → A) → f x.0 (copies_in work₁ cells₁ l q.copies) ≡ f (instantiate t env h).at (copies_in work cells l q.copies)
          same_read f = ap₂ f built.0 copies_same

        -- there is such a graph
        pub conclude_topping : Topping bytes work₁ words cells₁ c l st g.nodes g₁ x.0 q.copies
        conclude_topping = record { pack = K.pack; graph = (instantiate K.term env K.graph).graph; values = K.values; topped = topped K.pack K.term K.graph K.values K.here }

        -- nothing else has changed
        framed : (work' : List ℕ) → Framed cells₁ work₁ work' (lifted_of l) (table_of l) → Framed cells work work' (lifted_of l) (table_of l)
        framed work' F =
            let H = K.here in
            let a : l.lifted ≤ l.graph = omega (arith, H.laid.index, H.laid.memo, H.laid.stack, H.laid.variables) in
            record {
              long = F.long ∙ outside.long;
              ahead = λ i p. F.ahead i p ∙ outside.ahead i (omega arith);
              between = λ i p r. F.between i p r ∙ outside.ahead i r;
              behind = λ i p. F.behind i (omega (arith, long)) ∙ outside.behind i (omega arith);
            }

        module _ (work' words' : List ℕ) (st' : Store) (r : Concluded) (P : Pack) (t : Term) (h : Graph) (vs : List Bound) (H : Here bytes work words cells c l st g env q P t h vs)
            (R : TopRead bytes work' words' cells₁ c l st' g₁ r P (instantiate t env h).graph vs (nodes words st) x.0 (copies_in work₁ cells₁ l q.copies)) where
          -- by the definition
          abbrev C : Resolved
          C = conclusion_of P t env h vs (nodes words st)

          -- and the copies' variables
          abbrev E : Resolved
          E = entries_of P t env h vs (nodes words st) (copies_in work cells l q.copies)

          -- what was read is that
          read_is : read_flex P (instantiate t env h).graph vs (copies_in work₁ cells₁ l q.copies) (read_top P (instantiate t env h).graph vs x.0 (nodes words st)).state ≡ entries_of P t env h vs (nodes words st) (copies_in work cells l q.copies)
          read_is = same_read P t h vs H (λ y xs. read_flex P (instantiate t env h).graph vs xs (read_top P (instantiate t env h).graph vs y (nodes words st)).state)

          -- with this state
          state_is : R.state.state ≡ (entries_of P t env h vs (nodes words st) (copies_in work cells l q.copies)).state
          state_is = sym R.is ∙ ap (λ (z : Resolved). z.state) read_is

          -- and this store
          store_is : nodes words' st' ≡ (entries_of P t env h vs (nodes words st) (copies_in work cells l q.copies)).state.store
          store_is = sym R.holding.says.store ∙ ap (λ (z : Numbered). z.store) state_is

          -- the pattern is that of the conclusion
          conclusion_is : (conclusion_of P t env h vs (nodes words st)).patterns ≡ r.pattern.0 ∷ []
          conclusion_is = ap (λ (y : ℕ). (read_top P (instantiate t env h).graph vs y (nodes words st)).patterns) (sym (built P t h vs H).0) ∙ R.conclusion

          -- the store has patterns still
          patterns_are : Patterns (nodes words' st')
          patterns_are =
              let d = suc (length (instantiate t env h).graph) in
              let F = few_then P t h vs H in
              let first = resolve_patterns P H.proper.good H.proper.few (instantiate t env h).graph F vs true d ((instantiate t env h).at ∷ []) (numbered_as [] (nodes words st)) H.patterns in
              let rest = resolve_patterns P H.proper.good H.proper.few (instantiate t env h).graph F vs false d (copies_in work cells l q.copies) C.state first.patterns in
              subst Patterns (sym store_is) rest.patterns

          -- and this one
          pattern_stored : r.pattern.0 < length (nodes words' st')
          pattern_stored =
              let d = suc (length (instantiate t env h).graph) in
              let b : Below (length C.state.store) (r.pattern.0 ∷ []) = subst (Below (length C.state.store)) conclusion_is (resolve_keeps P (instantiate t env h).graph vs true d ((instantiate t env h).at ∷ []) (numbered_as [] (nodes words st))).1 in
              let m = grows_long C.state.store E.state.store (resolve_keeps P (instantiate t env h).graph vs false d (copies_in work cells l q.copies) C.state).0.grows in
              omega (arith, b.0, m, ap length store_is)

          -- it has grown
          grows_is : Grows (nodes words st) (nodes words' st')
          grows_is =
              let d = suc (length (instantiate t env h).graph) in
              subst (λ (z : List Node). Grows (nodes words st) z) (sym store_is)
              (grows_then (nodes words st) C.state.store E.state.store (resolve_keeps P (instantiate t env h).graph vs true d ((instantiate t env h).at ∷ []) (numbered_as [] (nodes words st))).0.grows
              (resolve_keeps P (instantiate t env h).graph vs false d (copies_in work cells l q.copies) C.state).0.grows)

          -- the numbered variables stand in the table
          few_numbers : r.numbered ≤ length cells
          few_numbers = omega (arith, numbers_few bytes work' words' cells₁ c l st' g₁ r.numbered false P (instantiate t env h).graph vs R.state R.holding, long)

          numbers_then : part (l.graph + numbers_at cells) r.numbered work' ≡ (entries_of P t env h vs (nodes words st) (copies_in work cells l q.copies)).state.numbering
          numbers_then =
              ap (λ (n : ℕ). part (l.graph + (10 * n + 7)) r.numbered work') (sym long)
              ∙ sym (numbers_are bytes work' words' cells₁ c l st' g₁ r.numbered false P (instantiate t env h).graph vs R.state R.holding)
              ∙ ap (λ (z : Numbered). z.numbering) state_is

          -- all of it
          pub concluded : Done bytes work' words' cells cells₁ c l st' g₁ r P t env h vs (nodes words st) (copies_in work cells l q.copies)
          unfolding part
          concluded =
              let S = R.holding in
              record {
                room = fits P t h vs H;
                shows = S.lies.stands.shows;
                lifts = S.lies.lifts;
                store = store_is;
                grows = grows_is;
                patterns = patterns_are;
                pattern = sym (ap (λ (ps : List ℕ). get_or ps 0 0) conclusion_is);
                stored = pattern_stored;
                numbers = numbers_then;
                many = ap length (sym numbers_then) ∙ length_part (l.graph + numbers_at cells) r.numbered work' (omega (arith, few_numbers, S.lies.room, S.lies.fits, long));
                numbered = few_numbers;
                inside = subst (λ (z : Numbered). Below g₁.nodes z.numbering) state_is (numbers_inside bytes work' words' cells₁ c l st' g₁ r.numbered false P (instantiate t env h).graph vs R.state S);
                entries = R.entries ∙ ap (λ (z : Resolved). length z.patterns) read_is;
                renamings = R.renamings ∙ ap (λ (z : Resolved). count_of (renamed z.state.store) z.patterns) read_is;
                fixed = R.fixed ∙ ap (λ (z : Resolved). count_of (is_fixed (instantiate t env h).graph vs z.state.numbering) (up_to (length (instantiate t env h).graph))) read_is;
              }

        -- either way
        pub concludes : (work' words' : List ℕ) (r : Result (Counts × Store × Concluded) Refusal) → TopReads bytes work₁ words work' words' cells₁ c l st g.nodes g₁ x.0 q.copies r → Concludes bytes work words cells work' words' cells₁ c l st g env q r
        concludes work' words' (Ok (g', st', r)) R = (
          framed work' R.0,
          R.1,
          λ P t h vs H. subst (λ (k : Counts). Done bytes work' words' cells cells₁ c l st' k r P t env h vs (nodes words st) (copies_in work cells l q.copies)) (sym R.2) (concluded work' words' st' r P t h vs H (R.3 P (instantiate t env h).graph vs (topped P t h vs H))),
        )
        concludes work' words' (Err z) R = inr (
          R.0,
          λ P t h vs H. (
            fits P t h vs H,
            subst (λ (z : Resolved). length words < length (pattern_words z.state.store)) (same_read P t h vs H (λ y xs. read_flex P (instantiate t env h).graph vs xs (read_top P (instantiate t env h).graph vs y (nodes words st)).state))
                (R.1 P (instantiate t env h).graph vs (topped P t h vs H)),
          ),
        )
