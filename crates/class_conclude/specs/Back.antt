-- The instance and the copies' variables read back, one behind the other.
use Rattle.std.specs.Prelude.{Option, Some, None}
use Rattle.std.specs.Prelude.{◌≡◌, true, false, List, [], ◌∷◌, ℕ, suc, ◌+◌, ◌≤◌, ◌<◌, length}
use Rattle.std.proofs.Common.{sym, ap, ◌∙◌, subst, arith}
use Rattle.definition.specs.Pack.{Node, Pack}
use Rattle.definition.specs.Good.{Below}
use Rattle.definition.specs.Verdict.{Bound}
use Rattle.definition.specs.Store.{pattern_words}
use Rattle.definition.specs.Graph.{Graph}
use Rattle.definition.specs.Analysis.{Numbered, Resolved, resolve}
use Rattle.definition.specs.Classes.{count_of}
use Rattle.theory.specs.Patterns.Interned.{Grows}
use Rattle.theory.specs.Patterns.Entries.{resolve_keeps}
use Rattle.theory.specs.Walks.Reading.{numbered_as, resolved_as}
use Rattle.theory.specs.Walks.Resolving.{Resolving, resolving}
use Rattle.base.specs.Part.{part_same}
use Rattle.base.specs.declared.id.Pattern.{Pattern}
use Rattle.store.specs.Stored.{nodes, written}
use Rattle.store.specs.declared.nodes.Store.{Store}
use Rattle.pack_tables.specs.declared.catalog.Catalog.{Catalog}
use Rattle.term_lift.specs.Runs.{words-grow, written_again}
use Rattle.graph.specs.declared.graph.Graph.{Graph as Counts}
use Rattle.class_premises.specs.Layout.{copies_at}
use Rattle.class_premises.specs.Joins.{copies_in}
use Rattle.class_premises.specs.declared.layout.Layout.{Layout}
use Rattle.term_readback.specs.Words.{Ready, Framed}
use Rattle.term_readback.specs.Moved.{framed_then, holding_fewer}
use Rattle.term_readback.specs.Stacks.{Answers}
use Rattle.class_premises.specs.Standing.{lifted_of}
use Rattle.class_conclude.specs.declared.top.Wanted.{Wanted}
use Rattle.class_conclude.specs.Entries.{table_of, Holds, read_flex, renamed, AllAsked, AllReads}
use Rattle.class_conclude.specs.Top.{Topped, Topping, Prepares, prepared, prepared_framed}

-- a node read back with all its variables numbered, nothing being read back before
abbrev pub read_top : Pack → Graph → List Bound → ℕ → List Node → Resolved
read_top P h vs x s = resolve (suc (length h)) P h vs true (x ∷ []) (numbered_as [] s)

-- the node's pattern was read, and the copies' variables' behind it
pub record BackRead (bytes work words cells : List ℕ) (c : Catalog) (l : Layout) (st : Store) (g : Counts) (p n k : ℕ) (P : Pack) (h : Graph) (vs : List Bound) (s : List Node) (x : ℕ) (xs : List ℕ) : Type 0 where
  pub state : Resolving
  pub patterns : List ℕ
  pub holding : Holds bytes work words cells c l st g n false P h vs state
  pub conclusion : (read_top P h vs x s).patterns ≡ p ∷ []
  pub is : read_flex P h vs xs (read_top P h vs x s).state ≡ resolved_as patterns state.state
  pub renamings : k ≡ count_of (renamed state.state.store) patterns

-- what `read_back` answers
abbrev pub BackReads : List ℕ → List ℕ → List ℕ → List ℕ → List ℕ → List ℕ → Catalog → Layout → Store → ℕ → Counts → ℕ → ℕ → Option (Store × Pattern × ℕ × ℕ) → Type 0
BackReads bytes work words work' words' cells c l st before g x copies (Some (st', p, n, k)) =
    Framed cells work work' (lifted_of l) (table_of l)
    × (words' ≡ written (nodes words' st') words)
    × ((P : Pack) (h : Graph) (vs : List Bound) → Topped bytes work words cells c l st before g x copies P h vs → BackRead bytes work' words' cells c l st' g p.0 n k P h vs (nodes words st) x (copies_in work cells l copies))
BackReads bytes work words work' words' cells c l st before g x copies None =
    (P : Pack) (h : Graph) (vs : List Bound) → Topped bytes work words cells c l st before g x copies P h vs
    → length words < length (pattern_words (read_flex P h vs (copies_in work cells l copies) (read_top P h vs x (nodes words st)).state).state.store)

-- of what is wanted
abbrev pub BackReadsAt : (bytes work words work' words' cells : List ℕ) (c : Catalog) (l : Layout) (st : Store) (g : Counts) (w : Wanted) → Option (Store × Pattern × ℕ × ℕ) → Type 0
BackReadsAt bytes work words work' words' cells c l st g w r = BackReads bytes work words work' words' cells c l st w.before g w.node.0 w.copies r

module _ (bytes work words cells : List ℕ) (c : Catalog) (l : Layout) (st : Store) (before : ℕ) (g : Counts) (x copies : ℕ) (K : Topping bytes work words cells c l st before g x copies) (work₁ : List ℕ) (R : Prepares work work₁ cells l before g) where
  -- nothing was read back
  start : (P : Pack) (h : Graph) (vs : List Bound) → Topped bytes work words cells c l st before g x copies P h vs → Holds bytes work₁ words cells c l st g 0 true P h vs (resolving (numbered_as [] (nodes words st)) [])
  start P h vs T = prepared bytes work words cells c l st before g x copies work₁ R P h vs T

  -- so the node may be asked for
  pub back_ready : Ready bytes work₁ words cells c (lifted_of l) (table_of l) st g 0 true
  back_ready = record { pack = K.pack; graph = K.graph; values = K.values; state = resolving (numbered_as [] (nodes words st)) []; holding = start K.pack K.graph K.values K.topped }

  -- only the table was written
  framed₁ : Framed cells work work₁ (lifted_of l) (table_of l)
  framed₁ = prepared_framed bytes work words cells c l st before g x copies work₁ R K.pack K.graph K.values K.topped

  -- the store only grows by the copies' variables
  grows_on : (P : Pack) (h : Graph) (vs : List Bound) (st₂ : Numbered) (xs : List ℕ) → length (pattern_words st₂.store) ≤ length (pattern_words (read_flex P h vs xs st₂).state.store)
  grows_on P h vs st₂ xs = words-grow st₂.store (read_flex P h vs xs st₂).state.store (resolve_keeps P h vs false (suc (length h)) xs st₂).0.grows

  -- there is no room for the node
  pub back_full : (work₂ words₂ : List ℕ) → Answers bytes work₁ words work₂ words₂ cells c (lifted_of l) (table_of l) st g 0 true x None → BackReads bytes work words work₂ words₂ cells c l st before g x copies None
  back_full work₂ words₂ A P h vs T = omega (arith, A.1 P h vs (resolving (numbered_as [] (nodes words st)) []) (start P h vs T), grows_on P h vs (read_top P h vs x (nodes words st)).state (copies_in work cells l copies))

  -- the node was read
  module _ (work₂ words₂ : List ℕ) (p : Pattern) (st₂ : Store) (n₂ : ℕ) (A : Answers bytes work₁ words work₂ words₂ cells c (lifted_of l) (table_of l) st g 0 true x (Some (p, st₂, n₂))) where
    -- what is held then
    after : (P : Pack) (h : Graph) (vs : List Bound) → Topped bytes work words cells c l st before g x copies P h vs
        → (s : Resolving) × Holds bytes work₂ words₂ cells c l st₂ g n₂ true P h vs s × (read_top P h vs x (nodes words st) ≡ resolved_as (p.0 ∷ []) s.state)
    after P h vs T = A.2 P h vs (resolving (numbered_as [] (nodes words st)) []) (start P h vs T)

    -- the same with only flexible variables numbered
    fewer : (P : Pack) (h : Graph) (vs : List Bound) (T : Topped bytes work words cells c l st before g x copies P h vs) → Holds bytes work₂ words₂ cells c l st₂ g n₂ false P h vs (after P h vs T).0
    fewer P h vs T = holding_fewer bytes work₂ words₂ cells c (lifted_of l) (table_of l) st₂ g n₂ P h vs (after P h vs T).0 (after P h vs T).1 T.some

    -- nothing else was written
    framed₂ : Framed cells work work₂ (lifted_of l) (table_of l)
    framed₂ = framed_then cells work work₁ work₂ (lifted_of l) (table_of l) framed₁ A.0

    -- the copies' variables are as they were
    copies_same : copies_in work₂ cells l copies ≡ copies_in work cells l copies
    copies_same =
        let T = K.topped in
        part_same (l.graph + copies_at cells) copies work₂ work (omega (arith, T.copies_few, T.laid.table, T.laid.inside, framed₂.long)) (omega (arith, T.copies_few, T.laid.table, T.laid.inside))
        (λ i h. framed₂.behind (l.graph + copies_at cells + i) (omega arith))

    -- the copies' variables may be asked for
    pub back-asked : AllAsked bytes work₂ words₂ cells c l st₂ g n₂ copies
    back-asked = record {
      ready = record { pack = K.pack; graph = K.graph; values = K.values; state = (after K.pack K.graph K.values K.topped).0; holding = fewer K.pack K.graph K.values K.topped };
      inside = subst (Below g.nodes) (sym copies_same) K.topped.inside;
      few = K.topped.copies_few;
      there = omega (arith, K.topped.laid.table, K.topped.laid.inside, framed₂.long);
    }

    -- what they come to
    same_read : (P : Pack) (h : Graph) (vs : List Bound) (T : Topped bytes work words cells c l st before g x copies P h vs)
        → read_flex P h vs (copies_in work cells l copies) (read_top P h vs x (nodes words st)).state ≡ read_flex P h vs (copies_in work₂ cells l copies) (after P h vs T).0.state
    same_read P h vs T =
        ap (λ (xs : List ℕ). read_flex P h vs xs (read_top P h vs x (nodes words st)).state) (sym copies_same)
        ∙ ap (λ (r : Resolved). read_flex P h vs (copies_in work₂ cells l copies) r.state) (after P h vs T).2

    -- there is no room for them
    pub back_short : (work' words' : List ℕ) → length words₂ ≡ length words → AllReads bytes work₂ words₂ work' words' cells c l st₂ g n₂ copies None → BackReads bytes work words work' words' cells c l st before g x copies None
    back_short work' words' long E P h vs T = omega (arith, E P h vs (after P h vs T).0 (fewer P h vs T), ap (λ (r : Resolved). length (pattern_words r.state.store)) (same_read P h vs T), long)

    -- the store has grown by the node
    grown₂ : Grows (nodes words st) (nodes words₂ st₂)
    grown₂ =
        let P = K.pack in
        let h = K.graph in
        let vs = K.values in
        let a = after P h vs K.topped in
        subst (λ (z : List Node). Grows (nodes words st) z) a.1.says.store
        (subst (λ (r : Resolved). Grows (nodes words st) r.state.store) a.2 (resolve_keeps P h vs true (suc (length h)) (x ∷ []) (numbered_as [] (nodes words st))).0.grows)

    -- they were read
    pub back_read : (work' words' : List ℕ) (st' : Store) (n k : ℕ) → AllReads bytes work₂ words₂ work' words' cells c l st₂ g n₂ copies (Some (st', n, k)) → BackReads bytes work words work' words' cells c l st before g x copies (Some (st', p, n, k))
    back_read work' words' st' n k E =
        let grown : Grows (nodes words₂ st₂) (nodes words' st') =
        let P = K.pack in
        let h = K.graph in
        let vs = K.values in
        let a = after P h vs K.topped in
        let e = E.2 P h vs a.0 (fewer P h vs K.topped) in
        subst (λ (z : List Node). Grows (nodes words₂ st₂) z) e.holding.says.store
        (subst (λ (z : List Node). Grows z e.state.state.store) a.1.says.store
        (subst (λ (r : Resolved). Grows a.0.state.store r.state.store) e.is (resolve_keeps P h vs false (suc (length h)) (copies_in work₂ cells l copies) a.0.state).0.grows)) in (
          framed_then cells work work₂ work' (lifted_of l) (table_of l) framed₂ E.0,
          E.1 ∙ ap (written (nodes words' st')) A.1 ∙ written_again (nodes words₂ st₂) (nodes words' st') words grown,
          λ P h vs T.
              let e = E.2 P h vs (after P h vs T).0 (fewer P h vs T) in
              record {
                state = e.state;
                patterns = e.patterns;
                holding = e.holding;
                conclusion = ap (λ (r : Resolved). r.patterns) (after P h vs T).2;
                is = same_read P h vs T ∙ e.is;
                renamings = e.renamings;
              },
        )
