-- A class behind its premises: its conclusion and the copies' variables read back, then its row.
use Rattle.std.specs.Prelude.{Result, Ok, Err}
use Rattle.std.specs.Prelude.{◌≡◌, refl, Bool, true, false, List, [], ◌∷◌, ◌++◌, ℕ, suc, ◌+◌, ◌*◌, ◌-◌, ◌≤◌, ◌<◌, length, get_or}
use Rattle.std.proofs.Math.Path.{sym, subst}
use Rattle.std.proofs.Common.{ap, ◌∙◌, inl, inr, arith, length-append}
use Rattle.std.proofs.lemmas.List.{length-map}
use Rattle.definition.specs.Test.{is, see}
use Rattle.definition.specs.Pack.{prop, Node, Pack, rule_of}
use Rattle.definition.specs.Good.{Below}
use Rattle.definition.proofs.Laws.Prefix.{term_words, terms_words}
use Rattle.definition.specs.Keys.{no_keyed, keyed as keys_of}
use Rattle.definition.specs.Verdict.{Bound}
use Rattle.definition.specs.Store.{pattern_words, nothing}
use Rattle.definition.specs.Graph.{vertex, up_to, cells as cells_of}
use Rattle.definition.specs.Analysis.{Numbered}
use Rattle.definition.specs.Classes.{Class, Built, Premises, count_of, is_fixed, add_class}
use Rattle.definition.specs.Figures.{class_vars_of, flex_vars_of}
use Rattle.definition.specs.Frame.{refuse}
use Rattle.definition.specs.Answer.{Lent}
use Rattle.definition.specs.Run.{Run, length_of, outcome}
use Rattle.definition.specs.declared.Refusal.{Refusal}
use Rattle.definition.specs.declared.Refusal.TheVariants.{Short}
use Rattle.definition.proofs.Laws.Grow.{get_d_behind}
use Rattle.theory.specs.Unification.Circle.{length_up_to}
use Rattle.base.specs.Part.{part, length_part, part_same}
use Rattle.base.specs.Outside.{Outside}
use Rattle.store.specs.Words.{begins_long}
use Rattle.store.specs.Stored.{nodes, written}
use Rattle.memo.specs.Recall.{Remembers}
use Rattle.memo.specs.declared.memo.Memo.{Memo}
use Rattle.store.specs.declared.nodes.Store.{Store}
use Rattle.pack_tables.specs.Catalog.{records_of}
use Rattle.pack_tables.specs.declared.catalog.Catalog.{Catalog}
use Rattle.pack_read.specs.Reads.{length-nodes}
use Rattle.pack_read.specs.Held.{Proper}
use Rattle.pack_read.specs.Clause.{words-most}
use Rattle.term_instantiate.specs.Building.{Spells}
use Rattle.graph.specs.declared.graph.Graph.{Graph as Counts}
use Rattle.graph.specs.Cells.{nodes_few}
use Rattle.class_keys.specs.declared.classes.Keying.{Keying}
use Rattle.class_keys.specs.declared.classes.Counts.{Counts as KeyCounts}
use Rattle.theory.specs.Making.Runs.{outcome-note, outcome_short}
use Rattle.theory.specs.Making.Resolves.{resolve-most}
use Rattle.theory.specs.Making.Variables.{VariablesBelow, bounded_then, resolve_bounded}
use Rattle.class_premises.specs.Layout.{table_in, copies_at}
use Rattle.class_premises.specs.Joins.{copies_in}
use Rattle.class_premises.specs.declared.layout.Layout.{Layout}
use Rattle.class_premises.specs.declared.premises.Ruling.{Ruling}
use Rattle.class_premises.specs.declared.premise.Reached.{Reached}
use Rattle.class_premises.specs.declared.building.Building.{Building}
use Rattle.class_premises.specs.Buffers.{Buffers, handed}
use Rattle.class_premises.specs.Standing.{Standing, standing_cells}
use Rattle.class_premises.specs.Added.{built_with, add_short_patterns, add_short_row, add_fine}
use Rattle.class_premises.specs.More.{standing_more}
use Rattle.class_premises.specs.Grown.{Grown, grown-count, grown-counted, grown-place, grown-adds}
use Rattle.term_readback.specs.Asked.{graph_long}
use Rattle.class_conclude.specs.Entries.{renamed}
use Rattle.class_conclude.specs.Beyond.{valued_beyond}
use Rattle.class_conclude.specs.Concludes.{Here, Concluding, GraphShort, PatternsShort, Concludes}
use Rattle.class_conclude.specs.Concludes as concluded
use Rattle.class_conclude.specs.declared.conclude.Ending.{Ending}
use Rattle.class_conclude.specs.declared.conclude.Concluded.{Concluded}
use Rattle.class_solve.specs.Stages.{top_of, conclusion_of, entries_of, class_of, rest}
use Rattle.class_solve.specs.Valuing.{Valued-as}
use Rattle.class_rule.specs.Marks.{Numbered as Marks, Writing, Writes, writes_row}
use Rattle.class_rule.specs.Done.{Few, Done, Refused as RefusedRun}
use Rattle.class_premises.specs.declared.building.Counted.{Counted}

-- ---- what is asked and answered
-- the premises have their values, and class i is the next
pub record Solved (bytes work class words cells : List ℕ) (c : Catalog) (k : Keying) (l : Layout) (r : KeyCounts) (st : Store) (memo : Memo) (g : Counts) (env : List ℕ) (u : Ruling) (from copies fill i : ℕ)
    (P : Pack) (b : Built) (refs : List ℕ) (ps : Premises) : Type 0 where
  pub valued : Valued-as bytes work class words cells c k l r st memo fill g env u from copies P b refs ps
  pub number : i ≡ length b.classes
  pub more : i < length (keys_of P).classes

-- there are such, and the class buffer's places are words
pub record Adding (bytes work class words cells : List ℕ) (c : Catalog) (k : Keying) (l : Layout) (st : Store) (memo : Memo) (g : Counts) (env : List ℕ) (u : Ruling) (from copies fill i : ℕ) : Type 0 where
  pub counts : KeyCounts
  pub pack : Pack
  pub built : Built
  pub refs : List ℕ
  pub state : Premises
  pub solved : Solved bytes work class words cells c k l counts st memo g env u from copies fill i pack built refs state
  pub small : length class < 4294967296

-- of whatever was solved, by what is left to do
abbrev pub Whatever : List ℕ → List ℕ → List ℕ → List ℕ → List ℕ → Catalog → Keying → Layout → Store → Memo → Counts → List ℕ → Ruling → ℕ → ℕ → ℕ → ℕ → (KeyCounts → Pack → Built → Run Built → Type 0) → Type 0
Whatever bytes work class words cells c k l st memo g env u from copies fill i F =
    (r : KeyCounts) (P : Pack) (b : Built) (refs : List ℕ) (ps : Premises) (Z : Solved bytes work class words cells c k l r st memo g env u from copies fill i P b refs ps)
    → F r P b (rest P b u.rule u.vars ps Z.valued.values)

-- what `add_class` answers
abbrev pub Adds : List ℕ → List ℕ → List ℕ → List ℕ → List ℕ → List ℕ → List ℕ → List ℕ → List ℕ → Catalog → Keying → Layout → Store → Memo → Counts → List ℕ → Ruling → ℕ → ℕ → ℕ → ℕ → Result (Building × Counted) Refusal → Type 0
Adds bytes work class words cells work' class' words' cells' c k l st memo g env u from copies fill i (Ok (s', f)) =
    (s' ≡ handed c k l s'.store s'.memo s'.fill)
    × Whatever bytes work class words cells c k l st memo g env u from copies fill i (λ r P b run. Done class words cells bytes work' class' words' cells' c k l r s'.store s'.memo s'.fill f P b run)
    × (words' ≡ written (nodes words' s'.store) words)
    × Outside l.rows l.end work work'
    × Outside fill s'.fill class class'
Adds bytes work class words cells work' class' words' cells' c k l st memo g env u from copies fill i (Err z) =
    Whatever bytes work class words cells c k l st memo g env u from copies fill i (λ r P b run. RefusedRun class words cells run z)

-- both of buffers that are lent, what is at hand and what is reached
abbrev pub AddingIn : Buffers → Building → Reached → List ℕ → Ruling → ℕ → Type 0
AddingIn B s t env u i =
    Adding B.pack B.work B.class B.pattern B.graph s.catalog s.keying s.layout s.store t.memo t.graph env u t.from t.copies s.fill i

abbrev pub AddsIn : Buffers → Buffers → Building → Reached → List ℕ → Ruling → ℕ → Result (Building × Counted) Refusal → Type 0
AddsIn B B' s t env u i r =
    Adds B.pack B.work B.class B.pattern B.graph B'.work B'.class B'.pattern B'.graph s.catalog s.keying s.layout s.store t.memo t.graph env u t.from t.copies s.fill i r

-- ---- the definition alone
module _ (P : Pack) (b : Built) (r n : ℕ) (ps : Premises) (vs : List Bound) (L : Lent) where
  -- the cells have no room for the conclusion's instance
  rest_short : L.graph < cells_of (top_of P r n ps).graph → outcome L (rest P b r n ps vs) ≡ refuse (Short 3)
  unfolding rest length_of
  rest_short h = outcome_short L 3 (cells_of (top_of P r n ps).graph) _ h

  -- they have
  rest-adds : cells_of (top_of P r n ps).graph ≤ L.graph → outcome L (rest P b r n ps vs) ≡ outcome L (add_class b (entries_of P b r n ps vs).state.store (class_of P b r n ps vs))
  unfolding rest length_of
  rest-adds h = outcome-note L 3 (cells_of (top_of P r n ps).graph) _ h

-- no more pass than there are
count_most : {A : Type 0} (f : A → Bool) (xs : List A) → count_of f xs ≤ length xs
unfolding count_of
count_most f [] = omega arith
count_most f (x ∷ xs) = elim (see (f x)) [
  | is true p ↦ rw (p, count_of) (let i = count_most f xs in omega arith)
  | is false p ↦ rw (p, count_of) (let i = count_most f xs in omega arith)
]

-- a rule's conclusion is spelt behind its premises
conclusion_spells : (P : Pack) → Proper P → (r : ℕ) → r < length P.rules → (vars from : ℕ) → vars ≡ length (rule_of P r).vars → from ≡ length (terms_words (rule_of P r).premises)
    → Spells P r vars from (from + length (term_words (rule_of P r).conclusion)) (rule_of P r).conclusion
conclusion_spells P Q r h vars from e f =
    let A = terms_words (rule_of P r).premises in
    let C = term_words (rule_of P r).conclusion in
    record {
      rule = h;
      many = e;
      words = λ j p. ap (λ (a : ℕ). get_or (A ++ C) (a + j) 0) f ∙ get_d_behind A C 0 j;
      long = refl;
      within = omega (arith, f, length-append A C);
      few = omega (arith, length-append A C, words-most P Q.good r h);
      sort = prop;
      sorted = (Q.good.rules r h).conclusion;
    }

-- numbers of variables stay below a bound when a class is read back whose variables do
bounded_class : (P : Pack) → Proper P → (b : Built) (r n : ℕ) (ps : Premises) (vs : List Bound) (m : ℕ) → length (entries_of P b r n ps vs).state.numbering ≤ m → VariablesBelow m b.store → VariablesBelow m (entries_of P b r n ps vs).state.store
bounded_class P Q b r n ps vs m h B =
    let top = top_of P r n ps in
    let first : Numbered = record { numbering = []; store = b.store } in
    let d = suc (length top.graph) in
    (bounded_then m first (conclusion_of P b r n ps vs).state (entries_of P b r n ps vs).state (resolve_bounded P Q.good Q.few top.graph vs true m d (top.at ∷ []) first)
    (resolve_bounded P Q.good Q.few top.graph vs false m d ps.copies (conclusion_of P b r n ps vs).state)
    ).bounded h B

module _ (bytes work class words cells : List ℕ) (c : Catalog) (k : Keying) (l : Layout) (st : Store) (memo : Memo) (g : Counts) (env : List ℕ) (u : Ruling) (from copies fill i : ℕ) where
  -- what is concluded
  abbrev pub ending : Ending
  ending = record { rule = u.rule; vars = u.vars; from = from; copies = copies }

  -- ---- of one pack and one state
  module _ (r : KeyCounts) (P : Pack) (b : Built) (refs : List ℕ) (ps : Premises) (Z : Solved bytes work class words cells c k l r st memo g env u from copies fill i P b refs ps) where
    -- what was built stands
    abbrev S : Standing bytes work class words cells c k l r st memo fill P b
    S = Z.valued.here.standing

    -- the premises' values
    abbrev vs : List Bound
    vs = Z.valued.values

    -- the rule is there
    rule_there : u.rule < length P.rules
    rule_there = Z.valued.here.spelt.rule

    -- what `conclude` asks
    here : Here bytes work words cells c l st g env ending P (rule_of P u.rule).conclusion ps.graph Z.valued.values
    unfolding terms_words
    here =
        let W = Z.valued in
        let H = W.here in
        record {
          reads = S.reads;
          proper = S.proper;
          lifts = S.lifts;
          laid = S.placed.laid;
          patterns = S.patterns;
          spells = conclusion_spells P S.proper u.rule rule_there u.vars from H.ruled.vars (omega (arith, H.end));
          env_is = H.env_is;
          wide = H.wide;
          shows = H.shows;
          inner = H.inner;
          ends = W.ends;
          few = H.few_args;
          values = W.stands.values;
          beyond = valued_beyond P ps.graph H.shows.like.forest H.inner (suc (length ps.graph)) ps.instances ps.judgments vs H.inside W.is;
          grounded = W.grounded;
          inside = subst (Below (length ps.graph)) (sym H.copies_are) H.copies_inside;
          copies = omega (arith, H.few, nodes_few cells (table_in work l) g H.shows.laid, H.shows.laid.fits);
          some = omega (arith, S.lifts.laid.many, length-nodes bytes (records_of work c) P S.reads, (S.proper.good.steps u.step H.ruled.step).judgment.given);
        }

    -- what depends on the environment, the store and the copies is what the definition has
    by_definition : (F : List ℕ → List Node → List ℕ → Type 0) → F env (nodes words st) (copies_in work cells l copies) → F (up_to u.vars) b.store ps.copies
    by_definition F x =
        let H = Z.valued.here in
        subst (λ (xs : List ℕ). F (up_to u.vars) b.store xs) H.copies_are
        (subst (λ (s : List Node). F (up_to u.vars) s (copies_in work cells l copies)) S.store
        (subst (λ (e : List ℕ). F e (nodes words st) (copies_in work cells l copies)) H.env_is x))

    -- the cells have no room
    full : GraphShort bytes work words cells c l st g env ending → RefusedRun class words cells (rest P b u.rule u.vars ps Z.valued.values) (Short 3)
    full C L e =
        let h = by_definition (λ v s xs. length cells < cells_of (concluded.top_of (rule_of P u.rule).conclusion v ps.graph).graph) (C P (rule_of P u.rule).conclusion ps.graph vs here) in
        rest_short P b u.rule u.vars ps vs L (omega (arith, h, e.cells_long))

    -- the words have none
    short : PatternsShort bytes work words cells c l st g env ending → RefusedRun class words cells (rest P b u.rule u.vars ps Z.valued.values) (Short 2)
    short C L e =
        let t = (rule_of P u.rule).conclusion in
        let h = by_definition
        (λ v s xs. (cells_of (concluded.top_of t v ps.graph).graph ≤ length cells) × (length words < length (pattern_words (concluded.entries_of P t v ps.graph vs s xs).state.store)))
        (C P t ps.graph vs here) in
        rest-adds P b u.rule u.vars ps vs L (omega (arith, h.0, e.cells_long))
        ∙ add_short_patterns L b (entries_of P b u.rule u.vars ps vs).state.store (class_of P b u.rule u.vars ps vs) (omega (arith, h.1, e.words_long))

    -- ---- when it was read
    module _ (work₁ words₁ cells₁ : List ℕ) (g₁ : Counts) (st₁ : Store) (q : Concluded) (more-words : length words₁ ≡ length words) (more-cells : length cells₁ ≡ length cells)
        (C : Concludes bytes work words cells work₁ words₁ cells₁ c l st g env ending (Ok (g₁, st₁, q))) where
      -- the class
      abbrev x : Class
      x = class_of P b u.rule u.vars ps Z.valued.values

      -- what was read is what the definition has
      read : concluded.Done bytes work₁ words₁ cells cells₁ c l st₁ g₁ q P (rule_of P u.rule).conclusion (up_to u.vars) ps.graph Z.valued.values b.store ps.copies
      read =
          let t = (rule_of P u.rule).conclusion in
          by_definition (λ v s xs. concluded.Done bytes work₁ words₁ cells cells₁ c l st₁ g₁ q P t v ps.graph vs s xs) (C.2 P t ps.graph vs here)

      -- the class is added
      rest_read : (L : Lent) → L.graph ≡ length cells → outcome L (rest P b u.rule u.vars ps Z.valued.values) ≡ outcome L (add_class b (nodes words₁ st₁) (class_of P b u.rule u.vars ps Z.valued.values))
      rest_read L e =
          rest-adds P b u.rule u.vars ps vs L (omega (arith, read.room, e))
          ∙ ap (λ (s : List Node). outcome L (add_class b s x)) (sym read.store)

      -- its patterns fit
      patterns_fit : length (pattern_words (nodes words₁ st₁)) ≤ length words
      patterns_fit = omega (arith, begins_long (nodes words₁ st₁) words₁ read.lifts.laid.index.placed.begins, more-words)

      -- the copies' variables are no more than there are cells
      copies_few : length ps.copies ≤ length cells
      copies_few =
          let H = Z.valued.here in
          let n : copies ≤ length cells = omega (arith, H.few, nodes_few cells (table_in work l) g H.shows.laid, H.shows.laid.fits) in
          omega (arith, n, ap length H.copies_are, length_part (l.graph + copies_at cells) copies work (omega (arith, n, S.placed.laid.table, S.placed.laid.inside)))

      -- its variables
      many : length x.flex ≡ q.numbered
      many = length-map (entries_of P b u.rule u.vars ps vs).state.numbering (λ y. (vertex (top_of P u.rule u.vars ps).graph y).flex) ∙ read.many

      -- the store has grown by them
      grown : Grown bytes work words cells work₁ words₁ c l st₁ memo b (class_of P b u.rule u.vars ps Z.valued.values)
      grown =
          let laid = S.placed.laid in
          let F = C.0 in
          record {
            ahead = record { long = F.long; words = F.ahead };
            long = more-words;
            lifts = read.lifts;
            patterns = read.patterns;
            numbers =
                subst (VariablesBelow (length cells + 16)) (sym read.store)
                (bounded_class P S.proper b u.rule u.vars ps vs (length cells + 16) (omega (arith, read.many, read.numbered)) (subst (VariablesBelow (length cells + 16)) S.store S.numbers));
            grows = read.grows;
            remembers =
                subst (λ (t : List ℕ). Remembers t memo)
                (sym (part_same l.copied (l.walk - l.copied) work₁ work (omega (arith, laid.memo, laid.stack, laid.variables, laid.table, laid.inside, F.long)) (omega (arith, laid.memo, laid.stack, laid.variables, laid.table, laid.inside))
                (λ j h. F.between (l.copied + j) (omega arith) (omega (arith, h, laid.memo, laid.stack, laid.variables)))))
                S.remembers;
            stored = omega (arith, read.pattern, read.stored);
            few = omega (arith, many, read.numbered);
          }

      -- one class more
      one_more : length b.classes < length (keys_of P).classes
      one_more = omega (arith, Z.number, Z.more)

      -- the rows end within
      fill_fits : fill ≤ length class
      fill_fits = S.rows.fits

      -- there is no room for the row
      full-rows : length class - fill < 3 + q.numbered → RefusedRun class words cells (rest P b u.rule u.vars ps Z.valued.values) (Short 1)
      full-rows h L e =
          rest_read L e.cells_long
          ∙ add_short_row L b (nodes words₁ st₁) x (omega (arith, e.words_long, patterns_fit)) (omega (arith, h, e.class_long, many, S.filled, fill_fits))

      -- the numbered variables stand in the table
      marks : Marks work₁ cells₁ l g₁ q.numbered (top_of P u.rule u.vars ps).graph (entries_of P b u.rule u.vars ps Z.valued.values).state.numbering
      marks = record {
        shows = read.shows;
        room = omega (arith, S.placed.laid.table, more-cells);
        fits = omega (arith, S.placed.laid.inside, C.0.long);
        few = omega (arith, read.numbered, more-cells);
        numbers = ap (λ (m : ℕ). part (l.graph + (10 * m + 7)) q.numbered work₁) more-cells ∙ read.numbers;
        inside = read.inside;
      }

      module _ (h : 3 + q.numbered ≤ length class - fill) where
        -- the row may be written
        writing : length class < 4294967296 → Writing work₁ class cells₁ k l g₁ fill i q.numbered
        writing small =
            let m = grown-counted bytes work class words cells work₁ words₁ c k l r st st₁ memo memo fill P b x S grown one_more in
            let p = grown-place bytes work class words cells work₁ words₁ c k l r st st₁ memo memo fill P b x S grown one_more in
            let laid = S.placed.laid in
            record {
              counted = omega (arith, m, Z.number);
              place = omega (arith, p, Z.number, laid.index, laid.memo, laid.stack, laid.variables);
              room = omega (arith, h, fill_fits);
              small = small;
              graph = (top_of P u.rule u.vars ps).graph;
              nodes = (entries_of P b u.rule u.vars ps vs).state.numbering;
              numbered = marks;
            }

        module _ (work₂ class₂ : List ℕ) (flex : ℕ) (W : Writes work₁ class work₂ class₂ cells₁ k l g₁ fill i q.pattern.0 q.numbered flex) where
          -- nothing else was written
          places : Outside l.rows l.end work work₂
          places =
              let p = grown-place bytes work class words cells work₁ words₁ c k l r st st₁ memo memo fill P b x S grown one_more in
              let O = W.begun.places in
              let F = C.0 in
              let laid = S.placed.laid in
              record {
                long = O.long ∙ F.long;
                ahead = λ j m. O.ahead j (omega arith) ∙ F.ahead j (omega (arith, p));
                behind = λ j m. O.behind j (omega (arith, p, Z.number, laid.index, laid.memo, laid.stack, laid.variables, laid.table)) ∙ F.behind j (omega (arith, laid.table));
              }

          -- its variables, and those that are flexible
          vars_are : class_vars_of x ≡ q.numbered
          unfolding class_vars_of
          vars_are = many

          flex_are : flex_vars_of x ≡ flex
          unfolding flex_vars_of
          flex_are = sym (W.counted (top_of P u.rule u.vars ps).graph (entries_of P b u.rule u.vars ps vs).state.numbering marks)

          -- what figures count is no more than there are cells
          few_counted : Few (length cells) (record { vars = q.numbered; flex = flex; fixed = q.fixed; entries = q.entries; renamings = q.renamings })
          few_counted =
              let top = (top_of P u.rule u.vars ps).graph in
              let e = entries_of P b u.rule u.vars ps vs in
              let nodes : length top ≤ length cells =
              omega (arith, graph_long cells₁ (table_in work₁ l) g₁ top read.shows, nodes_few cells₁ (table_in work₁ l) g₁ read.shows.laid, read.shows.laid.fits, more-cells) in
              record {
                vars = read.numbered;
                flex = W.some;
                fixed = omega (arith, read.fixed, count_most (is_fixed top vs e.state.numbering) (up_to (length top)), length_up_to (length top), nodes);
                entries = omega (arith, read.entries, resolve-most (suc (length top)) P top vs false ps.copies (conclusion_of P b u.rule u.vars ps vs).state, copies_few);
                renamings = omega (arith, read.entries, read.renamings, count_most (renamed e.state.store) e.patterns);
              }

          -- the class is made
          done : Done class words cells bytes work₂ class₂ words₁ cells₁ c k l r st₁ memo (fill + 3 + q.numbered) (record { vars = q.numbered; flex = flex; fixed = q.fixed; entries = q.entries; renamings = q.renamings }) P b (rest P b u.rule u.vars ps Z.valued.values)
          done =
              let count = grown-count bytes work class words cells work₁ words₁ c k l r st st₁ memo memo fill P b x S grown one_more in
              let j = length b.classes in
              let Y : Writes work₁ class work₂ class₂ cells₁ k l g₁ fill (length b.classes) q.pattern.0 q.numbered flex = subst (λ (m : ℕ). Writes work₁ class work₂ class₂ cells₁ k l g₁ fill m q.pattern.0 q.numbered flex) Z.number W in
              let R = writes_row work₁ class work₂ class₂ cells₁ k l g₁ fill j q.pattern.0 q.numbered flex x (top_of P u.rule u.vars ps).graph (entries_of P b u.rule u.vars ps vs).state.numbering Y marks
              read.pattern refl (sym read.many) (get_or (keys_of P).classes j no_keyed).count count in
              let D = grown-adds bytes work class words cells work₁ words₁ c k l r st st₁ memo memo fill P b x S grown one_more work₂ Y.between class₂ q.pattern.0 _ q.numbered Y.begun R in
              let e : fill + 3 + length x.flex ≡ fill + 3 + q.numbered = ap (λ (m : ℕ). fill + 3 + m) many in
              record {
                built = built_with b (nodes words₁ st₁) x;
                standing =
                    subst (λ (f : ℕ). Standing bytes work₂ class₂ words₁ cells₁ c k l r st₁ memo f P (built_with b (nodes words₁ st₁) x)) e
                    (standing_cells bytes work₂ class₂ words₁ cells cells₁ c k l r st₁ memo (fill + 3 + length x.flex) P (built_with b (nodes words₁ st₁) x) more-cells
                    (standing_more bytes work class words cells work₂ class₂ words₁ c k l r st st₁ memo memo fill P b x S D));
                is = λ L v. rest_read L v.cells_long ∙ add_fine L b (nodes words₁ st₁) x (omega (arith, v.words_long, patterns_fit)) (omega (arith, v.class_long, h, many, S.filled, fill_fits));
                longer = length-append b.classes (x ∷ []);
                made = x;
                last = refl;
                grows = read.grows;
                few = few_counted;
                vars = vars_are;
                flex = flex_are;
                fixed = sym read.fixed;
                entries = sym read.entries;
                renamings = sym read.renamings;
              }

  -- ---- what `add_class` needs
  module _ (K : Adding bytes work class words cells c k l st memo g env u from copies fill i) where
    -- the conclusion is asked for
    pub adding_concludes : Concluding bytes work words cells c l st g env (record { rule = u.rule; vars = u.vars; from = from; copies = copies })
    adding_concludes = record {
      pack = K.pack;
      term = (rule_of K.pack u.rule).conclusion;
      graph = K.state.graph;
      values = K.solved.valued.values;
      here = here K.counts K.pack K.built K.refs K.state K.solved;
    }

    -- the cells have no room, or the words have none
    pub adds-refused : (work₁ words₁ cells₁ work' class' words' cells' : List ℕ) (z : Refusal) → Concludes bytes work words cells work₁ words₁ cells₁ c l st g env ending (Err z)
        → Adds bytes work class words cells work' class' words' cells' c k l st memo g env u from copies fill i (Err z)
    adds-refused work₁ words₁ cells₁ work' class' words' cells' z (inl C) r P b refs ps Z L e = full r P b refs ps Z C.1 L e ∙ ap refuse (sym C.0)
    adds-refused work₁ words₁ cells₁ work' class' words' cells' z (inr C) r P b refs ps Z L e = short r P b refs ps Z C.1 L e ∙ ap refuse (sym C.0)

    module _ (work₁ words₁ cells₁ : List ℕ) (g₁ : Counts) (st₁ : Store) (q : Concluded) (more-words : length words₁ ≡ length words) (more-cells : length cells₁ ≡ length cells)
        (C : Concludes bytes work words cells work₁ words₁ cells₁ c l st g env ending (Ok (g₁, st₁, q))) where
      -- the rows end within the class buffer, and its variables are few
      pub adding_few : (fill ≤ length class) × (q.numbered ≤ length cells) × (length cells < nothing)
      adding_few =
          let R = read K.counts K.pack K.built K.refs K.state K.solved work₁ words₁ cells₁ g₁ st₁ q more-words more-cells C in
          (fill_fits K.counts K.pack K.built K.refs K.state K.solved work₁ words₁ cells₁ g₁ st₁ q more-words more-cells C, R.numbered, K.solved.valued.here.shows.laid.small)

      -- there is no room for the row
      pub adds-full-rows : (work' class' words' cells' : List ℕ) → length class - fill < 3 + q.numbered → Adds bytes work class words cells work' class' words' cells' c k l st memo g env u from copies fill i (Err (Short 1))
      adds-full-rows work' class' words' cells' h r P b refs ps Z = full-rows r P b refs ps Z work₁ words₁ cells₁ g₁ st₁ q more-words more-cells C h

      module _ (h : 3 + q.numbered ≤ length class - fill) where
        -- the row may be written
        pub adding_writes : Writing work₁ class cells₁ k l g₁ fill i q.numbered
        adding_writes = writing K.counts K.pack K.built K.refs K.state K.solved work₁ words₁ cells₁ g₁ st₁ q more-words more-cells C h K.small

        -- the class is made
        pub adds : (work₂ class₂ : List ℕ) (flex : ℕ) → Writes work₁ class work₂ class₂ cells₁ k l g₁ fill i q.pattern.0 q.numbered flex
            → Adds bytes work class words cells work₂ class₂ words₁ cells₁ c k l st memo g env u from copies fill i (Ok ((handed c k l st₁ memo (fill + 3 + q.numbered)), (record { vars = q.numbered; flex = flex; fixed = q.fixed; entries = q.entries; renamings = q.renamings })))
        adds work₂ class₂ flex W = (
          refl,
          (λ r P b refs ps Z. done r P b refs ps Z work₁ words₁ cells₁ g₁ st₁ q more-words more-cells C h work₂ class₂ flex W),
          C.1,
          places K.counts K.pack K.built K.refs K.state K.solved work₁ words₁ cells₁ g₁ st₁ q more-words more-cells C h work₂ class₂ flex W,
          (let O = W.begun.rows in
              record { long = W.outside.long ∙ O.long; ahead = λ j m. W.outside.ahead j (omega arith) ∙ O.ahead j m; behind = λ j m. W.outside.behind j m ∙ O.behind j (omega arith) }),
        )
