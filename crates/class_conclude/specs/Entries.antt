-- The copies' variables read back one by one: what was read of the first gives the next.
use Rattle.std.specs.Prelude.{Option, Some, None}
use Rattle.std.specs.Prelude.{◌≡◌, refl, Bool, true, false, List, [], ◌∷◌, ◌++◌, ℕ, zero, suc, ◌+◌, ◌-◌, ◌≤◌, ◌<◌, length, get_or}
use Rattle.std.proofs.Common.{sym, ap, ◌∙◌, subst, arith, eq-eqb, ne_eqb}
use Rattle.definition.specs.Test.{is, see}
use Rattle.definition.specs.Pack.{Node, no_node, Pack}
use Rattle.definition.specs.Good.{Below}
use Rattle.definition.proofs.Laws.Grow.{below_at}
use Rattle.definition.specs.Verdict.{Bound}
use Rattle.definition.specs.Store.{variable_head, is_variable, pattern_words}
use Rattle.definition.specs.Graph.{Graph}
use Rattle.definition.specs.Analysis.{Numbered, Resolved, resolve}
use Rattle.definition.specs.Classes.{count_of, mark}
use Rattle.theory.specs.Patterns.Interned.{Grows, grows_at}
use Rattle.theory.specs.Patterns.Entries.{resolve_keeps}
use Rattle.theory.specs.Walks.Reading.{resolved_as}
use Rattle.theory.specs.Walks.Resolving.{Resolving}
use Rattle.base.specs.Part.{part, part_at, part-more, length_part}
use Rattle.base.specs.declared.id.Pattern.{Pattern}
use Rattle.store.specs.Stored.{nodes, written}
use Rattle.store.specs.Table.{begins_written}
use Rattle.store.specs.declared.nodes.Store.{Store}
use Rattle.pack_tables.specs.declared.catalog.Catalog.{Catalog}
use Rattle.term_lift.specs.Runs.{words-grow, written_again}
use Rattle.graph.specs.declared.graph.Graph.{Graph as Counts}
use Rattle.class_premises.specs.Layout.{copies_at, copies_end}
use Rattle.class_premises.specs.Joins.{copies_in}
use Rattle.class_premises.specs.declared.layout.Layout.{Layout}
use Rattle.term_readback.specs.Words.{Holding, Ready, Framed}
use Rattle.term_readback.specs.Moved.{framed_none, framed_then}
use Rattle.term_lift.specs.Kept.{Indexed}
use Rattle.term_readback.specs.Stacks.{Answers}
use Rattle.term_readback.specs.declared.table.Table.{Table}
use Rattle.class_premises.specs.Standing.{lifted_of}
use Rattle.theory.specs.Making.Resolves.{resolve_nil, resolve-append, resolve_snoc}
use Rattle.theory.specs.Making.Numbers.{count_snoc}

-- where reading back has the graph's table
abbrev pub table_of : Layout → Table
table_of l = record { at = l.graph; end = l.end }

-- what reading back holds, by a layout
abbrev pub Holds : List ℕ → List ℕ → List ℕ → List ℕ → Catalog → Layout → Store → Counts → ℕ → Bool → Pack → Graph → List Bound → Resolving → Type 0
Holds bytes work words cells c l st g n everyone P h vs s = Holding bytes work words cells c (lifted_of l) (table_of l) st g n everyone P h vs s

-- the node of a copies' variable
abbrev pub copy_at : List ℕ → List ℕ → Layout → ℕ → ℕ
copy_at work cells l i = get_or work (l.graph + copies_at cells + i) 0

-- nodes read back, only flexible variables numbered
abbrev pub read_flex : Pack → Graph → List Bound → List ℕ → Numbered → Resolved
read_flex P h vs xs st = resolve (suc (length h)) P h vs false xs st

-- whether a pattern of a store is a variable
abbrev pub renamed : List Node → ℕ → Bool
renamed s p = is_variable (get_or s p no_node)

-- its head tells
pub renames_in : (s : List Node) (p r : ℕ) → r ≡ (get_or s p no_node).head → r ≡ variable_head → 1 ≡ mark (renamed s p)
unfolding mark is_variable
renames_in s p r e f = ap mark (sym (eq-eqb (get_or s p no_node).head variable_head (sym e ∙ f)))

-- another head
pub renames_out : (s : List Node) (p r : ℕ) → r ≡ (get_or s p no_node).head → (r ≡ variable_head → ⊥) → 0 ≡ mark (renamed s p)
unfolding mark is_variable
renames_out s p r e f = ap mark (sym (ne_eqb (get_or s p no_node).head variable_head (λ q. f (e ∙ q))))

-- ---- one of them
pub record OneAsked (bytes work words cells : List ℕ) (c : Catalog) (l : Layout) (st : Store) (g : Counts) (n i : ℕ) : Type 0 where
  pub ready : Ready bytes work words cells c (lifted_of l) (table_of l) st g n false
  pub there : l.graph + copies_at cells + i < length work
  pub node : copy_at work cells l i < g.nodes

-- its pattern was read
pub record OneRead (bytes work words cells : List ℕ) (c : Catalog) (l : Layout) (st : Store) (g : Counts) (n k : ℕ) (P : Pack) (h : Graph) (vs : List Bound) (s : Resolving) (x : ℕ) : Type 0 where
  pub state : Resolving
  pub pattern : ℕ
  pub holding : Holds bytes work words cells c l st g n false P h vs state
  pub is : read_flex P h vs (x ∷ []) s.state ≡ resolved_as (pattern ∷ []) state.state
  pub renaming : k ≡ mark (renamed state.state.store pattern)

-- what `read_entry` answers
abbrev pub OneReads : List ℕ → List ℕ → List ℕ → List ℕ → List ℕ → List ℕ → Catalog → Layout → Store → Counts → ℕ → ℕ → Option (Store × ℕ × ℕ) → Type 0
OneReads bytes work words work' words' cells c l st g n i (Some (st', n', k)) =
    Framed cells work work' (lifted_of l) (table_of l)
    × (words' ≡ written (nodes words' st') words)
    × (k ≤ 1)
    × ((P : Pack) (h : Graph) (vs : List Bound) (s : Resolving) → Holds bytes work words cells c l st g n false P h vs s → OneRead bytes work' words' cells c l st' g n' k P h vs s (copy_at work cells l i))
OneReads bytes work words work' words' cells c l st g n i None =
    (P : Pack) (h : Graph) (vs : List Bound) (s : Resolving) → Holds bytes work words cells c l st g n false P h vs s → length words < length (pattern_words (read_flex P h vs (copy_at work cells l i ∷ []) s.state).state.store)

-- a mark is one at most
mark-most : (b : Bool) → mark b ≤ 1
unfolding mark
mark-most true = omega arith
mark-most false = omega arith

module _ (bytes work words cells : List ℕ) (c : Catalog) (l : Layout) (st : Store) (g : Counts) (n i : ℕ) (K : OneAsked bytes work words cells c l st g n i) (work' words' : List ℕ) (p : Pattern) (st' : Store) (n' : ℕ)
    (A : Answers bytes work words work' words' cells c (lifted_of l) (table_of l) st g n false (copy_at work cells l i) (Some (p, st', n'))) where
  -- what is held then
  abbrev R : Ready bytes work words cells c (lifted_of l) (table_of l) st g n false
  R = K.ready

  -- the store has the pattern
  pub one-stored : p.0 < length (nodes words' st')
  one-stored =
      let a = A.2 R.pack R.graph R.values R.state R.holding in
      let b : Below (length a.0.state.store) (p.0 ∷ []) = subst (λ (r : Resolved). Below (length r.state.store) r.patterns) a.2 (resolve_keeps R.pack R.graph R.values false (suc (length R.graph)) (copy_at work cells l i ∷ []) R.state.state).1 in
      omega (arith, b.0, ap length a.1.says.store)

  -- its index stands there
  pub one-indexed : Indexed work' words' (lifted_of l) st'
  one-indexed =
      let a = A.2 R.pack R.graph R.values R.state R.holding in
      let L = a.1.lies.lifts.laid in
      record { fits = L.fits; inside = L.inside; index = L.index }

  -- so it is read
  pub one_reads : (k : ℕ) → k ≡ mark (renamed (nodes words' st') p.0) → OneReads bytes work words work' words' cells c l st g n i (Some (st', n', k))
  one_reads k e = (
    A.0,
    A.1,
    omega (arith, e, mark-most (renamed (nodes words' st') p.0)),
    λ P h vs s H.
        let a = A.2 P h vs s H in
        record { state = a.0; pattern = p.0; holding = a.1; is = a.2; renaming = e ∙ ap (λ (z : List Node). mark (renamed z p.0)) (sym a.1.says.store) },
  )

-- ---- all of them
pub record AllAsked (bytes work words cells : List ℕ) (c : Catalog) (l : Layout) (st : Store) (g : Counts) (n copies : ℕ) : Type 0 where
  pub ready : Ready bytes work words cells c (lifted_of l) (table_of l) st g n false
  pub inside : Below g.nodes (copies_in work cells l copies)
  pub few : copies ≤ length cells
  pub there : l.graph + copies_end cells ≤ length work

-- their patterns were read
pub record AllRead (bytes work words cells : List ℕ) (c : Catalog) (l : Layout) (st : Store) (g : Counts) (n k : ℕ) (P : Pack) (h : Graph) (vs : List Bound) (s : Resolving) (xs : List ℕ) : Type 0 where
  pub state : Resolving
  pub patterns : List ℕ
  pub holding : Holds bytes work words cells c l st g n false P h vs state
  pub is : read_flex P h vs xs s.state ≡ resolved_as patterns state.state
  pub renamings : k ≡ count_of (renamed state.state.store) patterns

-- what `read_entries` answers
abbrev pub AllReads : List ℕ → List ℕ → List ℕ → List ℕ → List ℕ → List ℕ → Catalog → Layout → Store → Counts → ℕ → ℕ → Option (Store × ℕ × ℕ) → Type 0
AllReads bytes work words work' words' cells c l st g n copies (Some (st', n', k)) =
    Framed cells work work' (lifted_of l) (table_of l)
    × (words' ≡ written (nodes words' st') words)
    × ((P : Pack) (h : Graph) (vs : List Bound) (s : Resolving) → Holds bytes work words cells c l st g n false P h vs s → AllRead bytes work' words' cells c l st' g n' k P h vs s (copies_in work cells l copies))
AllReads bytes work words work' words' cells c l st g n copies None =
    (P : Pack) (h : Graph) (vs : List Bound) (s : Resolving) → Holds bytes work words cells c l st g n false P h vs s → length words < length (pattern_words (read_flex P h vs (copies_in work cells l copies) s.state).state.store)

-- a larger store has the same of its first patterns as variables
pub count-grown : (s t : List Node) → Grows s t → (ps : List ℕ) → Below (length s) ps → count_of (renamed t) ps ≡ count_of (renamed s) ps
unfolding count_of
count-grown s t G [] b = refl
count-grown s t G (p ∷ ps) b =
    let e : renamed t p ≡ renamed s p = ap is_variable (grows_at s t no_node p G b.0) in
    let r = count-grown s t G ps b.1 in
    elim (see (renamed s p)) [
      | is true q ↦ let q' = e ∙ q in rw (q, q', count_of) (ap suc r)
      | is false q ↦ let q' = e ∙ q in rw (q, q', count_of) r
    ]

-- ---- the loop
-- so many were read
pub record Going (bytes work₀ words₀ work words cells : List ℕ) (c : Catalog) (l : Layout) (st₀ st : Store) (g : Counts) (n₀ n copies i k : ℕ) : Type 0 where
  pub framed : Framed cells work₀ work (lifted_of l) (table_of l)
  pub long : length words ≡ length words₀
  pub are : words ≡ written (nodes words st) words₀
  pub low : i ≤ copies
  pub few : k ≤ i
  pub each : (P : Pack) (h : Graph) (vs : List Bound) (s : Resolving) → Holds bytes work₀ words₀ cells c l st₀ g n₀ false P h vs s → AllRead bytes work words cells c l st g n k P h vs s (copies_in work₀ cells l i)

-- none was
pub going_none : (bytes work words cells : List ℕ) (c : Catalog) (l : Layout) (st : Store) (g : Counts) (n copies : ℕ) → AllAsked bytes work words cells c l st g n copies → Going bytes work words work words cells c l st st g n n copies 0 0
unfolding count_of part
going_none bytes work words cells c l st g n copies K = record {
  framed = framed_none cells work (lifted_of l) (table_of l);
  long = refl;
  are = begins_written (nodes words st) words K.ready.holding.lies.lifts.laid.index.placed.begins;
  low = omega arith;
  few = omega arith;
  each = λ P h vs s H. record { state = s; patterns = []; holding = H; is = resolve_nil (length h) P h vs false s.state; renamings = refl };
}

-- the store when the first i copies' variables of a list of words were read
abbrev store_at : List ℕ → List ℕ → Layout → Pack → Graph → List Bound → Numbered → ℕ → List Node
store_at work cells l P h vs st i = (read_flex P h vs (copies_in work cells l i) st).state.store

module _ (bytes work₀ words₀ cells : List ℕ) (c : Catalog) (l : Layout) (st₀ : Store) (g : Counts) (n₀ copies : ℕ) (K : AllAsked bytes work₀ words₀ cells c l st₀ g n₀ copies) where
  -- the list with one more
  list_more : (i : ℕ) → i < copies → copies_in work₀ cells l (i + 1) ≡ copies_in work₀ cells l i ++ (copy_at work₀ cells l i ∷ [])
  list_more i h = part-more (l.graph + copies_at cells) i work₀ (omega (arith, K.few, K.there))

  -- the store only grows
  store_more : (P : Pack) (h : Graph) (vs : List Bound) (st : Numbered) (i : ℕ) → i < copies → length (pattern_words (store_at work₀ cells l P h vs st i)) ≤ length (pattern_words (store_at work₀ cells l P h vs st (i + 1)))
  store_more P h vs st i m =
      let a = read_flex P h vs (copies_in work₀ cells l i) st in
      let e = ap (λ (xs : List ℕ). (read_flex P h vs xs st).state.store) (list_more i m) ∙ ap (λ (r : Resolved). r.state.store) (resolve-append (length h) P h vs false (copies_in work₀ cells l i) (copy_at work₀ cells l i ∷ []) st) in
      let G = (resolve_keeps P h vs false (suc (length h)) (copy_at work₀ cells l i ∷ []) a.state).0.grows in
      omega (arith, words-grow a.state.store (read_flex P h vs (copy_at work₀ cells l i ∷ []) a.state).state.store G, ap (λ (z : List Node). length (pattern_words z)) e)

  -- by any number of them
  store_most : (P : Pack) (h : Graph) (vs : List Bound) (st : Numbered) (i m : ℕ) → i + m ≤ copies → length (pattern_words (store_at work₀ cells l P h vs st i)) ≤ length (pattern_words (store_at work₀ cells l P h vs st (i + m)))
  store_most P h vs st i zero b = let e : i + 0 ≡ i = omega arith in omega (arith, ap (λ (j : ℕ). length (pattern_words (store_at work₀ cells l P h vs st j))) e)
  store_most P h vs st i (suc m) b =
      let e : i + suc m ≡ i + m + 1 = omega arith in
      let r = store_most P h vs st i m (omega arith) in
      let q = store_more P h vs st (i + m) (omega arith) in
      omega (arith, r, q, ap (λ (j : ℕ). length (pattern_words (store_at work₀ cells l P h vs st j))) e)

  module _ (work words : List ℕ) (st : Store) (n i k : ℕ) (G : Going bytes work₀ words₀ work words cells c l st₀ st g n₀ n copies i k) (more : i < copies) where
    -- what is held then
    abbrev first : AllRead bytes work words cells c l st g n k K.ready.pack K.ready.graph K.ready.values K.ready.state (copies_in work₀ cells l i)
    first = G.each K.ready.pack K.ready.graph K.ready.values K.ready.state K.ready.holding

    -- the variable's word is as it was
    copy-same : copy_at work cells l i ≡ copy_at work₀ cells l i
    copy-same = G.framed.behind (l.graph + copies_at cells + i) (omega arith)

    -- it may be asked for
    pub going_asked : OneAsked bytes work words cells c l st g n i
    going_asked = record {
      ready = record { pack = K.ready.pack; graph = K.ready.graph; values = K.ready.values; state = first.state; holding = first.holding };
      there = omega (arith, K.few, K.there, G.framed.long);
      node =
          let b = below_at g.nodes (copies_in work₀ cells l copies) i K.inside (omega (arith, length_part (l.graph + copies_at cells) copies work₀ (omega (arith, K.few, K.there)))) in
          omega (arith, copy-same, b, part_at (l.graph + copies_at cells) copies work₀ i more);
    }

    -- the store grows by one
    one_grows : (work' words' : List ℕ) (st' : Store) (n' k' : ℕ) (P : Pack) (h : Graph) (vs : List Bound) (s : Resolving) (x : ℕ) (o : OneRead bytes work' words' cells c l st' g n' k' P h vs s x) → Grows s.state.store o.state.state.store
    one_grows work' words' st' n' k' P h vs s x o = subst (λ (r : Resolved). Grows s.state.store r.state.store) o.is (resolve_keeps P h vs false (suc (length h)) (x ∷ []) s.state).0.grows

    -- it was read
    pub going_on : (work' words' : List ℕ) (st' : Store) (n' k' : ℕ) → length words' ≡ length words → OneReads bytes work words work' words' cells c l st g n i (Some (st', n', k')) → Going bytes work₀ words₀ work' words' cells c l st₀ st' g n₀ n' copies (i + 1) (k + k')
    going_on work' words' st' n' k' long O = record {
      framed = framed_then cells work₀ work work' (lifted_of l) (table_of l) G.framed O.0;
      long = long ∙ G.long;
      are =
          let o = O.3 K.ready.pack K.ready.graph K.ready.values first.state first.holding in
          let grown : Grows (nodes words st) (nodes words' st') =
          subst (λ (z : List Node). Grows (nodes words st) z) o.holding.says.store
          (subst (λ (z : List Node). Grows z o.state.state.store) first.holding.says.store (one_grows work' words' st' n' k' K.ready.pack K.ready.graph K.ready.values first.state (copy_at work cells l i) o)) in
          O.1 ∙ ap (written (nodes words' st')) G.are ∙ written_again (nodes words st) (nodes words' st') words₀ grown;
      low = omega arith;
      few = omega (arith, G.few, O.2);
      each = λ P h vs s H.
          let a = G.each P h vs s H in
          let o = O.3 P h vs a.state a.holding in
          let f = renamed o.state.state.store in
          let grown = one_grows work' words' st' n' k' P h vs a.state (copy_at work cells l i) o in
          let b : Below (length a.state.state.store) a.patterns = subst (λ (r : Resolved). Below (length r.state.store) r.patterns) a.is (resolve_keeps P h vs false (suc (length h)) (copies_in work₀ cells l i) s.state).1 in
          record {
            state = o.state;
            patterns = a.patterns ++ (o.pattern ∷ []);
            holding = o.holding;
            is =
                ap (λ (xs : List ℕ). read_flex P h vs xs s.state) (list_more i more ∙ ap (λ (x : ℕ). copies_in work₀ cells l i ++ (x ∷ [])) (sym copy-same))
                ∙ resolve_snoc (length h) P h vs false (copies_in work₀ cells l i) (copy_at work cells l i) s.state (resolved_as a.patterns a.state.state) (resolved_as (o.pattern ∷ []) o.state.state) a.is o.is;
            renamings =
                omega (arith, count_snoc (renamed o.state.state.store) a.patterns o.pattern, count-grown a.state.state.store o.state.state.store grown a.patterns b, a.renamings, o.renaming);
          };
    }

    -- there is no room for it
    pub going_short : (work' words' : List ℕ) → OneReads bytes work words work' words' cells c l st g n i None → AllReads bytes work₀ words₀ work' words' cells c l st₀ g n₀ copies None
    going_short work' words' O P h vs s H =
        let a = G.each P h vs s H in
        let o = O P h vs a.state a.holding in
        let e = resolve_snoc (length h) P h vs false (copies_in work₀ cells l i) (copy_at work cells l i) s.state (resolved_as a.patterns a.state.state) (read_flex P h vs (copy_at work cells l i ∷ []) a.state.state) a.is refl in
        let q : store_at work₀ cells l P h vs s.state (i + 1) ≡ (read_flex P h vs (copy_at work cells l i ∷ []) a.state.state).state.store =
        ap (λ (xs : List ℕ). (read_flex P h vs xs s.state).state.store) (list_more i more ∙ ap (λ (x : ℕ). copies_in work₀ cells l i ++ (x ∷ [])) (sym copy-same)) ∙ ap (λ (r : Resolved). r.state.store) e in
        let j : i + 1 + (copies - (i + 1)) ≡ copies = omega arith in
        let m = store_most P h vs s.state (i + 1) (copies - (i + 1)) (omega arith) in
        omega (arith, o, m, ap (λ (z : List Node). length (pattern_words z)) q, ap (λ (d : ℕ). length (pattern_words (store_at work₀ cells l P h vs s.state d))) j, G.long)

  -- all were read
  pub going_done : (work words : List ℕ) (st : Store) (n i k : ℕ) → Going bytes work₀ words₀ work words cells c l st₀ st g n₀ n copies i k → copies ≤ i → AllReads bytes work₀ words₀ work words cells c l st₀ g n₀ copies (Some (st, n, k))
  going_done work words st n i k G done =
      let e : i ≡ copies = omega (arith, G.low) in
      (G.framed, G.are, λ P h vs s H. subst (λ (j : ℕ). AllRead bytes work words cells c l st g n k P h vs s (copies_in work₀ cells l j)) e (G.each P h vs s H))
