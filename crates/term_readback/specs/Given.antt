-- A variable read back by its number or by its value, and an application over its arguments.
use Rattle.std.specs.Prelude.{◌≡◌, refl, Bool, true, false, ◌||◌, ℕ, zero, suc, ◌+◌, ◌-◌, ◌≤◌, ◌<◌, length, get_or, set, take, drop}
use Rattle.std.proofs.Math.Path.{sym, ap, ap₂}
use Rattle.std.proofs.Common.{◌∙◌, length-set, get_or-set_other}
use mathlib.Core.List.{List, [], ◌∷◌, ◌++◌, map}
use Rattle.std.proofs.Math.Option.{none, some}
use native.Mathlib.Omega.{arith}
use Rattle.definition.specs.Test.{is, see, never}
use Rattle.definition.specs.Pack.{Node, Pack}
use Rattle.definition.specs.Good.{Below}
use Rattle.definition.specs.Tree.{tree_of}
use Rattle.definition.specs.Verdict.{Bound, value_of}
use Rattle.definition.specs.Store.{Stored as Placing, variable_head, variable_node, intern}
use Rattle.definition.specs.Graph.{Graph, vertex, root}
use Rattle.definition.specs.Analysis.{copied, lift, ResolvedOne, number_of, resolve_variable, resolve_at}
use Rattle.theory.specs.Unification.Forest.{root_inside}
use Rattle.theory.specs.Walks.Again.{stored, headed}
use Rattle.theory.specs.Walks.Memo.{has}
use Rattle.theory.specs.Walks.Reading.{numbered_as, resolved_one}
use Rattle.theory.specs.Walks.Resolving.{Resolving, is_read_whole}
use Rattle.base.specs.Word.{word_of}
use Rattle.base.specs.Part.{part, part_at, length_part}
use Rattle.base.specs.Probe.{taken}
use Rattle.store.specs.Words.{node_with, node_of_law}
use Rattle.store.specs.Stored.{nodes}
use Rattle.store.specs.declared.nodes.Store.{Store}
use Rattle.pack_tables.specs.declared.catalog.Catalog.{Catalog}
use Rattle.pack_read.specs.Held.{reads_on}
use Rattle.term_lift.specs.Lifts.{Lifts, Apart}
use Rattle.term_lift.specs.Nodes.{laid_same}
use Rattle.term_lift.specs.declared.lift.Lifted.{Lifted}
use Rattle.graph.specs.declared.graph.Graph.{Graph as Counts}
use Rattle.graph.specs.Cells.{rows_end, shows_rows}
use Rattle.graph.specs.Nodes.{SortOf}
use Rattle.term_readback.specs.declared.table.Table.{Table}
use Rattle.term_readback.specs.Words.{values_at, patterns_at, numbers_at, table_end, table_in, marks_in, Says, Lies, Holding, Framed}
use Rattle.term_lift.specs.Kept.{lifts_on}
use Rattle.term_readback.specs.Moved.{taken-most, table_at, table_long, nodes-most, table-room, table_apart, lies_apart}
use Rattle.term_readback.specs.Asked.{graph_long}
use Rattle.term_readback.specs.Keys.{pattern_of}
use Rattle.term_readback.specs.Roots.{Open, Named, Fixed, Applied, reads_as, Given}

-- where neither of two holds the first does not
or_left : (a b : Bool) → (a || b) ≡ false → a ≡ false
or_left true b e = e
or_left false b e = refl

-- ---- what the words say of a root
-- a root has a word in the table that says whether it was read back
pub unread_word : (cells table words : List ℕ) (g : Counts) (st : Store) (n : ℕ) (s : Resolving) → Says cells table words g st n s → (x : ℕ) → is_read_whole s x ≡ false → get_or (marks_in cells table g) x 0 ≡ 0
unfolding is_read_whole has
unread_word cells table words g st n s S x u = elim (see (value_of x s.memo)) [
  | is none e ↦ sym (S.memo x) ∙ ap word_of e
  | is (some p) e ↦ let q : true ≡ false = rw e at u in never (cc)
]

-- one that was read back has one that says something
pub read_word : (cells table words : List ℕ) (g : Counts) (st : Store) (n : ℕ) (s : Resolving) → Says cells table words g st n s → (x : ℕ) → is_read_whole s x ≡ true → 0 < get_or (marks_in cells table g) x 0
unfolding is_read_whole has
read_word cells table words g st n s S x u = elim (see (value_of x s.memo)) [
  | is (some p) e ↦ omega (arith, S.memo x, ap word_of e)
  | is none e ↦ let q : false ≡ true = rw e at u in never (cc)
]

-- what it was read back as
pub copied-word : (cells table words : List ℕ) (g : Counts) (st : Store) (n : ℕ) (s : Resolving) → Says cells table words g st n s → (x : ℕ) → x < g.nodes → copied s.memo x ≡ pattern_of cells table x
unfolding copied
copied-word cells table words g st n s S x h =
    let w = S.memo x ∙ part_at (patterns_at cells) g.nodes table x h in
    elim (see (value_of x s.memo)) [
      | is none e ↦ rw (e, copied) (let v = sym (ap word_of e) ∙ w in omega arith)
      | is (some p) e ↦ rw (e, copied) (let v = sym (ap word_of e) ∙ w in omega arith)
    ]

-- a root that was not read back has no number
pub unread_none : (cells table words : List ℕ) (g : Counts) (st : Store) (n : ℕ) (s : Resolving) → Says cells table words g st n s → (x : ℕ) → is_read_whole s x ≡ false → number_of x s.state.numbering 0 ≡ none
unread_none cells table words g st n s S x u = elim (see (number_of x s.state.numbering 0)) [
  | is none e ↦ e
  | is (some k) e ↦ let q : true ≡ false = sym (S.known x k e) ∙ u in never (cc)
]

-- fewer words say something than there are where one says nothing
pub taken_less : (xs : List ℕ) (i : ℕ) → i < length xs → get_or xs i 0 ≡ 0 → taken xs < length xs
unfolding taken
taken_less [] i l e = absurd (omega arith)
taken_less (zero ∷ xs) zero l e = omega (arith, taken-most xs)
taken_less (zero ∷ xs) (suc i) l e = let h = taken_less xs i (omega arith) e in omega arith
taken_less (suc y ∷ xs) zero l e = absurd (omega (arith, e))
taken_less (suc y ∷ xs) (suc i) l e = let h = taken_less xs i (omega arith) e in omega arith

-- what is written behind the values leaves all where it stands
pub lies_same : (bytes work words cells : List ℕ) (c : Catalog) (l : Lifted) (t : Table) (st : Store) (g : Counts) (P : Pack) (h : Graph) (vs : List Bound) → Lies bytes work words cells c l t st g P h vs
    → (work' : List ℕ) → length work' ≡ length work → ((i : ℕ) → i < t.at + patterns_at cells → get_or work' i 0 ≡ get_or work i 0) → Lies bytes work' words cells c l t st g P h vs
lies_same bytes work words cells c l t st g P h vs L work' long same =
    let wide : length (table_in t work) ≡ t.end - t.at = table_long t work (omega (arith, L.room)) L.fits in
    let wide' : length (table_in t work') ≡ t.end - t.at = table_long t work' (omega (arith, L.room)) (omega (arith, L.fits)) in
    let word : (i : ℕ) → i < patterns_at cells → get_or (table_in t work') i 0 ≡ get_or (table_in t work) i 0 =
    λ i a. table_at t work' i (omega (arith, L.room)) ∙ same (t.at + i) (omega arith) ∙ sym (table_at t work i (omega (arith, L.room))) in
    record {
      lifts = lifts_on bytes work words c l st work' long (λ j a. same j (omega (arith, L.apart))) L.lifts;
      reads = reads_on bytes work work' c (laid_same bytes work words c l st L.lifts.laid work' long (λ j a. same j (omega (arith, L.apart, L.lifts.laid.fits)))) L.lifts.laid.held.cataloged P L.reads;
      proper = L.proper;
      apart = L.apart;
      room = L.room;
      fits = omega (arith, L.fits, long);
      stands = record {
        shows = shows_rows cells (table_in t work) (table_in t work') g h (record { long = wide' ∙ sym wide; rows = λ i a. word i (omega arith) }) L.stands.shows;
        inner = L.stands.inner;
        ends = L.stands.ends;
        few = L.stands.few;
        values = λ r a. word (values_at cells + r) (omega (arith, nodes-most cells (table_in t work) g h vs L.stands)) ∙ L.stands.values r a;
      };
      below = L.below;
    }

module _ (bytes work words cells : List ℕ) (c : Catalog) (l : Lifted) (t : Table) (st : Store) (g : Counts) (n : ℕ) (everyone : Bool) (x : ℕ) where
  module _ (P : Pack) (h : Graph) (vs : List Bound) (s : Resolving) (H : Holding bytes work words cells c l t st g n everyone P h vs s) (O : Open h s x) where
    -- the table
    abbrev table : List ℕ
    table = table_in t work

    -- the root is one of the nodes
    pub node-given : x < g.nodes
    node-given = omega (arith, O.node, graph_long cells table g h H.lies.stands.shows)

    -- these are no more than the cells
    pub node_few : g.nodes ≤ length cells
    node_few = nodes-most cells table g h vs H.lies.stands

    -- there is room for a number more
    pub number_room : n < g.nodes
    number_room =
        let m = length_part (patterns_at cells) g.nodes table (omega (arith, node_few, table-room bytes work words cells c l t st g work (record { long = refl; ahead = λ i p. refl; behind = λ i p. refl; shows = λ k S. S }) P h vs H.lies)) in
        let k = taken_less (marks_in cells table g) x (omega (arith, node-given)) (unread_word cells table words g st n s H.says x O.unread) in
        omega (arith, H.says.most)

    -- as many are numbered as are counted
    pub number_count : length s.state.numbering ≡ n
    number_count = ap length H.says.numbering ∙ length_part (numbers_at cells) n table (omega (arith, number_room, node_few, table_long t work (omega (arith, H.lies.room)) H.lies.fits, H.lies.room))

    -- it has no number
    pub number_none : number_of x s.state.numbering 0 ≡ none
    number_none = unread_none cells table words g st n s H.says x O.unread

    -- what a variable with a new number is read back as
    pub named_is : Named everyone x h → (key : List ℕ) (sort : ℕ) → SortOf cells table g x sort → key ≡ variable_head ∷ n ∷ sort ∷ [] → (p : ℕ) (s' : List Node) → intern (nodes words st) (node_with key) ≡ stored p s'
        → reads_as P h vs everyone x s ≡ resolved_one p (numbered_as (s.state.numbering ++ (x ∷ [])) s')
    unfolding resolve_at resolve_variable
    named_is N key sort q k p s' e =
        let m : variable_node (length s.state.numbering) (vertex h x).sort ≡ node_with key = ap₂ variable_node number_count (sym (q h H.lies.stands.shows)) ∙ sym (ap node_with k ∙ node_of_law (variable_node n sort)) in
        let i : intern s.state.store (variable_node (length s.state.numbering) (vertex h x).sort) ≡ stored p s' = ap₂ intern H.says.store m ∙ e in
        rw (N.0, resolve_at, number_none, resolve_variable, N.1) (ap (λ (o : Placing). resolved_one o.number (numbered_as (s.state.numbering ++ (x ∷ [])) o.store)) i)

    -- the word of a variable that is fixed says its ground value, or 0
    pub value-said : get_or table (values_at cells + x) 0 - 1 ≡ copied vs x
    unfolding copied
    value-said =
        let w = H.lies.stands.values x node-given in
        elim (see (value_of x vs)) [
          | is none e ↦ rw (e, copied) (let v = w ∙ ap word_of e in omega arith)
          | is (some m) e ↦ rw (e, copied) (let v = w ∙ ap word_of e in omega arith)
        ]

    -- which is a ground node
    pub value-below : Fixed everyone x h → copied vs x < l.nodes
    unfolding copied
    value-below F = elim (see (value_of x vs)) [
      | is none e ↦ rw (e, copied) (H.grounded (or_left everyone (vertex h x).flex F.1))
      | is (some m) e ↦ rw (e, copied) (H.lies.below x m e)
    ]

    -- what it is read back as
    pub valued_is : Fixed everyone x h → (m : ℕ) → m ≡ copied vs x → (p : ℕ) (s' : List Node) → lift (tree_of P m) (nodes words st) ≡ stored p s'
        → reads_as P h vs everyone x s ≡ resolved_one p (numbered_as s.state.numbering s')
    unfolding resolve_at resolve_variable
    valued_is F m q p s' e =
        let i : lift (tree_of P (copied vs x)) s.state.store ≡ stored p s' = ap₂ (λ (y : ℕ) (a : List Node). lift (tree_of P y) a) (sym q) H.says.store ∙ e in
        rw (F.0, resolve_at, number_none, resolve_variable, F.1) (ap (λ (o : Placing). resolved_one o.number (numbered_as s.state.numbering o.store)) i)

    -- arguments' roots were read back as what their words say
    copied-words : (xs : List ℕ) → Below (length h) xs → map (λ y. pattern_of cells table (root h y)) xs ≡ map (copied s.memo) (map (root h) xs)
    copied-words [] b = refl
    copied-words (y ∷ xs) b =
        let r = root_inside h H.lies.stands.shows.like.forest y b.0 in
        ap₂ ◌∷◌ (sym (copied-word cells table words g st n s H.says (root h y) (omega (arith, graph_long cells table g h H.lies.stands.shows)))) (copied-words xs b.1)

    -- what an application is read back as
    pub applied_is : Applied x h → (key : List ℕ) (k : ℕ) → take k key ≡ (vertex h x).head ∷ map (λ y. pattern_of cells table (root h y)) (vertex h x).args → (p : ℕ) (s' : List Node) → intern (nodes words st) (node_with (take (k - 0) (drop 0 key))) ≡ stored p s'
        → reads_as P h vs everyone x s ≡ resolved_one p (numbered_as s.state.numbering s')
    unfolding resolve_at
    applied_is v key k w p s' e =
        let z : k - 0 ≡ k = omega arith in
        let m : node_with (take (k - 0) (drop 0 key)) ≡ headed (vertex h x).head (map (copied s.memo) (map (root h) (vertex h x).args)) =
        ap (λ (j : ℕ). node_with (take j key)) z ∙ ap node_with w ∙ node_of_law (headed (vertex h x).head (map (λ y. pattern_of cells table (root h y)) (vertex h x).args))
        ∙ ap (headed (vertex h x).head) (copied-words (vertex h x).args (H.lies.stands.inner x O.node)) in
        let i : intern s.state.store (headed (vertex h x).head (map (copied s.memo) (map (root h) (vertex h x).args))) ≡ stored p s' = ap₂ intern H.says.store (sym m) ∙ e in
        rw (v, resolve_at) (ap (λ (o : Placing). resolved_one o.number (numbered_as s.state.numbering o.store)) i)

    -- no number is put down: the words of a state with the same numbers
    pub given-same : (work₁ work' words' : List ℕ) (st' : Store) (p : ℕ) → Holding bytes work₁ words cells c l t st g n everyone P h vs s
        → ((i : ℕ) → rows_end cells ≤ i → i < numbers_at cells → get_or (table_in t work₁) i 0 ≡ get_or (table_in t work) i 0)
        → Apart work₁ work' l → Lifts bytes work' words' c l st' → reads_as P h vs everyone x s ≡ resolved_one p (numbered_as s.state.numbering (nodes words' st')) → p < length (nodes words' st')
        → Given bytes work work' words' cells c l t st' g n n p P h vs (reads_as P h vs everyone x s)
    given-same work₁ work' words' st' p H₁ same A T e w =
        let q = table_apart bytes work₁ words cells c l t st g P h vs H₁.lies work' words' st' A in
        record {
          lies = lies_apart bytes work₁ words cells c l t st g P h vs H₁.lies work' words' st' A T;
          kept = λ i a b. ap (λ (u : List ℕ). get_or u i 0) q ∙ same i a b;
          numbering = ap (λ (o : ResolvedOne). o.state.numbering) e ∙ H₁.says.numbering ∙ ap (part (numbers_at cells) n) (sym q);
          store = ap (λ (o : ResolvedOne). o.state.store) e;
          pattern = ap (λ (o : ResolvedOne). o.pattern) e;
          within = w;
          count = omega arith;
        }

  -- a word of the patterns or the numbers is written
  pub lies_set : (P : Pack) (h : Graph) (vs : List Bound) → Lies bytes work words cells c l t st g P h vs → (i v : ℕ) → patterns_at cells ≤ i → i < table_end cells → Lies bytes (set work (t.at + i) v) words cells c l t st g P h vs
  lies_set P h vs L i v low high = lies_same bytes work words cells c l t st g P h vs L (set work (t.at + i) v) (length-set work (t.at + i) v) (λ j a. get_or-set_other work (t.at + i) j v 0 (λ e. omega (arith, e)))

  -- nothing outside of the table has changed then
  pub framed_set : (P : Pack) (h : Graph) (vs : List Bound) → Lies bytes work words cells c l t st g P h vs → (i v : ℕ) → i < table_end cells → Framed cells work (set work (t.at + i) v) l t
  framed_set P h vs L i v high = record {
    long = length-set work (t.at + i) v;
    ahead = λ j a. get_or-set_other work (t.at + i) j v 0 (λ e. omega (arith, e, L.apart, L.lifts.laid.fits));
    between = λ j a b. get_or-set_other work (t.at + i) j v 0 (λ e. omega (arith, e));
    behind = λ j a. get_or-set_other work (t.at + i) j v 0 (λ e. omega (arith, e));
  }
