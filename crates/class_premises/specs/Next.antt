-- The premises that are left while one after the other is taken.
use Rattle.std.specs.Prelude.{Result, Ok, Err}
use Rattle.std.specs.Prelude.{◌≡◌, refl, Bool, List, [], ◌∷◌, ◌++◌, ℕ, zero, suc, ◌+◌, ◌*◌, ◌≤◌, ◌<◌, drop}
use Rattle.std.proofs.Common.{sym, ap₂, ◌∙◌, subst, inl, inr, drop-cons, get_or-take}
use Rattle.std.proofs.Math.Path.{ap}
use Rattle.std.proofs.Math.Option.{some}
use native.Mathlib.Omega.{arith}
use Rattle.std.proofs.Math.ListN.{length, get_or, length-append, get_or-append}
use Rattle.std.proofs.lemmas.List.{length-map}
use Rattle.definition.specs.Pack.{Term, Terms, nil, cons, Node, Pack, rule_of, step_of}
use Rattle.definition.specs.Certificate.{count}
use Rattle.definition.specs.Good.{Below, SortedAll}
use Rattle.definition.proofs.Laws.Grow.{below_more, below_at, below_both, map_at, get_d_behind}
use Rattle.definition.specs.Frame.{refuse}
use Rattle.definition.specs.Answer.{Lent}
use Rattle.definition.specs.Run.{outcome}
use Rattle.definition.specs.Keys.{first_of, keyed as keys_of}
use Rattle.definition.specs.Graph.{Graph, up_to, Unified, cells as cells_of}
use Rattle.definition.specs.Verdict.{Bound}
use Rattle.definition.specs.Analysis.{copied, instantiate, copy}
use Rattle.definition.specs.Classes.{Class, no_class, Built, Premises, in_order}
use Rattle.definition.proofs.Laws.Prefix.{term_words, terms_words}
use Rattle.definition.specs.declared.Refusal.{Refusal}
use Rattle.definition.specs.declared.Refusal.TheVariants.{Clash as Clashes, Short as TooShort}
use Rattle.theory.specs.Copies.Variables.{up_to_below}
use Rattle.theory.specs.Keys.Needed.{first-earlier}
use Rattle.theory.specs.Classes.Premises.{Made}
use Rattle.theory.specs.Unification.Circle.{length_up_to}
use Rattle.base.specs.Part.{part}
use Rattle.base.specs.Outside.{Outside}
use Rattle.base.specs.Upto.{upto_outside}
use Rattle.base.specs.declared.id.Node.{Node as Id}
use Rattle.store.specs.Stored.{nodes}
use Rattle.memo.specs.declared.memo.Memo.{Memo}
use Rattle.store.specs.declared.nodes.Store.{Store}
use Rattle.pack_tables.specs.Catalog.{records_of}
use Rattle.pack_tables.specs.declared.catalog.Catalog.{Catalog}
use Rattle.pack_read.specs.Held.{Proper, Held}
use Rattle.pack_read.specs.Reads.{Reads, length_steps, rule_words}
use Rattle.pack_read.specs.Clause.{Spelt, words-most}
use Rattle.graph.specs.declared.graph.Graph.{Graph as Counts}
use Rattle.graph.specs.Cells.{Shows, marks_in}
use Rattle.theory.specs.Unification.Inner.{Inner}
use Rattle.graph.specs.Inner.{many-nodes}
use Rattle.theory.specs.Copies.Terms.{Patterns}
use Rattle.theory.specs.Making.Unified.{unify-same}
use Rattle.theory.specs.Making.FewArgs.{FewArgs, few_copy, few_instance, few_unify}
use Rattle.class_keys.specs.declared.classes.Keying.{Keying}
use Rattle.class_keys.specs.declared.classes.Counts.{Counts as KeyCounts}
use Rattle.class_premises.specs.Layout.{table_in}
use Rattle.class_premises.specs.Joins.{copies_in}
use Rattle.class_premises.specs.Meets.{SpellsAt, instantiate_longer}
use Rattle.class_premises.specs.Copied.{copy_order_below}
use Rattle.class_premises.specs.Takes.{conclusion_in, count_in, flex_in, Row, placed_of, joined_of, fresh_in, placed_in, joined_in, Taking, Took, Clashing, Crowded, TakesTo}
use Rattle.class_premises.specs.declared.layout.Layout.{Layout}
use Rattle.class_premises.specs.declared.premise.Premise.{Premise}
use Rattle.class_premises.specs.declared.premise.Reached.{Reached}
use Rattle.class_premises.specs.declared.building.Building.{Building}
use Rattle.class_premises.specs.Buffers.{Buffers}
use Rattle.class_premises.specs.Rows.{row_within, row-conclusion, row_count, row-marks}
use Rattle.class_premises.specs.Standing.{Standing, standing_held, standing_keyed, standing_behind, standing_few, standing_on, standing_cells}
use Rattle.class_premises.specs.declared.premises.Ruling.{Ruling}
use Rattle.class_premises.specs.Given.{Ruled, refs_of, takes, next_of, takes_short, takes_clash, takes_on}

-- ---- the state
-- the premises from i on are left, as terms with their refs: those before are taken into the graph
pub record Here (bytes work class words cells : List ℕ) (c : Catalog) (k : Keying) (l : Layout) (r : KeyCounts) (st : Store) (memo : Memo) (fill : ℕ) (g : Counts) (env : List ℕ) (u : Ruling) (i from copies : ℕ)
    (P : Pack) (b : Built) (ts : Terms) (refs : List ℕ) (ps : Premises) : Type 0 where
  pub standing : Standing bytes work class words cells c k l r st memo fill P b
  pub ruled : Ruled P b u
  pub env_is : env ≡ up_to u.vars
  pub left : i + count ts ≡ u.premises
  pub spelt : Spelt P u.rule u.vars from ts
  pub end : from + length (terms_words ts) ≡ length (terms_words (rule_of P u.rule).premises)
  pub refs-left : refs ≡ drop i (refs_of P u)
  pub shows : Shows cells (table_in work l) g ps.graph
  pub inner : Inner ps.graph
  pub wide : u.vars ≤ length ps.graph
  pub few : copies ≤ g.nodes
  pub copies_are : copies_in work cells l copies ≡ ps.copies
  pub inside : Below (length ps.graph) ps.instances
  pub few_args : FewArgs ps.graph
  pub copies_inside : Below (length ps.graph) ps.copies

-- ---- what is asked and answered of one premise
pub record Nexting (bytes work class words cells : List ℕ) (c : Catalog) (k : Keying) (l : Layout) (st : Store) (memo : Memo) (g : Counts) (env : List ℕ) (u : Ruling) (i from copies : ℕ) : Type 0 where
  pub counts : KeyCounts
  pub fill : ℕ
  pub pack : Pack
  pub built : Built
  pub terms : Terms
  pub refs : List ℕ
  pub state : Premises
  pub here : Here bytes work class words cells c k l counts st memo fill g env u i from copies pack built terms refs state
  pub more : i < u.premises

-- the premise is taken
pub record Next (bytes work' class words cells cells' : List ℕ) (c : Catalog) (k : Keying) (l : Layout) (r : KeyCounts) (st : Store) (memo' : Memo) (fill : ℕ) (g' : Counts) (env : List ℕ) (u : Ruling) (i x to copies' : ℕ)
    (P : Pack) (b : Built) (ts : Terms) (refs : List ℕ) (ps : Premises) : Type 0 where
  pub terms : Terms
  pub refs' : List ℕ
  pub state : Premises
  pub here : Here bytes work' class words cells' c k l r st memo' fill g' env u (suc i) to copies' P b terms refs' state
  pub instances : state.instances ≡ ps.instances ++ (x ∷ [])
  pub judgments : state.judgments ≡ ps.judgments ++ ((step_of P (get_or (refs_of P u) i 0)).judgment ∷ [])
  pub same : (L : Lent) → L.graph ≡ length cells → outcome L (takes P b u ts refs ps) ≡ outcome L (takes P b u terms refs' state)

-- of whatever stands
abbrev pub Whatever : List ℕ → List ℕ → List ℕ → List ℕ → List ℕ → Catalog → Keying → Layout → Store → Memo → Counts → List ℕ → Ruling → ℕ → ℕ → ℕ → (KeyCounts → ℕ → Pack → Built → Terms → List ℕ → Premises → Type 0) → Type 0
Whatever bytes work class words cells c k l st memo g env u i from copies F =
    (r : KeyCounts) (fill : ℕ) (P : Pack) (b : Built) (ts : Terms) (refs : List ℕ) (ps : Premises) → Here bytes work class words cells c k l r st memo fill g env u i from copies P b ts refs ps → F r fill P b ts refs ps

abbrev pub Nexts : List ℕ → List ℕ → List ℕ → List ℕ → List ℕ → List ℕ → List ℕ → Catalog → Keying → Layout → Store → Memo → Counts → List ℕ → Ruling → ℕ → ℕ → ℕ → Result (Reached × Id) Refusal → Type 0
Nexts bytes work work' class words cells cells' c k l st memo g env u i from copies (Ok (t, x)) =
    Outside l.copied l.end work work'
    × Whatever bytes work class words cells c k l st memo g env u i from copies (λ r fill P b ts refs ps. Next bytes work' class words cells cells' c k l r st t.memo fill t.graph env u i x.0 t.from t.copies P b ts refs ps)
Nexts bytes work work' class words cells cells' c k l st memo g env u i from copies (Err z) =
    Whatever bytes work class words cells c k l st memo g env u i from copies (λ r fill P b ts refs ps. (L : Lent) → L.graph ≡ length cells → outcome L (takes P b u ts refs ps) ≡ refuse z)

-- both of buffers that are lent, what is at hand and what is reached
abbrev pub NextingIn : Buffers → Building → Reached → List ℕ → Ruling → ℕ → Type 0
NextingIn B s t env u i = Nexting B.pack B.work B.class B.pattern B.graph s.catalog s.keying s.layout s.store t.memo t.graph env u i t.from t.copies

abbrev pub NextsIn : Buffers → Buffers → Building → Reached → List ℕ → Ruling → ℕ → Result (Reached × Id) Refusal → Type 0
NextsIn B B' s t env u i r =
    Nexts B.pack B.work B'.work B.class B.pattern B.graph B'.graph s.catalog s.keying s.layout s.store t.memo t.graph env u i t.from t.copies r

-- ---- terms one by one
-- a premise is left
pub record Front (ts : Terms) : Type 0 where
  pub term : Term
  pub rest : Terms
  pub is : ts ≡ cons term rest

front : (ts : Terms) → 0 < count ts → Front ts
unfolding count
front nil h = absurd (omega arith)
front (cons t ts) h = record { term = t; rest = ts; is = refl }

count_cons : (t : Term) (ts : Terms) → count (cons t ts) ≡ suc (count ts)
unfolding count
count_cons t ts = refl

words_cons : (t : Term) (ts : Terms) → length (terms_words (cons t ts)) ≡ length (term_words t) + length (terms_words ts)
unfolding terms_words
words_cons t ts = length-append (term_words t) (terms_words ts)

-- refs whose classes are made, by their places
made_at : (words : List ℕ) (b : Built) (rs : List ℕ) → Made words b rs → (i : ℕ) → i < length rs → get_or words (get_or rs i 0) 0 < length b.classes
made_at words b [] M i h = absurd (omega arith)
made_at words b (r ∷ rs) M zero h = M.0
made_at words b (r ∷ rs) M (suc i) h = made_at words b rs M.1 i (omega arith)

-- the words of the first of some terms, and of the others
module _ (P : Pack) (r vars from : ℕ) (t : Term) (ts : Terms) (S : Spelt P r vars from (cons t ts)) where
  long : length (terms_words (cons t ts)) ≡ length (term_words t) + length (terms_words ts)
  unfolding terms_words
  long = length-append (term_words t) (terms_words ts)

  sorted_front : (ss : List ℕ) → SortedAll P (rule_of P r).vars (cons t ts) ss → (s : ℕ) × (rest : List ℕ) × (ss ≡ s ∷ rest)
  sorted_front [] q = absurd q
  sorted_front (s ∷ rest) q = (s, rest, refl)

  abbrev parts : (s : ℕ) × (rest : List ℕ) × (S.sorts ≡ s ∷ rest)
  parts = sorted_front S.sorts S.sorted

  both : SortedAll P (rule_of P r).vars (cons t ts) (parts.0 ∷ parts.1)
  both = subst (SortedAll P (rule_of P r).vars (cons t ts)) parts.2 S.sorted

  pub first_spells : (step row copies : ℕ) → length (rule_words (rule_of P r)) ≤ 256 → SpellsAt P (record { step = step; rule = r; vars = vars; row = row; from = from; copies = copies }) t
  unfolding terms_words
  first_spells step row copies few = record {
    rule = S.rule;
    many = S.many;
    words = λ j h. S.words j (omega (arith, long)) ∙ get_or-append (term_words t) (terms_words ts) 0 j h;
    long = refl;
    within = omega (arith, S.within, long);
    few = omega (arith, S.within, long, few);
    sort = parts.0;
    sorted = both.0;
  }

  pub rest_spelt : Spelt P r vars (from + length (term_words t)) ts
  unfolding terms_words
  rest_spelt = record {
    rule = S.rule;
    many = S.many;
    words = λ j h.
        let e : from + length (term_words t) + j ≡ from + (length (term_words t) + j) = omega arith in
        ap (λ (n : ℕ). get_or (rule_words (rule_of P r)) n 0) e ∙ S.words (length (term_words t) + j) (omega (arith, long)) ∙ get_d_behind (term_words t) (terms_words ts) 0 j;
    within = omega (arith, S.within, long);
    sorts = parts.1;
    sorted = both.1;
  }

-- one more is below, too
below_one : (n : ℕ) (xs : List ℕ) (x : ℕ) → Below n xs → x < n → Below n (xs ++ (x ∷ []))
below_one n [] x b h = (h, tt)
below_one n (y ∷ xs) x b h = (b.0, below_one n xs x b.1 h)

-- ---- the next premise
module _ (bytes work class words cells : List ℕ) (c : Catalog) (k : Keying) (l : Layout) (r : KeyCounts) (st : Store) (memo : Memo) (fill : ℕ) (g : Counts) (env : List ℕ) (u : Ruling) (i from copies : ℕ)
    (P : Pack) (b : Built) (ts : Terms) (refs : List ℕ) (ps : Premises) (H : Here bytes work class words cells c k l r st memo fill g env u i from copies P b ts refs ps) (more : i < u.premises) where
  abbrev S : Standing bytes work class words cells c k l r st memo fill P b
  S = H.standing

  abbrev F : Front ts
  F = front ts (omega (arith, H.left))

  -- as many refs as premises
  refs-many : length (step_of P u.step).refs ≡ u.premises
  refs-many = (S.proper.good.steps u.step H.ruled.step).refs ∙ ap (λ (n : ℕ). count (rule_of P n).premises) (sym H.ruled.rule) ∙ sym H.ruled.premises

  pub ref_there : i < length (step_of P u.step).refs
  ref_there = omega (arith, refs-many)

  -- the ref, an earlier step, and its first step
  abbrev ref : ℕ
  ref = get_or (step_of P u.step).refs i 0

  pub ref-given : get_or (step_of P u.step).refs i 0 < length P.steps
  ref-given = omega (arith, below_at u.step (step_of P u.step).refs i (S.proper.good.steps u.step H.ruled.step).earlier ref_there, H.ruled.step)

  abbrev first : ℕ
  first = first_of P ref

  first_is : get_or (refs_of P u) i 0 ≡ first
  first_is = map_at (first_of P) (step_of P u.step).refs i ref_there

  pub first-given : first_of P (get_or (step_of P u.step).refs i 0) < length P.steps
  first-given = omega (arith, first-earlier P ref ref-given, ref-given)

  steps_many : length P.steps ≡ length (records_of work c 4)
  steps_many = length_steps bytes (records_of work c) P S.reads

  pub step_there : u.step < length (records_of work c 4)
  step_there = omega (arith, H.ruled.step, steps_many)

  pub ref_record : get_or (step_of P u.step).refs i 0 < length (records_of work c 4)
  ref_record = omega (arith, ref-given, steps_many)

  pub word_there : first_of P (get_or (step_of P u.step).refs i 0) < length class
  word_there = omega (arith, first-given, steps_many, S.keyed.keyable.words)

  -- its class, which is made
  abbrev child : ℕ
  child = get_or (keys_of P).words first 0

  word_is : get_or class first 0 ≡ child
  word_is = sym (get_or-take (length P.steps) class first 0 first-given) ∙ ap (λ (ws : List ℕ). get_or ws first 0) (standing_keyed bytes work class words cells c k l r st memo fill P b S).words

  child-made : child < length b.classes
  child-made =
      let m = made_at (keys_of P).words b (refs_of P u) H.ruled.made i (omega (arith, length-map (step_of P u.step).refs (first_of P), ref_there)) in
      subst (λ (f : ℕ). get_or (keys_of P).words f 0 < length b.classes) first_is m

  pub place_there : l.rows + get_or class (first_of P (get_or (step_of P u.step).refs i 0)) 0 < length work
  place_there =
      omega (arith, word_is, child-made, standing_few bytes work class words cells c k l r st memo fill P b S, S.placed.rows, S.placed.laid.index, S.placed.laid.memo, S.placed.laid.stack, S.placed.laid.variables, S.placed.laid.table, S.placed.laid.inside)

  -- its row
  abbrev row : ℕ
  row = get_or work (l.rows + child) 0

  abbrev x : Class
  x = get_or b.classes child no_class

  abbrev p : Premise
  p = record { step = u.step; rule = u.rule; vars = u.vars; row = row; from = from; copies = copies }

  stands : Row class words cells st row
  stands =
      let w = row_within work class l.rows (length P.steps) fill b.classes (keys_of P).classes S.rows child child-made in
      let n = row_count work class l.rows (length P.steps) fill b.classes (keys_of P).classes S.rows child child-made in
      let e = row-conclusion work class l.rows (length P.steps) fill b.classes (keys_of P).classes S.rows child child-made in
      let o = S.sound child child-made in
      record { inside = omega (arith, w, n, S.rows.fits); few = omega (arith, n, o.few); stored = omega (arith, e, o.stored, ap length S.store) }

  words_few : length (rule_words (rule_of P u.rule)) ≤ 256
  words_few = words-most P S.proper.good u.rule H.spelt.rule

  spelt_front : Spelt P u.rule u.vars from (cons F.term F.rest)
  spelt_front = subst (Spelt P u.rule u.vars from) F.is H.spelt

  spells : SpellsAt P p F.term
  spells = first_spells P u.rule u.vars from F.term F.rest spelt_front u.step row copies words_few

  env-below : Below (length ps.graph) env
  env-below = subst (Below (length ps.graph)) (sym H.env_is) (below_more u.vars (length ps.graph) (up_to u.vars) H.wide (up_to_below u.vars))

  env_long : u.vars ≤ length env
  env_long = omega (arith, ap length H.env_is, length_up_to u.vars)

  -- the pack that is held is this one's
  abbrev held : Held bytes work c
  held = record { cataloged = (standing_held bytes work class words cells c k l r st memo fill P b S).cataloged; pack = P; reads = S.reads; proper = S.proper }

  pub next_taking : Taking bytes work class words cells c l st memo g env p
  next_taking = record {
    held = held;
    behind = standing_behind bytes work class words cells c k l r st memo fill P b S;
    laid = S.placed.laid;
    stored = S.lifts.laid.index;
    patterns = S.patterns;
    remembers = S.remembers;
    stands = stands;
    term = F.term;
    spells = spells;
    graph = ps.graph;
    shows = H.shows;
    inner = H.inner;
    nodes-env = env-below;
    env_long = env_long;
    copies = H.few;
  }

  -- the row that the code reads
  pub row_read : (f : ℕ) → f ≡ first_of P (get_or (step_of P u.step).refs i 0) → get_or work (l.rows + get_or class f 0) 0 ≡ row
  row_read f e = ap (λ (n : ℕ). get_or work (l.rows + get_or class n 0) 0) e ∙ ap (λ (n : ℕ). get_or work (l.rows + n) 0) word_is

  -- ---- by the definition
  flex_is : marks_in (flex_in class row) ≡ x.flex
  flex_is = row-marks work class l.rows (length P.steps) fill b.classes (keys_of P).classes S.rows child child-made

  count_is : count_in class row ≡ length x.flex
  count_is = row_count work class l.rows (length P.steps) fill b.classes (keys_of P).classes S.rows child child-made

  conclusion_is : conclusion_in class row ≡ x.conclusion
  conclusion_is = row-conclusion work class l.rows (length P.steps) fill b.classes (keys_of P).classes S.rows child child-made

  -- anything of store, marks, conclusion and environment
  same_of : {A : Type 0} (f : List Node → List Bool → ℕ → List ℕ → A) → f (nodes words st) (marks_in (flex_in class row)) (conclusion_in class row) env ≡ f b.store x.flex x.conclusion (up_to u.vars)
  same_of f =
      ap (λ (s : List Node). f s (marks_in (flex_in class row)) (conclusion_in class row) env) S.store
      ∙ ap (λ (fl : List Bool). f b.store fl (conclusion_in class row) env) flex_is
      ∙ ap₂ (λ (q : ℕ) (e : List ℕ). f b.store x.flex q e) conclusion_is H.env_is

  -- the refs that are left
  refs_are : refs ≡ first ∷ drop (suc i) (refs_of P u)
  refs_are =
      let n : i < length (refs_of P u) = omega (arith, length-map (step_of P u.step).refs (first_of P), ref_there) in
      H.refs-left ∙ drop-cons (refs_of P u) i 0 n ∙ ap (λ (f : ℕ). f ∷ drop (suc i) (refs_of P u)) first_is

  -- what is left to do
  takes_are : takes P b u ts refs ps ≡ takes P b u (cons F.term F.rest) (first ∷ drop (suc i) (refs_of P u)) ps
  takes_are = ap₂ (λ (us : Terms) (rs : List ℕ). takes P b u us rs ps) F.is refs_are

  says : {Q : Term → Graph → Type 0} → ((P' : Pack) → Reads bytes (records_of work c) P' → Proper P' → (t : Term) → SpellsAt P' p t → (h : Graph) → Shows cells (table_in work l) g h → Inner h → Below (length h) env → Q t h) → Q F.term ps.graph
  says q = q P S.reads S.proper F.term spells ps.graph H.shows H.inner env-below

  cells_are : cells_of (placed_in class words st row env F.term ps.graph) ≡ cells_of (placed_of b.store x.flex x.conclusion (up_to u.vars) F.term ps.graph)
  cells_are = same_of (λ s fl q e. cells_of (placed_of s fl q e F.term ps.graph))

  joined_are : joined_in class words st row env F.term ps.graph ≡ joined_of b.store x.flex x.conclusion (up_to u.vars) F.term ps.graph
  joined_are = same_of (λ s fl q e. joined_of s fl q e F.term ps.graph)

  next_crowded : Crowded bytes work class words cells c l st g env p → (L : Lent) → L.graph ≡ length cells → outcome L (takes P b u ts refs ps) ≡ refuse (TooShort 3)
  next_crowded T L e =
      let h = says T in
      ap (outcome L) takes_are ∙ takes_short P b u F.term F.rest first (drop (suc i) (refs_of P u)) ps L (omega (arith, h, cells_are))

  next_clash : Clashing bytes work class words cells c l st g env p → (L : Lent) → L.graph ≡ length cells → outcome L (takes P b u ts refs ps) ≡ refuse (Clashes u.step)
  next_clash T L e =
      let h = says T in
      ap (outcome L) takes_are
      ∙ takes_clash P b u F.term F.rest first (drop (suc i) (refs_of P u)) ps L (omega (arith, h.1, cells_are)) (ap (λ (v : Unified). v.graph) (sym joined_are) ∙ h.0)

  pub next-refused : (work' cells' : List ℕ) (z : Refusal) → TakesTo bytes work work' class words cells cells' c l st g env p (Err z) → (L : Lent) → L.graph ≡ length cells → outcome L (takes P b u ts refs ps) ≡ refuse z
  next-refused work' cells' z (inl T) L e = next_clash T.1 L e ∙ ap refuse (sym T.0)
  next-refused work' cells' z (inr T) L e = next_crowded T.1 L e ∙ ap refuse (sym T.0)

  -- arguments stay few
  few_joined : (h : Graph) → (joined_of b.store x.flex x.conclusion (up_to u.vars) F.term ps.graph).graph ≡ some h → FewArgs h
  few_joined h j =
      let fresh = copy b.store x.flex ps.graph x.conclusion in
      let inst = instantiate F.term (up_to u.vars) fresh.graph in
      few_unify inst.graph inst.at (copied fresh.nodes x.conclusion) h j
      (few_instance P S.proper.good (rule_of P u.rule).vars (up_to u.vars) F.term spells.sort fresh.graph spells.sorted
      (few_copy b.store (subst Patterns S.store S.patterns) x.flex ps.graph x.conclusion H.few_args))

  -- a copy's variables are nodes of the graph
  fresh-below : (h : Graph) → (joined_of b.store x.flex x.conclusion (up_to u.vars) F.term ps.graph).graph ≡ some h
      → Below (length h) (in_order (up_to (length x.flex)) (copy b.store x.flex ps.graph x.conclusion).variables)
  fresh-below h j =
      let fresh = copy b.store x.flex ps.graph x.conclusion in
      let inst = instantiate F.term (up_to u.vars) fresh.graph in
      let same = unify-same inst.graph inst.at (copied fresh.nodes x.conclusion) h j in
      below_more (length fresh.graph) (length h) (in_order (up_to (length x.flex)) fresh.variables) (omega (arith, same.long, instantiate_longer F.term (up_to u.vars) fresh.graph)) (copy_order_below b.store x.flex ps.graph x.conclusion (up_to (length x.flex)))

  pub next_on : (work' cells' : List ℕ) (t : Reached) (y : Id) → length cells' ≡ length cells → TakesTo bytes work work' class words cells cells' c l st g env p (Ok (t, y))
      → Next bytes work' class words cells cells' c k l r st t.memo fill t.graph env u i y.0 t.from t.copies P b ts refs ps
  next_on work' cells' t y long T =
      let h : Took work work' class words cells cells' l st t.graph env p y.0 t.from t.copies F.term ps.graph = says T.4 in
      let next : Premises = next_of P b u F.term first ps h.graph in
      let j : (joined_of b.store x.flex x.conclusion (up_to u.vars) F.term ps.graph).graph ≡ some h.graph = ap (λ (v : Unified). v.graph) (sym joined_are) ∙ h.unified in
      let at : y.0 ≡ (instantiate F.term (up_to u.vars) (copy b.store x.flex ps.graph x.conclusion).graph).at = h.instance ∙ same_of (λ s fl q e. (instantiate F.term e (copy s fl ps.graph q).graph).at) in
      let on : Standing bytes work' class words cells c k l r st t.memo fill P b = standing_on bytes work class words cells c k l r st memo fill P b S work' t.memo (upto_outside l.copied l.copied l.end work work' (omega arith) T.0) T.1 in
      let many = many-nodes cells' (table_in work' l) t.graph h.graph h.shows in
      let before = many-nodes cells (table_in work l) g ps.graph H.shows in
      let grown : length ps.graph ≤ length h.graph = omega (arith, T.3) in
      let where-copies : copies_in work' cells' l t.copies ≡ copies_in work' cells l t.copies = ap (λ (n : ℕ). part (l.graph + (11 * n + 7)) t.copies work') long in
      let list : copies_in work' cells l t.copies ≡ ps.copies ++ in_order (up_to (length x.flex)) (copy b.store x.flex ps.graph x.conclusion).variables =
      h.copies ∙ ap₂ (λ (xs : List ℕ) (n : ℕ). xs ++ in_order (up_to n) (fresh_in class words st row ps.graph).variables) H.copies_are count_is
      ∙ ap (λ (bs : List Bound). ps.copies ++ in_order (up_to (length x.flex)) bs) (same_of (λ s fl q e. (copy s fl ps.graph q).variables)) in
      record {
        terms = F.rest;
        refs' = drop (suc i) (refs_of P u);
        state = next;
        here = record {
          standing = standing_cells bytes work' class words cells cells' c k l r st t.memo fill P b long on;
          ruled = H.ruled;
          env_is = H.env_is;
          left = rest-count H.left;
          spelt = subst (λ (n : ℕ). Spelt P u.rule u.vars n F.rest) (sym h.word) (rest_spelt P u.rule u.vars from F.term F.rest spelt_front);
          end = omega (arith, h.word, H.end, ap (λ (us : Terms). length (terms_words us)) F.is, words_cons F.term F.rest);
          refs-left = refl;
          shows = h.shows;
          inner = h.inner;
          wide = omega (arith, H.wide);
          few = T.2;
          copies_are = where-copies ∙ list;
          inside = below_one (length h.graph) ps.instances (instantiate F.term (up_to u.vars) (copy b.store x.flex ps.graph x.conclusion).graph).at (below_more (length ps.graph) (length h.graph) ps.instances grown H.inside) (omega (arith, at, h.node, many));
          few_args = few_joined h.graph j;
          copies_inside = below_both (length h.graph) ps.copies (in_order (up_to (length x.flex)) (copy b.store x.flex ps.graph x.conclusion).variables) (below_more (length ps.graph) (length h.graph) ps.copies grown H.copies_inside) (fresh-below h.graph j);
        };
        instances = ap (λ (n : ℕ). ps.instances ++ (n ∷ [])) (sym at);
        judgments = ap (λ (f : ℕ). ps.judgments ++ ((step_of P f).judgment ∷ [])) (sym first_is);
        same = λ L e. ap (outcome L) takes_are ∙ takes_on P b u F.term F.rest first (drop (suc i) (refs_of P u)) ps L (omega (arith, h.room, cells_are, e)) h.graph j;
      }
    where
      rest-count : i + count ts ≡ u.premises → suc i + count F.rest ≡ u.premises
      rest-count e = omega (arith, e, ap count F.is, count_cons F.term F.rest)
