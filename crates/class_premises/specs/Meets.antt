-- A premise's instance put into the graph and unified with a copy.
use Rattle.std.specs.Prelude.{Some, None, Result, Ok, Err}
use Rattle.std.specs.Prelude.{◌≡◌, ◌⊎◌, ℕ, ◌+◌, ◌*◌, ◌≤◌, ◌<◌, get_or}
use Rattle.std.proofs.Math.Path.{refl, ap}
use Rattle.std.proofs.Common.{sym, ap₂, ◌∙◌, subst, inl, inr, arith, length-append}
use mathlib.Core.List.{List, [], ◌∷◌, ◌++◌}
use Rattle.std.proofs.Math.Option.{none, some}
use Rattle.std.proofs.Math.ListN.{length}
use Rattle.definition.specs.Pack.{Term, Terms, var, app, nil, cons, Pack}
use Rattle.definition.specs.Certificate.{count}
use Rattle.definition.specs.Good.{Below}
use Rattle.definition.specs.Graph.{Graph, applied, push, Unified, unify, cells as cells_of}
use Rattle.definition.specs.Analysis.{instantiate, instantiate_all}
use Rattle.definition.proofs.Laws.Prefix.{term_words, terms_words}
use Rattle.definition.proofs.Laws.Suffix.{all_words}
use Rattle.definition.specs.declared.Refusal.TheVariants.{Clash as Clashes, Short as TooShort}
use Rattle.base.specs.Part.{part}
use Rattle.base.specs.Outside.{Outside, outside_then, outside_wider, part-ahead, part-behind}
use Rattle.base.specs.declared.id.Node.{Node}
use Rattle.pack_tables.specs.SameTables.{end_of}
use Rattle.pack_tables.specs.Catalog.{records_of}
use Rattle.pack_tables.specs.declared.catalog.Catalog.{Catalog}
use Rattle.pack_read.specs.Reads.{Reads}
use Rattle.pack_read.specs.Held.{Proper, Held, OfHeld}
use Rattle.pack_read.specs.Clause.{Spelt, SpeltAll}
use Rattle.graph.specs.declared.graph.Graph.{Graph as Counts}
use Rattle.graph.specs.Cells.{rows_end, nodes_few, Shows, cells-more}
use Rattle.graph.specs.Pushes.{cells_shown}
use Rattle.theory.specs.Unification.Inner.{Inner}
use Rattle.graph.specs.Inner.{many-nodes}
use Rattle.term_instantiate.specs.Building.{Spells, Asked, Instantiates}
use Rattle.class_premises.specs.declared.layout.Layout.{Layout}
use Rattle.class_premises.specs.declared.premise.Premise.{Premise}
use Rattle.class_premises.specs.declared.premise.Fresh.{Fresh}
use Rattle.class_premises.specs.Layout.{place_of, table_in, copies_at, copies_end}
use Rattle.class_premises.specs.Noted.{said}
use Rattle.class_premises.specs.Joins.{variables_in, copies_in, Joining, Noted, JoinsTo}
use Rattle.class_premises.specs.declared.premise.Reached.{Reached}
use Rattle.definition.specs.declared.Refusal.{Refusal}

-- the term whose words are the rule's from the premise's first on
abbrev pub SpellsAt : Pack → Premise → Term → Type 0
SpellsAt P p t = Spells P p.rule p.vars p.from (p.from + length (term_words t)) t

-- what is asked: a pack held, one of its terms, a graph that has the rule's variables and the copy, and room for the variables that its words say
pub record Meeting (bytes work cells : List ℕ) (c : Catalog) (l : Layout) (g : Counts) (env : List ℕ) (p : Premise) (f : Fresh) : Type 0 where
  pub held : Held bytes work c
  pub behind : end_of c ≤ l.graph
  pub variables : l.variables + f.variables ≤ l.graph
  pub table : l.graph + copies_end cells ≤ l.end
  pub inside : l.end ≤ length work
  pub term : Term
  pub spells : SpellsAt held.pack p term
  pub graph : Graph
  pub shows : Shows cells (table_in work l) g graph
  pub inner : Inner graph
  pub nodes : Below (length graph) env
  pub env_long : p.vars ≤ length env
  pub right : f.node.0 < g.nodes
  pub room : p.copies + length (said (variables_in work l f.variables)) ≤ g.nodes

-- of whatever pack, term and graph are held
abbrev pub Says : List ℕ → List ℕ → List ℕ → Catalog → Layout → Counts → List ℕ → Premise → (Term → Graph → Type 0) → Type 0
Says bytes work cells c l g env p F = OfHeld bytes work c (λ P. (t : Term) → SpellsAt P p t → (h : Graph) → Shows cells (table_in work l) g h → Inner h → Below (length h) env → F t h)

-- an instance unified with a node
abbrev pub meets : Term → List ℕ → Graph → ℕ → Unified
meets t env h y = unify (instantiate t env h).graph (instantiate t env h).at y

-- the graph then, the instance in it, and the word behind the term
pub record Met (work' cells cells' : List ℕ) (l : Layout) (g' : Counts) (env : List ℕ) (from x y to : ℕ) (t : Term) (h : Graph) : Type 0 where
  pub graph : Graph
  pub unified : (meets t env h y).graph ≡ some graph
  pub shows : Shows cells' (table_in work' l) g' graph
  pub inner : Inner graph
  pub instance : x ≡ (instantiate t env h).at
  pub node : x < g'.nodes
  pub word : to ≡ from + length (term_words t)
  pub room : cells_of (instantiate t env h).graph ≤ length cells

-- what is answered: it is refused by a clash, or for want of cells
abbrev pub MeetsTo : List ℕ → List ℕ → List ℕ → List ℕ → List ℕ → Catalog → Layout → Counts → List ℕ → Premise → Fresh → Result (Reached × Node) Refusal → Type 0
MeetsTo bytes work work' cells cells' c l g env p f (Ok (t, x)) =
    (t.memo ≡ f.memo) × Noted work work' cells l f.variables p.copies t.copies × (g.nodes ≤ t.graph.nodes)
    × Says bytes work cells c l g env p (λ a h. Met work' cells cells' l t.graph env p.from x.0 f.node.0 t.from a h)
MeetsTo bytes work work' cells cells' c l g env p f (Err z) =
    ((z ≡ Clashes p.step) × Says bytes work cells c l g env p (λ a h. ((meets a env h f.node.0).graph ≡ none) × (cells_of (instantiate a env h).graph ≤ length cells)))
    ⊎ ((z ≡ TooShort 3) × Says bytes work cells c l g env p (λ a h. length cells < cells_of (instantiate a env h).graph))

-- a term alone is spelt as it is
spelt_one : (P : Pack) (p : Premise) (t : Term) → SpellsAt P p t → Spelt P p.rule p.vars p.from (cons t nil)
spelt_one P p t S =
    let e = all_words t in
    record {
      rule = S.rule;
      many = S.many;
      words = λ j h. S.words j (omega (arith, ap length e)) ∙ sym (ap (λ (ws : List ℕ). get_or ws j 0) e);
      within = omega (arith, ap length e, S.within);
      sorts = S.sort ∷ [];
      sorted = (S.sorted, tt);
    }

-- an instance only adds nodes
mutual
  unfolding instantiate push

  pub instantiate_longer : (t : Term) (env : List ℕ) (h : Graph) → length h ≤ length (instantiate t env h).graph
  instantiate_longer (var k) env h = omega arith
  instantiate_longer (app f ts) env h =
      let below = instantiate_all ts env h in
      let i = all-longer ts env h in
      omega (arith, length-append below.graph (applied f below.ats ∷ []))

  all-longer : (ts : Terms) (env : List ℕ) (h : Graph) → length h ≤ length (instantiate_all ts env h).graph
  all-longer nil env h = omega arith
  all-longer (cons t ts) env h = let i = all-longer ts env h in let j = instantiate_longer t env (instantiate_all ts env h).graph in omega arith

-- and cells
mutual
  unfolding instantiate push

  pub instantiate_cells : (t : Term) (env : List ℕ) (h : Graph) → cells_of h ≤ cells_of (instantiate t env h).graph
  instantiate_cells (var k) env h = omega arith
  instantiate_cells (app f ts) env h =
      let below = instantiate_all ts env h in
      let i = all-cells ts env h in
      omega (arith, cells-more below.graph (applied f below.ats))

  all-cells : (ts : Terms) (env : List ℕ) (h : Graph) → cells_of h ≤ cells_of (instantiate_all ts env h).graph
  all-cells nil env h = omega arith
  all-cells (cons t ts) env h = let i = all-cells ts env h in let j = instantiate_cells t env (instantiate_all ts env h).graph in omega arith

module _ (bytes work cells : List ℕ) (c : Catalog) (l : Layout) (g : Counts) (env : List ℕ) (p : Premise) (f : Fresh) (M : Meeting bytes work cells c l g env p f) where
  -- the term's end is looked for
  pub meeting_spelt : SpeltAll M.held.pack p.rule p.vars p.from 1
  unfolding count
  meeting_spelt = (cons M.term nil, spelt_one M.held.pack p M.term M.spells, refl)

  module _ (to : ℕ) (T : OfHeld bytes work c (λ P. (ts : Terms) → Spelt P p.rule p.vars p.from ts → count ts ≡ 1 → to ≡ p.from + length (terms_words ts))) where
    word_is : (P : Pack) → Reads bytes (records_of work c) P → Proper P → (t : Term) → SpellsAt P p t → to ≡ p.from + length (term_words t)
    unfolding count
    word_is P R Q t S = T P R Q (cons t nil) (spelt_one P p t S) refl ∙ ap (λ (ws : List ℕ). p.from + length ws) (all_words t)

    spells_to : (P : Pack) → Reads bytes (records_of work c) P → Proper P → (t : Term) → SpellsAt P p t → Spells P p.rule p.vars p.from to t
    spells_to P R Q t S = subst (λ (i : ℕ). Spells P p.rule p.vars p.from i t) (sym (word_is P R Q t S)) S

    -- the instance is asked for
    pub meeting_asked : Asked bytes work cells c (place_of l p.rule p.vars) g env p.from to
    meeting_asked = record {
      held = M.held;
      room = record { behind = M.behind; fits = omega (arith, M.table); within = M.inside };
      term = M.term;
      spells = spells_to M.held.pack M.held.reads M.held.proper M.term M.spells;
      graph = M.graph;
      shows = M.shows;
      inner = M.inner;
      nodes = M.nodes;
      env_long = M.env_long;
    }

    -- there is no room for it
    pub meets_short : (work₁ cells' : List ℕ) → Instantiates bytes work work₁ cells cells' c (place_of l p.rule p.vars) g env p.from to None → MeetsTo bytes work work₁ cells cells' c l g env p f (Err (TooShort 3))
    meets_short work₁ cells' I = inr (refl, λ P R Q t S h H J b. I P R Q t (spells_to P R Q t S) h H J b)

    -- it is there
    module _ (x : Node) (g' : Counts) (work₁ cells' : List ℕ) (I : Instantiates bytes work work₁ cells cells' c (place_of l p.rule p.vars) g env p.from to (Some (x, g'))) (long : length cells' ≡ length cells) where
      outside : Outside l.graph (l.graph + rows_end cells) work work₁
      outside = I.0

      variables_same : variables_in work₁ l f.variables ≡ variables_in work l f.variables
      variables_same = part-ahead l.graph (l.graph + rows_end cells) work work₁ outside l.variables f.variables M.variables (omega (arith, M.variables, M.table, M.inside))

      abbrev top : Graph
      top = (instantiate M.term env M.graph).graph

      built : (x.0 ≡ (instantiate M.term env M.graph).at) × Shows cells' (table_in work₁ l) g' (instantiate M.term env M.graph).graph × Inner (instantiate M.term env M.graph).graph × (x.0 < length (instantiate M.term env M.graph).graph)
      built = I.1 M.held.pack M.held.reads M.held.proper M.term (spells_to M.held.pack M.held.reads M.held.proper M.term M.spells) M.graph M.shows M.inner M.nodes

      more-nodes : g.nodes ≤ g'.nodes
      more-nodes = omega (arith, many-nodes cells (table_in work l) g M.graph M.shows, many-nodes cells' (table_in work₁ l) g' top built.1, instantiate_longer M.term env M.graph)

      few_nodes : g'.nodes ≤ length cells
      few_nodes = omega (arith, nodes_few cells' (table_in work₁ l) g' built.1.laid, built.1.laid.fits, long)

      pub meeting_joining : Joining work₁ cells' l g' x.0 f.node.0 f.variables p.copies
      meeting_joining = record {
        variables = M.variables;
        table = omega (arith, M.table, long);
        inside = omega (arith, M.inside, outside.long);
        graph = top;
        shows = built.1;
        inner = built.2;
        left = omega (arith, built.3, many-nodes cells' (table_in work₁ l) g' top built.1);
        right = omega (arith, M.right, more-nodes);
        room = omega (arith, M.room, more-nodes, few_nodes, long, ap (λ (xs : List ℕ). length (said xs)) variables_same);
      }

      -- what was noted before is as it was
      noted-same : (work' : List ℕ) (k : ℕ) → Noted work₁ work' cells' l f.variables p.copies k → Noted work work' cells l f.variables p.copies k
      noted-same work' k N =
          let at : l.graph + copies_at cells' ≡ l.graph + copies_at cells = ap (λ (m : ℕ). l.graph + (11 * m + 7)) long in
          let before : copies_in work₁ cells l p.copies ≡ copies_in work cells l p.copies =
          part-behind l.graph (l.graph + rows_end cells) work work₁ outside (l.graph + copies_at cells) p.copies (omega arith) (omega (arith, M.room, more-nodes, few_nodes, M.table, M.inside)) in
          record {
            outside = outside_then l.graph l.end work work₁ work' (outside_wider l.graph (l.graph + rows_end cells) l.graph l.end work work₁ (omega arith) (omega (arith, M.table)) outside) N.outside;
            list = ap (λ (a : ℕ). part a k work') (sym at) ∙ N.list ∙ ap₂ (λ (a : ℕ) (ys : List ℕ). part a p.copies work₁ ++ said ys) at variables_same ∙ ap (λ (xs : List ℕ). xs ++ said (variables_in work l f.variables)) before;
            many = N.many ∙ ap (λ (xs : List ℕ). p.copies + length (said xs)) variables_same;
          }

      -- the instance of whatever is held
      given : (P : Pack) → Reads bytes (records_of work c) P → Proper P → (t : Term) → SpellsAt P p t → (h : Graph) → Shows cells (table_in work l) g h → Inner h → Below (length h) env
          → (x.0 ≡ (instantiate t env h).at) × Shows cells' (table_in work₁ l) g' (instantiate t env h).graph × Inner (instantiate t env h).graph × (x.0 < length (instantiate t env h).graph)
      given P R Q t S h H J b = I.1 P R Q t (spells_to P R Q t S) h H J b

      fits : (t : Term) (h : Graph) → Shows cells' (table_in work₁ l) g' (instantiate t env h).graph → cells_of (instantiate t env h).graph ≤ length cells
      fits t h H = omega (arith, cells_shown cells' (table_in work₁ l) g' (instantiate t env h).graph H, H.laid.fits, long)

      pub meets-joined : (work' : List ℕ) (r : Result (Reached × Node) Refusal) → JoinsTo work₁ work' cells' l g' p f x.0 to r → MeetsTo bytes work work' cells cells' c l g env p f r
      meets-joined work' (Ok (r, z)) J =
          let e = J.0 in (
            J.1,
            noted-same work' r.copies J.4,
            rw e more-nodes,
            λ P R Q t S h H I' b.
                let G = given P R Q t S h H I' b in
                let u = J.5 (instantiate t env h).graph G.1 G.2 in
                record {
                  graph = u.0;
                  unified = ap (λ (i : ℕ). (unify (instantiate t env h).graph i f.node.0).graph) (sym G.0) ∙ u.1;
                  shows = rw e u.2;
                  inner = u.3;
                  instance = J.2 ∙ G.0;
                  node = rw e (omega (arith, J.2, meeting_joining.left));
                  word = J.3 ∙ word_is P R Q t S;
                  room = fits t h G.1;
                },
          )
      meets-joined work' (Err z) J =
          inl (
            J.0,
            λ P R Q t S h H I' b.
                let G = given P R Q t S h H I' b in
                (ap (λ (i : ℕ). (unify (instantiate t env h).graph i f.node.0).graph) (sym G.0) ∙ J.1 (instantiate t env h).graph G.1 G.2, fits t h G.1),
          )
