-- What each way of reading a root back answers: by a number, by a value, over arguments.
use Rattle.std.specs.Prelude.{Option, Some, None}
use Rattle.std.specs.Prelude.{◌≡◌, refl, Bool, true, List, [], ◌∷◌, ◌++◌, map, ℕ, zero, suc, ◌+◌, ◌-◌, ◌≤◌, ◌<◌, length, get_or, set, take, drop}
use Rattle.std.proofs.Common.{sym, ap, ap₂, ◌∙◌, subst, arith, length-set, get_or-set_same, get_or-set_other}
use Rattle.std.proofs.lemmas.List.{length-map}
use Rattle.definition.specs.Pack.{Node, Pack}
use Rattle.definition.specs.Tree.{tree_of}
use Rattle.definition.specs.Verdict.{Bound}
use Rattle.definition.specs.Store.{variable_head, intern, pattern_words}
use Rattle.definition.specs.Graph.{Graph, vertex, root}
use Rattle.definition.specs.Analysis.{lift, ResolvedOne, copied}
use Rattle.definition.proofs.Laws.Grow.{map_at}
use Rattle.theory.specs.Patterns.Interned.{interned, lifted}
use Rattle.theory.specs.Walks.Levels.{roots_applied}
use Rattle.theory.specs.Walks.Walk.{Known, under_at, below-under}
use Rattle.theory.specs.Walks.Resolving.{Resolving, is_read_whole}
use Rattle.theory.specs.Unification.Forest.{root_inside}
use Rattle.base.specs.Part.{part, part_at, part-set-behind, part-more}
use Rattle.store.specs.Words.{node_with}
use Rattle.store.specs.Stored.{nodes}
use Rattle.store.specs.declared.nodes.Store.{Store}
use Rattle.base.specs.declared.id.Pattern.{Pattern}
use Rattle.pack_tables.specs.declared.catalog.Catalog.{Catalog}
use Rattle.term_lift.specs.Lifts.{Apart, Answers}
use Rattle.term_lift.specs.declared.lift.Lifted.{Lifted}
use Rattle.graph.specs.declared.graph.Graph.{Graph as Counts}
use Rattle.graph.specs.Cells.{Shows}
use Rattle.graph.specs.Nodes.{SortOf}
use Rattle.term_readback.specs.declared.table.Table.{Table}
use Rattle.term_readback.specs.Words.{values_at, patterns_at, numbers_at, table_end, table_in, Lies, Holding, Framed}
use Rattle.term_lift.specs.Kept.{Indexed, Interns}
use Rattle.term_readback.specs.Moved.{table-set, table_long, framed_moves, holding_moves, table_apart, lies_apart, framed_apart, framed_then}
use Rattle.term_readback.specs.Asked.{Asking, finds_moves, finds_word, graph_long}
use Rattle.term_readback.specs.Keys.{Ripe, Keyed}
use Rattle.term_readback.specs.Roots.{Open, Named, Fixed, Applied, Opening, Gives}
use Rattle.term_readback.specs.Given.{read_word, node-given, node_few, number_room, named_is, value-said, value-below, valued_is, applied_is, given-same, lies_set, framed_set}

-- what holds of each of a list holds at each place
known_at : {S : Type 0} (known : S → ℕ → Bool) (s : S) (xs : List ℕ) → Known known s xs → (j : ℕ) → j < length xs → known s (get_or xs j 0) ≡ true
known_at known s [] k j h = absurd (omega arith)
known_at known s (x ∷ xs) k zero h = k.0
known_at known s (x ∷ xs) k (suc j) h = known_at known s xs k.1 j (omega arith)

-- a word is put behind a part
part-longer : (a n : ℕ) (xs : List ℕ) (v : ℕ) → a + n < length xs → part a n xs ++ (v ∷ []) ≡ part a (n + 1) (set xs (a + n) v)
part-longer a n xs v h =
    let m = part-more a n (set xs (a + n) v) (omega (arith, length-set xs (a + n) v)) in
    sym (m ∙ ap₂ (λ (ys : List ℕ) (w : ℕ). ys ++ (w ∷ [])) (part-set-behind a n xs (a + n) v (omega arith)) (get_or-set_same xs (a + n) v 0 h))

module _ (bytes work words cells : List ℕ) (c : Catalog) (l : Lifted) (t : Table) (st : Store) (g : Counts) (n : ℕ) (everyone : Bool) (x : ℕ) where
  -- what is asked of the graph may be
  module _ (Q : Graph → Type 0) (K : Opening bytes work words cells c l t st g n everyone x Q) where
    -- the root is given
    pub opening-node : x < g.nodes
    opening-node = node-given bytes work words cells c l t st g n everyone x K.pack K.graph K.values K.state K.holding K.opened

    -- it may be asked for
    abbrev pub opening_asking : Asking cells work t g x
    opening_asking =
        let L = K.holding.lies in
        record { graph = K.graph; graphed = record { room = L.room; fits = L.fits; shows = L.stands.shows; inner = L.stands.inner; few = L.stands.few }; node = opening-node }

    -- there is room for what it needs
    pub opening_few : (x < length cells) × (n < length cells) × (t.at + table_end cells ≤ t.end) × (t.end ≤ length work)
    opening_few =
        let L = K.holding.lies in
        let f = node_few bytes work words cells c l t st g n everyone x K.pack K.graph K.values K.state K.holding K.opened in
        let r = number_room bytes work words cells c l t st g n everyone x K.pack K.graph K.values K.state K.holding K.opened in
        (omega (arith, opening-node), omega arith, L.room, L.fits)

    -- a key may be interned
    pub opening-indexed : Indexed work words l st
    opening-indexed = let D = K.holding.lies.lifts.laid in record { fits = D.fits; inside = D.inside; index = D.index }

    -- of another kind
    pub opening_so : (R : Graph → Type 0) → R K.graph → Opening bytes work words cells c l t st g n everyone x R
    opening_so R q = record { pack = K.pack; graph = K.graph; values = K.values; state = K.state; holding = K.holding; opened = K.opened; asked = q }

    -- and answered as of that kind
    pub gives_so : (R : Graph → Type 0) → ((h : Graph) → Shows cells (table_in t work) g h → Q h → R h) → (work' words' : List ℕ) (r : Option (Pattern × Store × ℕ))
        → Gives bytes work words work' words' cells c l t st g n everyone x R r → Gives bytes work words work' words' cells c l t st g n everyone x Q r
    gives_so R f work' words' (Some (p, st', n')) G = (G.0, G.1, λ P h vs s H O q. G.2 P h vs s H O (f h H.lies.stands.shows q))
    gives_so R f work' words' None G = (G.0, λ P h vs s H O q. G.1 P h vs s H O (f h H.lies.stands.shows q))

  -- ---- by a number
  module _ (K : Opening bytes work words cells c l t st g n everyone x (Named everyone x)) (key : List ℕ) (sort : ℕ) (q : SortOf cells (table_in t work) g x sort) (k : key ≡ variable_head ∷ n ∷ sort ∷ []) (work₁ words' : List ℕ) where
    -- there is no room for it
    pub number_short : Interns work words work₁ words' l st key None → Gives bytes work words work₁ words' cells c l t st g n everyone x (Named everyone x) None
    number_short A = (
      framed_apart bytes work words cells c l t st g K.pack K.graph K.values K.holding.lies work₁ words' st A.1,
      λ P h vs s H O N.
          let o = intern (nodes words st) (node_with key) in
          let e = named_is bytes work words cells c l t st g n everyone x P h vs s H O N key sort q k o.number o.store refl in
          subst (λ (u : List Node). length words < length (pattern_words u)) (sym (ap (λ (y : ResolvedOne). y.state.store) e)) A.0,
    )

    module _ (p : Pattern) (st' : Store) (A : Interns work words work₁ words' l st key (Some (p, st'))) where
      -- all stands where it stood
      lies₁ : (P : Pack) (h : Graph) (vs : List Bound) → Lies bytes work words cells c l t st g P h vs → Lies bytes work₁ words' cells c l t st' g P h vs
      lies₁ P h vs L = lies_apart bytes work words cells c l t st g P h vs L work₁ words' st' A.3 (A.0 bytes c L.lifts)

      -- there is room for the number
      pub number_fits_in : (t.at + (numbers_at cells + n) < t.end) × (t.end ≤ length work₁)
      number_fits_in =
          let f = opening_few (Named everyone x) K in
          (omega (arith, f.1, f.2), omega (arith, f.3, A.3.long))

      -- it is put down
      pub number_gives : Gives bytes work words (set work₁ (t.at + (numbers_at cells + n)) x) words' cells c l t st g n everyone x (Named everyone x) (Some (p, st', (n + 1)))
      number_gives =
          let i : ℕ = numbers_at cells + n in
          let f = opening_few (Named everyone x) K in
          let high : i < table_end cells = omega (arith, f.1) in (
            framed_then cells work work₁ (set work₁ (t.at + i) x) l t (framed_apart bytes work words cells c l t st g K.pack K.graph K.values K.holding.lies work₁ words' st' A.3)
                (framed_set bytes work₁ words' cells c l t st' g n everyone x K.pack K.graph K.values (lies₁ K.pack K.graph K.values K.holding.lies) i x high),
            A.2,
            λ P h vs s H O N.
                let e = named_is bytes work words cells c l t st g n everyone x P h vs s H O N key sort q k p.0 (nodes words' st') A.1 in
                let u : table_in t (set work₁ (t.at + i) x) ≡ set (table_in t work) i x =
                table-set t work₁ i x (omega (arith, number_fits_in.0)) ∙ ap (λ (a : List ℕ). set a i x) (table_apart bytes work words cells c l t st g P h vs H.lies work₁ words' st' A.3) in
                record {
                  lies = lies_set bytes work₁ words' cells c l t st' g n everyone x P h vs (lies₁ P h vs H.lies) i x (omega arith) high;
                  kept = λ j a b. ap (λ (v : List ℕ). get_or v j 0) u ∙ get_or-set_other (table_in t work) i j x 0 (λ z. omega (arith, z));
                  numbering =
                      ap (λ (o : ResolvedOne). o.state.numbering) e ∙ ap (λ (xs : List ℕ). xs ++ (x ∷ [])) H.says.numbering
                      ∙ part-longer (numbers_at cells) n (table_in t work) x (omega (arith, high, table_long t work (omega (arith, f.2)) f.3, f.2))
                      ∙ ap (part (numbers_at cells) (n + 1)) (sym u);
                  store = ap (λ (o : ResolvedOne). o.state.store) e;
                  pattern = ap (λ (o : ResolvedOne). o.pattern) e;
                  within = let w = (interned (nodes words st) (node_with key)).within in rw A.1 at w;
                  count = omega arith;
                },
          )

  -- ---- by a value
  module _ (K : Opening bytes work words cells c l t st g n everyone x (Fixed everyone x)) (m : ℕ) (q : m ≡ get_or (table_in t work) (values_at cells + x) 0 - 1) where
    -- a ground node
    pub value_ground : m < l.nodes
    value_ground =
        let v = value-said bytes work words cells c l t st g n everyone x K.pack K.graph K.values K.state K.holding K.opened in
        omega (arith, q, value-below bytes work words cells c l t st g n everyone x K.pack K.graph K.values K.state K.holding K.opened K.asked)

    -- which is the definition's
    value_is : (P : Pack) (h : Graph) (vs : List Bound) (s : Resolving) → Holding bytes work words cells c l t st g n everyone P h vs s → Open h s x → Fixed everyone x h → m ≡ copied vs x
    value_is P h vs s H O F = q ∙ value-said bytes work words cells c l t st g n everyone x P h vs s H O

    module _ (work' words' : List ℕ) where
      -- there is no room for it
      pub value_short : Answers bytes work words work' words' c l st m None → Gives bytes work words work' words' cells c l t st g n everyone x (Fixed everyone x) None
      value_short A = (
        framed_apart bytes work words cells c l t st g K.pack K.graph K.values K.holding.lies work' words' st A.1,
        λ P h vs s H O F.
            let o = lift (tree_of P m) (nodes words st) in
            let e = valued_is bytes work words cells c l t st g n everyone x P h vs s H O F m (value_is P h vs s H O F) o.number o.store refl in
            subst (λ (u : List Node). length words < length (pattern_words u)) (sym (ap (λ (y : ResolvedOne). y.state.store) e)) (A.0 P H.lies.reads H.lies.proper),
      )

      -- it is lifted
      pub value_gives : (p : Pattern) (st' : Store) → Answers bytes work words work' words' c l st m (Some (p, st')) → Gives bytes work words work' words' cells c l t st g n everyone x (Fixed everyone x) (Some (p, st', n))
      value_gives p st' A = (
        framed_apart bytes work words cells c l t st g K.pack K.graph K.values K.holding.lies work' words' st' A.3,
        A.2,
        λ P h vs s H O F.
            let a = A.1 P H.lies.reads H.lies.proper in
            let e = valued_is bytes work words cells c l t st g n everyone x P h vs s H O F m (value_is P h vs s H O F) p.0 (nodes words' st') a in
            let i = (lifted (tree_of P m) (nodes words st)).within in
            given-same bytes work words cells c l t st g n everyone x P h vs s H O work work' words' st' p.0 H (λ j y z. refl) A.3 A.0 e (rw a at i),
      )

  -- ---- over arguments
  -- their words say something
  pub applied_ripe : Opening bytes work words cells c l t st g n everyone x (Applied x) → Ripe cells work t g x
  applied_ripe K =
      let h = K.graph in
      let H = K.holding in
      let F = H.lies.stands.shows.like.forest in
      record {
        asking = opening_asking (Applied x) K;
        ripe = λ j a.
            let y = get_or (vertex h x).args j 0 in
            let b = under_at (λ z. z) (length h) (vertex h x).args j (below-under (length h) (vertex h x).args (H.lies.stands.inner x K.opened.node)) a in
            let k = known_at is_read_whole K.state (map (root h) (vertex h x).args) (rw (roots_applied h x K.asked) at K.opened.ripe) j (omega (arith, length-map (vertex h x).args (root h))) in
            let r = root_inside h F y b in
            let w = read_word cells (table_in t work) words g st n K.state H.says (root h y) (ap (is_read_whole K.state) (sym (map_at (root h) (vertex h x).args j a)) ∙ k) in
            omega (arith, w, part_at (patterns_at cells) g.nodes (table_in t work) (root h y) (omega (arith, r, graph_long cells (table_in t work) g h H.lies.stands.shows)));
      }

  module _ (K : Opening bytes work words cells c l t st g n everyone x (Applied x)) (work₁ key : List ℕ) (k : ℕ) (Y : Keyed cells work work₁ t g x key k) where
    -- the words once the key is there
    holding₁ : (P : Pack) (h : Graph) (vs : List Bound) (s : Resolving) → Holding bytes work words cells c l t st g n everyone P h vs s → Holding bytes work₁ words cells c l t st g n everyone P h vs s
    holding₁ = holding_moves bytes work words cells c l t st g work₁ (finds_moves cells work work₁ t g Y.finds) n everyone

    -- it may be interned
    pub applied-indexed : Indexed work₁ words l st
    applied-indexed = let D = (holding₁ K.pack K.graph K.values K.state K.holding).lies.lifts.laid in record { fits = D.fits; inside = D.inside; index = D.index }

    -- nothing else has changed
    applied_framed : (work' words' : List ℕ) (st' : Store) → Apart work₁ work' l → Framed cells work work' l t
    applied_framed work' words' st' A =
        framed_then cells work work₁ work' l t (framed_moves bytes work words cells c l t st g work₁ (finds_moves cells work work₁ t g Y.finds) K.pack K.graph K.values K.holding.lies)
        (framed_apart bytes work₁ words cells c l t st g K.pack K.graph K.values (holding₁ K.pack K.graph K.values K.state K.holding).lies work' words' st' A)

    module _ (work' words' : List ℕ) where
      -- there is no room for it
      pub applied_short : Interns work₁ words work' words' l st (take (k - 0) (drop 0 key)) None → Gives bytes work words work' words' cells c l t st g n everyone x (Applied x) None
      applied_short A = (
        applied_framed work' words' st A.1,
        λ P h vs s H O v.
            let o = intern (nodes words st) (node_with (take (k - 0) (drop 0 key))) in
            let e = applied_is bytes work words cells c l t st g n everyone x P h vs s H O v key k (Y.words h H.lies.stands.shows) o.number o.store refl in
            subst (λ (u : List Node). length words < length (pattern_words u)) (sym (ap (λ (y : ResolvedOne). y.state.store) e)) A.0,
      )

      -- it is interned
      pub applied_gives : (p : Pattern) (st' : Store) → Interns work₁ words work' words' l st (take (k - 0) (drop 0 key)) (Some (p, st')) → Gives bytes work words work' words' cells c l t st g n everyone x (Applied x) (Some (p, st', n))
      applied_gives p st' A = (
        applied_framed work' words' st' A.3,
        A.2,
        λ P h vs s H O v.
            let e = applied_is bytes work words cells c l t st g n everyone x P h vs s H O v key k (Y.words h H.lies.stands.shows) p.0 (nodes words' st') A.1 in
            let i = (interned (nodes words st) (node_with (take (k - 0) (drop 0 key)))).within in
            let H₁ = holding₁ P h vs s H in
            given-same bytes work words cells c l t st g n everyone x P h vs s H O work₁ work' words' st' p.0 H₁
            (λ j y z. finds_word cells work work₁ t g Y.finds j y (omega (arith, H.lies.room))) A.3 (A.0 bytes c H₁.lies.lifts) e (rw A.1 at i),
      )
