-- One word of a rule's term taken, and all of them.
use Rattle.std.specs.Prelude.{Some, None}
use Rattle.std.specs.Prelude.{◌≡◌, get_or, set}
use Rattle.std.proofs.Math.Path.{refl, sym, ap, ap₂}
use Rattle.std.proofs.Common.{◌∙◌, length-set, drop-cons, drop-drop, drop-set-lt, get_or-set_same}
use mathlib.Core.List.{List, [], ◌∷◌, ◌++◌}
use Prim.Native.Nat.{ℕ, suc, ◌+◌, ◌-◌, ◌≤◌, ◌<◌}
use native.Mathlib.Omega.{arith}
use Rattle.std.proofs.Math.ListN.{length, take, drop, length-append}
use Rattle.std.proofs.Math.Seq.{take-append_seam, drop-append_seam}
use Rattle.definition.specs.Pack.{Term, app, nil, cons, Pack, symbol_of, rule_of}
use Rattle.definition.specs.Theory.{variable}
use Rattle.definition.specs.Good.{SortedAll, Below, Few}
use Rattle.definition.proofs.Laws.Grow.{below_more, below_at}
use Rattle.definition.specs.Graph.{Graph, applied, push, cells as cells_of}
use Rattle.definition.specs.Analysis.{GrownAll}
use Rattle.definition.proofs.Laws.Prefix.{term_words, terms_words}
use Rattle.base.specs.Lent.{back as lent_back, back-first}
use Rattle.base.specs.Part.{put}
use Rattle.base.specs.declared.id.Node.{Node}
use Rattle.pack_tables.specs.declared.catalog.Catalog.{Catalog}
use Rattle.pack_tables.specs.Catalog.{records_of}
use Rattle.pack_read.specs.Reads.{rule_words, length_symbols}
use Rattle.pack_read.specs.Says.{OfPack, WordOfRule}
use Rattle.graph.specs.declared.graph.Graph.{Graph as Counts}
use Rattle.graph.specs.Cells.{rows_end, Shows, Unchanged, cells-more}
use Rattle.graph.specs.Pushes.{Pushes}
use Rattle.theory.specs.Unification.Inner.{inner_more}
use Rattle.term_instantiate.specs.declared.terms.Place.{Place}
use Rattle.definition.proofs.Laws.Suffix.{after, Ahead, a_variable, a_symbol, after-ahead, all_words}
use Rattle.term_instantiate.specs.Suffix.{after_few, nodes-many, variable-nodes, symbol-nodes}
use Rattle.term_instantiate.specs.Building.{Spells, table_in, Room, Beside, nodes_of, Built, Taking, asked-word}

-- ---- the table was lent and came back
module _ (work cells table' : List ℕ) (c : Catalog) (l : Place) (R : Room work cells c l) (U : Unchanged (rows_end cells) (table_in work l) table') where
  abbrev back : List ℕ
  back = put l.at (l.end - l.at) table' work

  up : l.at ≤ l.end
  up = omega (arith, R.fits)

  pub lent-table : table_in back l ≡ table'
  lent-table = lent_back l.at l.end work table' up R.within U.long

  pub lent_outside : Beside work back cells l
  lent_outside = back-first l.at l.end work table' up R.within U.long (rows_end cells) U.words

-- a word put in front of the stack's top
on_top : (stack : List ℕ) (at v : ℕ) → at < length stack → drop at (set stack at v) ≡ v ∷ drop (suc at) stack
on_top stack at v h =
    drop-cons (set stack at v) at 0 (omega (arith, length-set stack at v))
    ∙ ap₂ (λ (x : ℕ) (xs : List ℕ). x ∷ xs) (get_or-set_same stack at v 0 h) (drop-set-lt (suc at) stack at v (omega arith))

-- the first of two lists of nodes, and the second
below_parts : (n : ℕ) (xs ys : List ℕ) → Below n (xs ++ ys) → Below n xs × Below n ys
below_parts n [] ys b = (tt, b)
below_parts n (x ∷ xs) ys b = let q = below_parts n xs ys b.1 in ((b.0, q.0), q.1)

-- ---- word j of t
module _ (P : Pack) (few : Few P) (r vars from to i j w : ℕ) (t : Term) (Sp : Spells P r vars from to t) (place : i ≡ from + j) (there : j < length (term_words t)) (word : w ≡ get_or (rule_words (rule_of P r)) i 0) where
  here : Ahead P (rule_of P r).vars (after (cons t nil) j) w
  here =
      let e : w ≡ get_or (terms_words (cons t nil)) j 0 = word ∙ ap (λ (k : ℕ). get_or (rule_words (rule_of P r)) k 0) place ∙ Sp.words j there ∙ ap (λ (ws : List ℕ). get_or ws j 0) (sym (all_words t)) in
      rw e (after-ahead P (rule_of P r).vars (cons t nil) (Sp.sort ∷ []) (Sp.sorted, tt) j (omega (arith, ap length (all_words t))))

  -- a symbol is one of the pack's
  pub symbol_there : w < variable → w < length P.symbols
  symbol_there m = go here
    where
      go : Ahead P (rule_of P r).vars (after (cons t nil) j) w → w < length P.symbols
      go (a_variable k rest rs e q b S) = absurd (omega (arith, q, m))
      go (a_symbol s us rest rs e q b S T) = omega (arith, q, b)

  -- there is room for what stands ahead of it
  module _ (env : List ℕ) (h : Graph) where
    pub ahead_few : length (nodes_of t env h j).ats ≤ 256
    ahead_few = omega (arith, after_few P (rule_of P r).vars (cons t nil) (Sp.sort ∷ []) (Sp.sorted, tt) j (omega (arith, ap length (all_words t))) env h, ap length (all_words t), Sp.few)

    -- a variable
    pub data Variable : Type 0 where
      known : (k : ℕ) → w - variable ≡ k → k < length (rule_of P r).vars → nodes_of t env h j ≡ record { ats = get_or env k 0 ∷ (nodes_of t env h (suc j)).ats; graph = (nodes_of t env h (suc j)).graph } → Variable

    pub is_variable_law : variable ≤ w → Variable
    is_variable_law m = go here
      where
        go : Ahead P (rule_of P r).vars (after (cons t nil) j) w → Variable
        go (a_variable k rest rs e q b S) = known k (omega (arith, q)) b (variable-nodes (cons t nil) env h j k rest e)
        go (a_symbol s us rest rs e q b S T) = absurd (omega (arith, q, b, few.symbols, m))

    -- a symbol
    pub data Symbol : Type 0 where
      over : (args others : List ℕ) → w < length P.symbols → (nodes_of t env h (suc j)).ats ≡ args ++ others → length args ≡ length (symbol_of P w).inputs
          → nodes_of t env h j ≡ record { ats = (push (nodes_of t env h (suc j)).graph (applied w args)).at ∷ others; graph = (push (nodes_of t env h (suc j)).graph (applied w args)).graph } → Symbol

    pub is_symbol : w < variable → Symbol
    is_symbol m = go here
      where
        go : Ahead P (rule_of P r).vars (after (cons t nil) j) w → Symbol
        go (a_variable k rest rs e q b S) = absurd (omega (arith, q, m))
        go (a_symbol s us rest rs e q b S T) =
            let f : after (cons t nil) j ≡ cons (app w us) rest = e ∙ ap (λ (x : ℕ). cons (app x us) rest) (sym q) in
            let n = symbol-nodes (cons t nil) env h j w us rest f in
            let U : SortedAll P (rule_of P r).vars us (symbol_of P w).inputs = rw q S in
            over n.0 n.1 (omega (arith, q, b)) n.2 (n.3 ∙ nodes-many P (rule_of P r).vars us (symbol_of P w).inputs U env _) n.4

    -- ---- what is built with it
    module _ (work cells stack : List ℕ) (l : Place) (g : Counts) (top : ℕ) (long : length stack ≡ 256) (B : Built t env h work cells stack l g top (suc j)) where
      abbrev behind : GrownAll
      behind = nodes_of t env h (suc j)

      pub variable-room : variable ≤ w → (1 ≤ top) × (top ≤ 256) × (w - variable < length (rule_of P r).vars)
      variable-room m = go (is_variable_law m)
        where
          go : Variable → (1 ≤ top) × (top ≤ 256) × (w - variable < length (rule_of P r).vars)
          go (known k q b e) = (omega (arith, B.high, ahead_few, ap (λ (x : GrownAll). length x.ats) e), omega (arith, B.high), omega (arith, q, b))

      pub built-variable : variable ≤ w → w - variable < length env → Built t env h work cells (set stack (top - 1) (get_or env (w - variable) 0)) l g (top - 1) j
      built-variable m b = go (is_variable_law m)
        where
          room : (1 ≤ top) × (top ≤ 256) × (w - variable < length (rule_of P r).vars)
          room = variable-room m

          go : Variable → Built t env h work cells (set stack (top - 1) (get_or env (w - variable) 0)) l g (top - 1) j
          go (known k q c e) =
              let v : get_or env (w - variable) 0 ≡ get_or env k 0 = ap (λ (i : ℕ). get_or env i 0) q in
              let s : suc (top - 1) ≡ top = omega (arith, room.0) in
              let stacked : drop (top - 1) (set stack (top - 1) (get_or env (w - variable) 0)) ≡ get_or env k 0 ∷ behind.ats =
              on_top stack (top - 1) (get_or env (w - variable) 0) (omega (arith, long, room.0, room.1)) ∙ ap₂ (λ (x : ℕ) (xs : List ℕ). x ∷ xs) v (ap (λ (i : ℕ). drop i stack) s ∙ B.stacked) in
              record {
                shows = rw e B.shows;
                inner = rw e B.inner;
                inside = rw e (below_at (length behind.graph) env k B.nodes (omega (arith, q, b)), B.inside);
                nodes = rw e B.nodes;
                high = rw e (omega (arith, B.high, room.0));
                stacked = rw e stacked;
              }

      -- the words lent are the first nodes on the stack
      module _ (m : w < variable) (n : ℕ) (arity : n ≡ length (symbol_of P w).inputs) where
        pub symbol-room : (w < length P.symbols) × (1 ≤ top + n) × (top + n ≤ 256)
        symbol-room = go (is_symbol m)
          where
            go : Symbol → (w < length P.symbols) × (1 ≤ top + n) × (top + n ≤ 256)
            go (over args others b q c e) =
                let a = length-append args others in
                let f = ahead_few in
                let d = ap (λ (x : GrownAll). length x.ats) e in
                (b, omega (arith, B.high, ap length q, a, f, d, c, arity), omega (arith, B.high, ap length q, a, c, arity))

        module _ (cells' table' : List ℕ) (c : Catalog) (R : Room work cells c l) (x : Node) (g' : Counts) (Q : Pushes cells cells' (table_in work l) table' g (applied w (take (top + n - top) (drop top stack))) (Some (x, g'))) where
          abbrev after_work : List ℕ
          after_work = put l.at (l.end - l.at) table' work

          pub built-symbol : Built t env h after_work cells' (set stack (top + n - 1) x.0) l g' (top + n - 1) j
          unfolding push
          built-symbol = go (is_symbol m)
            where
              go : Symbol → Built t env h after_work cells' (set stack (top + n - 1) x.0) l g' (top + n - 1) j
              go (over args others b q d e) =
                  let room = symbol-room in
                  let z : top + n - top ≡ length args = omega (arith, d, arity) in
                  let lent : take (top + n - top) (drop top stack) ≡ args = ap₂ (λ (i : ℕ) (xs : List ℕ). take i xs) z (B.stacked ∙ q) ∙ take-append_seam args others in
                  let p = Q.0 behind.graph B.shows in
                  let shows : Shows cells' table' g' (behind.graph ++ (applied w args ∷ [])) = rw lent at p.1 in
                  let parts = below_parts (length behind.graph) args others (rw q at B.inside) in
                  let grown : length (behind.graph ++ (applied w args ∷ [])) ≡ suc (length behind.graph) = length-append behind.graph (applied w args ∷ []) ∙ omega arith in
                  let s : suc (top + n - 1) ≡ top + n = omega (arith, room.1) in
                  let last : drop (top + n) stack ≡ others = sym (drop-drop n top stack) ∙ ap₂ (λ (i : ℕ) (xs : List ℕ). drop i xs) (arity ∙ sym d) (B.stacked ∙ q) ∙ drop-append_seam args others in
                  let stacked : drop (top + n - 1) (set stack (top + n - 1) x.0) ≡ length behind.graph ∷ others =
                  on_top stack (top + n - 1) x.0 (omega (arith, long, room.1, room.2)) ∙ ap₂ (λ (y : ℕ) (xs : List ℕ). y ∷ xs) p.0 (ap (λ (i : ℕ). drop i stack) s ∙ last) in
                  record {
                    shows = rw (e, lent-table work cells table' c l R Q.1) shows;
                    inner = rw e (inner_more behind.graph (applied w args) refl B.inner parts.0);
                    inside = rw e (omega (arith, grown), below_more (length behind.graph) (length (behind.graph ++ (applied w args ∷ []))) others (omega (arith, grown)) parts.1);
                    nodes = rw e (below_more (length behind.graph) (length (behind.graph ++ (applied w args ∷ []))) env (omega (arith, grown)) B.nodes);
                    high = rw e (omega (arith, B.high, ap length q, length-append args others, d, arity, room.1));
                    stacked = rw e stacked;
                  }

        pub full-symbol : (cells' table' : List ℕ) → Pushes cells cells' (table_in work l) table' g (applied w (take (top + n - top) (drop top stack))) None → length cells < cells_of (nodes_of t env h j).graph
        unfolding push
        full-symbol cells' table' Q = go (is_symbol m)
          where
            go : Symbol → length cells < cells_of (nodes_of t env h j).graph
            go (over args others b q d e) =
                let z : top + n - top ≡ length args = omega (arith, d, arity) in
                let lent : take (top + n - top) (drop top stack) ≡ args = ap₂ (λ (i : ℕ) (xs : List ℕ). take i xs) z (B.stacked ∙ q) ∙ take-append_seam args others in
                let p = Q behind.graph B.shows in
                rw e (omega (arith, p, ap length lent, cells-more behind.graph (applied w args)))

-- ---- what is asked, and the word that was read
module _ (bytes work cells : List ℕ) (c : Catalog) (l : Place) (g : Counts) (env stack : List ℕ) (top i w : ℕ) (T : Taking bytes work cells c l g env stack top i) (word : WordOfRule bytes work c l.rule i w) where
  read : w ≡ get_or (rule_words (rule_of T.held.pack l.rule)) i 0
  read = word T.held.pack T.held.reads (asked-word bytes work cells c l g env stack top i T)

  -- a variable has a node in the environment, and the stack has room for it
  pub taking_variable : variable ≤ w → (1 ≤ top) × (top ≤ 256) × (w - variable < length env)
  taking_variable m =
      let room = variable-room T.held.pack T.held.proper.few _ _ T.from T.to _ T.word _ T.term T.spells T.place T.there read _ T.graph _ _ _ _ _ _ T.stack_long T.built m in
      (room.0, room.1, omega (arith, room.2, T.spells.many, T.env_long))

  -- a symbol has a record
  pub taking_symbol : w < variable → w < length (records_of work c 1)
  taking_symbol m =
      let H = T.held in
      omega (arith, symbol_there H.pack H.proper.few _ _ T.from T.to _ T.word _ T.term T.spells T.place T.there read m, length_symbols _ _ H.pack H.reads)

  -- its arguments stand on the stack
  pub taking_over : w < variable → (n : ℕ) → OfPack bytes work c (λ P. length (symbol_of P w).inputs) n → (1 ≤ top + n) × (top + n ≤ 256)
  taking_over m n arity =
      let H = T.held in
      let room = symbol-room H.pack H.proper.few _ _ T.from T.to _ T.word _ T.term T.spells T.place T.there read _ T.graph _ _ _ _ _ _ T.stack_long T.built m n (arity H.pack H.reads) in
      (room.1, room.2)
