-- The key of a root whose arguments' roots were read back, word by word.
use Rattle.std.specs.Prelude.{◌≡◌, List, [], ◌∷◌, ◌++◌, map, ℕ, suc, ◌+◌, ◌-◌, ◌≤◌, ◌<◌, length, get_or, set, take, drop}
use Rattle.std.proofs.Common.{sym, ap, ◌∙◌, arith, add-one, length-set, take-suc, take-suc-set, take_all}
use Rattle.std.proofs.lemmas.List.{map-append}
use Rattle.definition.specs.Graph.{Graph, vertex, root}
use Rattle.graph.specs.declared.graph.Graph.{Graph as Counts}
use Rattle.graph.specs.Cells.{Shows, nodes_few}
use Rattle.graph.specs.Nodes.{ArityOf}
use Rattle.graph.specs.Joins.{HeadOf}
use Rattle.term_readback.specs.declared.table.Table.{Table}
use Rattle.term_readback.specs.Words.{patterns_at, table_in}
use Rattle.term_readback.specs.Asked.{Asking, Arguing, Finds, Rooted, finds_none, finds_then, finds_moves, finds_word, graphed_on, graph_long}

-- what a root was read back as, by its word
abbrev pub pattern_of : List ℕ → List ℕ → ℕ → ℕ
pattern_of cells table r = get_or table (patterns_at cells + r) 0 - 1

-- an application whose arguments' roots were all read back
pub record Ripe (cells work : List ℕ) (t : Table) (g : Counts) (x : ℕ) : Type 0 where
  pub asking : Asking cells work t g x
  pub ripe : (j : ℕ) → j < length (vertex asking.graph x).args → 0 < get_or (table_in t work) (patterns_at cells + root asking.graph (get_or (vertex asking.graph x).args j 0)) 0

-- the first words are the head and what the roots of the first i of k arguments were read back as
pub record Keying (cells work₀ work : List ℕ) (t : Table) (g : Counts) (x k i : ℕ) (key : List ℕ) : Type 0 where
  pub finds : Finds cells work₀ work t g
  pub long : length key ≡ 17
  pub few : i ≤ k
  pub most : k ≤ 16
  pub many : (h : Graph) → Shows cells (table_in t work₀) g h → k ≡ length (vertex h x).args
  pub words : (h : Graph) → Shows cells (table_in t work₀) g h → take (suc i) key ≡ (vertex h x).head ∷ map (λ y. pattern_of cells (table_in t work₀) (root h y)) (take i (vertex h x).args)

-- the first k words are the key
pub record Keyed (cells work work' : List ℕ) (t : Table) (g : Counts) (x : ℕ) (key : List ℕ) (k : ℕ) : Type 0 where
  pub finds : Finds cells work work' t g
  pub some : 0 < k
  pub few : k ≤ 17
  pub words : (h : Graph) → Shows cells (table_in t work) g h → take k key ≡ (vertex h x).head ∷ map (λ y. pattern_of cells (table_in t work) (root h y)) (vertex h x).args

module _ (cells work₀ : List ℕ) (t : Table) (g : Counts) (x : ℕ) (R : Ripe cells work₀ t g x) where
  -- the graph
  abbrev h₀ : Graph
  h₀ = R.asking.graph

  -- it is held
  abbrev S₀ : Shows cells (table_in t work₀) g h₀
  S₀ = R.asking.graphed.shows

  -- the head
  pub keying_first : (k : ℕ) → ArityOf cells (table_in t work₀) g x k → (key : List ℕ) → length key ≡ 17 → (r : ℕ) → HeadOf cells (table_in t work₀) g x r → Keying cells work₀ work₀ t g x k 0 (set key 0 r)
  keying_first k A key e r H = record {
    finds = finds_none cells work₀ t g;
    long = length-set key 0 r ∙ e;
    few = omega arith;
    most = omega (arith, A h₀ S₀, R.asking.graphed.few x (omega (arith, R.asking.node, graph_long cells (table_in t work₀) g h₀ S₀)));
    many = A;
    words = λ h S. take-suc-set key 0 r (omega arith) ∙ ap (λ (v : ℕ). v ∷ []) (H h S);
  }

  module _ (work : List ℕ) (k i : ℕ) (key : List ℕ) (K : Keying cells work₀ work t g x k i key) where
    -- there is one more argument
    module _ (l : i < k) where
      -- it may be asked for
      pub keying_arguing : Arguing cells work t g x i
      keying_arguing = record {
        asking = record { graph = h₀; graphed = graphed_on cells work₀ work t g h₀ (finds_moves cells work₀ work t g K.finds) R.asking.graphed; node = R.asking.node };
        some = omega (arith, K.many h₀ S₀);
      }

      module _ (work' : List ℕ) (r : ℕ) (D : Rooted cells work work' t g x i r) where
        -- its root
        keying_root : (h : Graph) → Shows cells (table_in t work₀) g h → r ≡ root h (get_or (vertex h x).args i 0)
        keying_root h S = D.is h (K.finds.shows h S)

        -- only rows were written
        keying_finds : Finds cells work₀ work' t g
        keying_finds = finds_then cells work₀ work work' t g K.finds D.finds

        -- its word stands in the table
        pub keying_there : t.at + (patterns_at cells + r) < t.end
        keying_there = let L = S₀.laid in omega (arith, D.node, nodes_few cells (table_in t work₀) g L, L.fits, R.asking.graphed.room)

        -- work is as long as it was
        pub keying_fits : t.end ≤ length work'
        keying_fits = omega (arith, R.asking.graphed.fits, keying_finds.long)

        -- and is as it was
        keying_word : get_or (table_in t work') (patterns_at cells + r) 0 ≡ get_or (table_in t work₀) (patterns_at cells + r) 0
        keying_word = finds_word cells work₀ work' t g keying_finds (patterns_at cells + r) (omega arith) (omega (arith, keying_there))

        -- it says something
        pub keying_said : (w : ℕ) → w ≡ get_or (table_in t work') (patterns_at cells + r) 0 → 0 < w
        keying_said w e =
            let q : get_or (table_in t work₀) (patterns_at cells + r) 0 ≡ get_or (table_in t work₀) (patterns_at cells + root h₀ (get_or (vertex h₀ x).args i 0)) 0 = ap (λ (y : ℕ). get_or (table_in t work₀) (patterns_at cells + y) 0) (keying_root h₀ S₀) in
            omega (arith, R.ripe i (omega (arith, K.many h₀ S₀)), keying_word)

        -- one word more of the key
        pub keying_more : (w : ℕ) → w ≡ get_or (table_in t work') (patterns_at cells + r) 0 → Keying cells work₀ work' t g x k (i + 1) (set key (i + 1) (w - 1))
        keying_more w e = record {
          finds = keying_finds;
          long = length-set key (i + 1) (w - 1) ∙ K.long;
          few = omega arith;
          most = K.most;
          many = K.many;
          words = λ h S.
              let at : ℕ → ℕ = λ y. pattern_of cells (table_in t work₀) (root h y) in
              let args = (vertex h x).args in
              let a = get_or args i 0 in
              let v : w - 1 ≡ at a = ap (λ (u : ℕ). u - 1) (e ∙ keying_word ∙ ap (λ (y : ℕ). get_or (table_in t work₀) (patterns_at cells + y) 0) (keying_root h S)) in
              let m : take (i + 1) args ≡ take i args ++ (a ∷ []) = ap (λ (j : ℕ). take j args) (add-one i) ∙ take-suc args i 0 (omega (arith, K.many h S)) in
              take-suc-set key (i + 1) (w - 1) (omega (arith, K.long, K.most))
              ∙ ap (λ (j : ℕ). take j key ++ ((w - 1) ∷ [])) (add-one i)
              ∙ ap (λ (u : ℕ). take (suc i) key ++ (u ∷ [])) v
              ∙ ap (λ (ws : List ℕ). ws ++ (at a ∷ [])) (K.words h S)
              ∙ ap (λ (ws : List ℕ). (vertex h x).head ∷ ws) (sym (map-append at (take i args) (a ∷ [])) ∙ ap (map at) (sym m));
        }

    -- there is none
    pub keying_all : k ≤ i → Keyed cells work₀ work t g x key (k + 1)
    keying_all l = record {
      finds = K.finds;
      some = omega arith;
      few = omega (arith, K.most);
      words = λ h S.
          let e : k + 1 ≡ suc i = omega (arith, K.few) in
          ap (λ (j : ℕ). take j key) e ∙ K.words h S
          ∙ ap (λ (xs : List ℕ). (vertex h x).head ∷ map (λ y. pattern_of cells (table_in t work₀) (root h y)) xs) (take_all i (vertex h x).args (omega (arith, K.many h S)));
    }

-- the key as it is lent has some words
pub keyed-lent : (cells work work' : List ℕ) (t : Table) (g : Counts) (x : ℕ) (key : List ℕ) (k : ℕ) → Keyed cells work work' t g x key k → (h : Graph) → Shows cells (table_in t work) g h → 0 < length (take (k - 0) (drop 0 key))
keyed-lent cells work work' t g x key k K h S = let e : k - 0 ≡ k = omega arith in omega (arith, ap length (ap (λ (j : ℕ). take j key) e ∙ K.words h S))
