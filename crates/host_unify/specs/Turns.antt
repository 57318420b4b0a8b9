-- Reading: what the functions owe to each other, and the laws of a turn: what is left to read gives the whole.
use Rattle.std.specs.Prelude.{Result, Ok, Err}
use Rattle.std.specs.Prelude.{Some, None}
use Rattle.std.specs.Prelude.{◌≡◌, true, false, ltb, get_or, take, drop}
use Rattle.std.proofs.Math.Path.{refl}
use Rattle.std.proofs.Common.{sym, ap, ◌∙◌, arith, add-one, length-drop, drop_of_length-le, drop-cons, get_or-drop}
use mathlib.Core.List.{List, [], ◌∷◌, ◌++◌}
use Rattle.std.proofs.Math.Option.{none}
use Prim.Native.Nat.{ℕ, zero, suc, ◌+◌, ◌-◌, ◌≤◌, ◌<◌}
use borrow.Author.Tests.{lt-ltb, le-ltb, le-leb, lt-leb, ltb-true, eq-eqb, ne_eqb}
use Rattle.std.proofs.Math.ListN.{length}
use Rattle.std.proofs.Math.Seq.{drop-drop}
use Rattle.definition.specs.Test.{◌and◌, all, and_parts}
use Rattle.definition.specs.Store.{variable_head}
use Rattle.definition.specs.Good.{Below}
use Rattle.definition.specs.Graph.{Vertex, Graph, variable_vertex, applied, push, cells as cells_of}
use Rattle.base.specs.declared.id.Node.{Node}
use Rattle.graph.specs.declared.graph.Graph.{Graph as Counts}
use Rattle.graph.specs.Cells.{mark_in, Shows, cells-more}
use Rattle.graph.specs.Pushes.{Pushes, cells_shown}
use Rattle.theory.specs.Unification.Inner.{Inner, inner_more}
use Rattle.graph.specs.Inner.{many-nodes}
use Rattle.host_unify.specs.Solved.{words_of, node_of, earlier, is_node, whole, broken, full, read_nodes, listed}
use Rattle.host_unify.specs.declared.Fault.{Fault}
use Rattle.host_unify.specs.declared.Fault.TheVariants.{Broken, Full}

-- ---- what is owed
-- the nodes up to `at` stand in the graph, and the rest of the list gives the whole
pub record Reading (terms cells work : List ℕ) (s : Counts) (at : ℕ) : Type 0 where
  pub graph : Graph
  pub shows : Shows cells work s graph
  pub inner : Inner graph
  pub within : at ≤ length terms
  pub fuel : ℕ
  pub enough : length terms ≤ at + fuel
  pub left : read_nodes fuel (length cells) graph (drop at terms) ≡ listed terms (length cells)

-- after a turn
abbrev pub Turned : List ℕ → List ℕ → List ℕ → ℕ → Result (Counts × ℕ) Fault → Type 0
Turned terms cells work at (Ok (s, end)) = Reading terms cells work s end × (at < end)
Turned terms cells work at (Err Broken) = listed terms (length cells) ≡ broken
Turned terms cells work at (Err Full) = listed terms (length cells) ≡ full

-- and after all
abbrev pub Reads : List ℕ → List ℕ → List ℕ → Result Counts Fault → Type 0
Reads terms cells work (Ok s) = (g : Graph) × Shows cells work s g × Inner g × (listed terms (length cells) ≡ whole g)
Reads terms cells work (Err Broken) = listed terms (length cells) ≡ broken
Reads terms cells work (Err Full) = listed terms (length cells) ≡ full

-- ---- earlier nodes
-- none, one that is not, one that is, and all of them
pub earlier-none : (n : ℕ) → earlier n [] ≡ true
unfolding earlier all
earlier-none n = refl

pub earlier_late : (n : ℕ) (xs : List ℕ) (i : ℕ) → i < length xs → n ≤ get_or xs i 0 → earlier n (drop i xs) ≡ false
unfolding earlier all ◌and◌
earlier_late n xs i h l = rw (drop-cons xs i 0 h, earlier, all, le-ltb _ _ l, ◌and◌)

pub earlier-next : (n : ℕ) (xs : List ℕ) (i : ℕ) → i < length xs → get_or xs i 0 < n → earlier n (drop (i + 1) xs) ≡ earlier n (drop i xs)
unfolding earlier all ◌and◌
earlier-next n xs i h l = rw (drop-cons xs i 0 h, add-one i, earlier, all, lt-ltb _ _ l, ◌and◌)

pub earlier-end : (n : ℕ) (xs : List ℕ) (i : ℕ) → length xs ≤ i → earlier n (drop i xs) ≡ true
earlier-end n xs i h = ap (earlier n) (drop_of_length-le xs h) ∙ earlier-none n

-- as the graph's laws have it
pub earlier-below : (n : ℕ) (xs : List ℕ) → earlier n xs ≡ true → Below n xs
unfolding earlier all
earlier-below n [] e = tt
earlier-below n (x ∷ xs) e = let p = and_parts (ltb x n) (all (λ a. ltb a n) xs) e in (ltb-true x n p.0, earlier-below n xs p.1)

-- ---- one node read
-- nothing is left, the words are no node, there is no room for it, or it is read
module _ (k room : ℕ) (g : Graph) where
  read_none : read_nodes k room g [] ≡ whole g
  unfolding read_nodes
  read_none = by_cases k
    where
      by_cases : (k : ℕ) → read_nodes k room g [] ≡ whole g
      by_cases zero = refl
      by_cases (suc k) = refl

  read_broken : (ws : List ℕ) → 0 < length ws → is_node (length g) ws ≡ false → read_nodes (suc k) room g ws ≡ broken
  unfolding read_nodes
  read_broken [] l e = absurd (omega arith)
  read_broken (w ∷ ws) l e = rw (e, read_nodes)

  read_full : (ws : List ℕ) → 0 < length ws → is_node (length g) ws ≡ true → room < cells_of (g ++ (node_of ws ∷ [])) → read_nodes (suc k) room g ws ≡ full
  unfolding read_nodes push
  read_full [] l e h = absurd (omega arith)
  read_full (w ∷ ws) l e h = rw (e, read_nodes, lt-leb _ _ h)

  read_next : (ws : List ℕ) → 0 < length ws → is_node (length g) ws ≡ true → cells_of (g ++ (node_of ws ∷ [])) ≤ room → read_nodes (suc k) room g ws ≡ read_nodes k room (g ++ (node_of ws ∷ [])) (drop (words_of ws) ws)
  unfolding read_nodes push
  read_next [] l e h = absurd (omega arith)
  read_next (w ∷ ws) l e h = rw (e, read_nodes, le-leb _ _ h)

-- ---- the words ahead
module _ (terms : List ℕ) (at : ℕ) where
  abbrev ahead : List ℕ
  ahead = drop at terms

  word-ahead : (i : ℕ) → get_or ahead i 0 ≡ get_or terms (at + i) 0
  word-ahead i = get_or-drop at terms i 0

  first_word : get_or ahead 0 0 ≡ get_or terms at 0
  first_word = let e : at + 0 ≡ at = omega arith in word-ahead 0 ∙ ap (λ (j : ℕ). get_or terms j 0) e

  long : length ahead ≡ length terms - at
  long = length-drop at terms

  module _ (v : get_or terms at 0 ≡ variable_head) where
    pub var_words : words_of ahead ≡ 4
    unfolding words_of
    var_words = rw (eq-eqb _ _ (first_word ∙ v), words_of)

    pub var_node : node_of ahead ≡ variable_vertex (get_or terms (at + 1) 0) (mark_in (get_or terms (at + 2) 0)) (mark_in (get_or terms (at + 3) 0))
    unfolding node_of
    var_node = rw (eq-eqb _ _ (first_word ∙ v), node_of, word-ahead 1, word-ahead 2, word-ahead 3)

  module _ (d : get_or terms at 0 ≡ variable_head → ⊥) where
    abbrev unlike : get_or ahead 0 0 ≡ variable_head → ⊥
    unlike e = d (sym first_word ∙ e)

    pub app_words : words_of ahead ≡ 2 + get_or terms (at + 1) 0
    unfolding words_of
    app_words = rw (ne_eqb _ _ unlike, words_of, word-ahead 1)

    pub app_node : node_of ahead ≡ applied (get_or terms at 0) (take (get_or terms (at + 1) 0) (drop (at + 2) terms))
    unfolding node_of
    app_node = rw (ne_eqb _ _ unlike, node_of, word-ahead 1, first_word, drop-drop 2 at terms)

  -- too few words
  pub few_words : (n : ℕ) → at ≤ length terms → length terms < at + words_of ahead → is_node n ahead ≡ false
  unfolding is_node ◌and◌
  few_words n l h = let f : length (drop at terms) < words_of (drop at terms) = omega (arith, long) in rw (is_node, lt-leb _ _ f, ◌and◌)

  -- enough words
  pub all_words : (n : ℕ) → at + words_of ahead ≤ length terms → is_node n ahead ≡ earlier n (node_of ahead).args
  unfolding is_node ◌and◌
  all_words n h = let f : words_of (drop at terms) ≤ length (drop at terms) = omega (arith, long) in rw (is_node, le-leb _ _ f, ◌and◌)

-- ---- turns
-- ahead of the first
pub begun : (terms cells work : List ℕ) (s : Counts) → Shows cells work s [] → Reading terms cells work s 0
unfolding listed
begun terms cells work s S = record { graph = []; shows = S; inner = λ x l. absurd (omega arith); within = omega arith; fuel = length terms; enough = omega arith; left = refl }

module _ (terms cells work : List ℕ) (s : Counts) (at : ℕ) (R : Reading terms cells work s at) where
  -- behind the last
  pub ended_there : length terms ≤ at → Reads terms cells work (Ok s)
  ended_there h = (
    R.graph,
    R.shows,
    R.inner,
    sym R.left ∙ ap (read_nodes R.fuel (length cells) R.graph) (drop_of_length-le terms h) ∙ read_none R.fuel (length cells) R.graph,
  )

  pub as_many : length R.graph ≡ s.nodes
  as_many = many-nodes cells work s R.graph R.shows

  module _ (here : at < length terms) where
    some : 0 < length (drop at terms)
    some = omega (arith, length-drop at terms)

    left_is : read_nodes (suc (R.fuel - 1)) (length cells) R.graph (drop at terms) ≡ listed terms (length cells)
    left_is = let e : suc (R.fuel - 1) ≡ R.fuel = omega (arith, R.enough) in ap (λ (j : ℕ). read_nodes j (length cells) R.graph (drop at terms)) e ∙ R.left

    pub turned_broken : is_node s.nodes (drop at terms) ≡ false → listed terms (length cells) ≡ broken
    turned_broken e = sym left_is ∙ read_broken (R.fuel - 1) (length cells) R.graph (drop at terms) some (ap (λ (n : ℕ). is_node n (drop at terms)) as_many ∙ e)

    module _ (good : is_node s.nodes (drop at terms) ≡ true) (v : Vertex) (v-is : node_of (drop at terms) ≡ v) (cells' work' : List ℕ) (long-cells : length cells' ≡ length cells) where
      good_there : is_node (length R.graph) (drop at terms) ≡ true
      good_there = ap (λ (n : ℕ). is_node n (drop at terms)) as_many ∙ good

      pub turned_full : Pushes cells cells' work work' s v None → listed terms (length cells') ≡ full
      turned_full P =
          let h : length cells < cells_of (R.graph ++ (node_of (drop at terms) ∷ [])) = rw v-is (omega (arith, P R.graph R.shows, cells-more R.graph v)) in
          ap (listed terms) long-cells ∙ sym left_is ∙ read_full (R.fuel - 1) (length cells) R.graph (drop at terms) some good_there h

      pub turned_next : (n : Node) (s' : Counts) (end : ℕ) → Pushes cells cells' work work' s v (Some (n, s')) → end ≡ at + words_of (drop at terms) → at < end → end ≤ length terms → v.link ≡ none → earlier s.nodes v.args ≡ true → Reading terms cells' work' s' end × (at < end)
      turned_next n s' end P e more fits bare old =
          let S = (P.0 R.graph R.shows).1 in
          let h : cells_of (R.graph ++ (node_of (drop at terms) ∷ [])) ≤ length cells = rw v-is (omega (arith, cells_shown cells' work' s' (R.graph ++ (v ∷ [])) S, S.laid.fits)) in
          let next = read_next (R.fuel - 1) (length cells) R.graph (drop at terms) some good_there h in
          let there : drop (words_of (drop at terms)) (drop at terms) ≡ drop end terms = drop-drop (words_of (drop at terms)) at terms ∙ ap (λ (j : ℕ). drop j terms) (sym e) in (
            record {
              graph = R.graph ++ (v ∷ []);
              shows = S;
              inner = inner_more R.graph v bare R.inner (rw as_many (earlier-below s.nodes v.args old));
              within = fits;
              fuel = R.fuel - 1;
              enough = omega (arith, R.enough);
              left = rw long-cells (rw (v-is, there) at (sym next ∙ left_is));
            },
            more,
          )

    -- the variable there
    module _ (var : get_or terms at 0 ≡ variable_head) where
      pub var_broken : length terms - at < 4 → listed terms (length cells) ≡ broken
      var_broken h = turned_broken (few_words terms at s.nodes (omega arith) (omega (arith, var_words terms at var)))

      module _ (h : at + 4 ≤ length terms) (cells' work' : List ℕ) (long-cells : length cells' ≡ length cells) where
        abbrev u : Vertex
        u = variable_vertex (get_or terms (at + 1) 0) (mark_in (get_or terms (at + 2) 0)) (mark_in (get_or terms (at + 3) 0))

        u_is : node_of (drop at terms) ≡ u
        u_is = var_node terms at var

        good_var : is_node s.nodes (drop at terms) ≡ true
        good_var = all_words terms at s.nodes (omega (arith, var_words terms at var)) ∙ ap (λ (w : Vertex). earlier s.nodes w.args) u_is ∙ earlier-none s.nodes

        pub var_full : Pushes cells cells' work work' s u None → listed terms (length cells') ≡ full
        var_full P = turned_full good_var u u_is cells' work' long-cells P

        pub var_next : (n : Node) (s' : Counts) → Pushes cells cells' work work' s u (Some (n, s')) → Reading terms cells' work' s' (at + 4) × (at < at + 4)
        var_next n s' P = turned_next good_var u u_is cells' work' long-cells n s' (at + 4) P (omega (arith, var_words terms at var)) (omega arith) h refl (earlier-none s.nodes)

    -- the application there
    module _ (app : get_or terms at 0 ≡ variable_head → ⊥) where
      pub app_broken : length terms < at + 2 + get_or terms (at + 1) 0 → listed terms (length cells) ≡ broken
      app_broken h = turned_broken (few_words terms at s.nodes (omega arith) (omega (arith, app_words terms at app)))

      module _ (end : ℕ) (end_is : end ≡ at + 2 + get_or terms (at + 1) 0) (h : end ≤ length terms) where
        abbrev args : List ℕ
        args = take (end - (at + 2)) (drop (at + 2) terms)

        abbrev w : Vertex
        w = applied (get_or terms at 0) args

        w_is : node_of (drop at terms) ≡ w
        w_is = let e : get_or terms (at + 1) 0 ≡ end - (at + 2) = omega arith in app_node terms at app ∙ ap (λ (j : ℕ). applied (get_or terms at 0) (take j (drop (at + 2) terms))) e

        node-if : is_node s.nodes (drop at terms) ≡ earlier s.nodes args
        node-if = all_words terms at s.nodes (omega (arith, app_words terms at app)) ∙ ap (λ (v : Vertex). earlier s.nodes v.args) w_is

        pub app_late : earlier s.nodes args ≡ false → listed terms (length cells) ≡ broken
        app_late e = turned_broken (node-if ∙ e)

        module _ (old : earlier s.nodes args ≡ true) (cells' work' : List ℕ) (long-cells : length cells' ≡ length cells) where
          pub app_full : Pushes cells cells' work work' s w None → listed terms (length cells') ≡ full
          app_full P = turned_full (node-if ∙ old) w w_is cells' work' long-cells P

          pub app_next : (n : Node) (s' : Counts) → Pushes cells cells' work work' s w (Some (n, s')) → Reading terms cells' work' s' end × (at < end)
          app_next n s' P = turned_next (node-if ∙ old) w w_is cells' work' long-cells n s' end P (omega (arith, app_words terms at app)) (omega arith) h refl old
