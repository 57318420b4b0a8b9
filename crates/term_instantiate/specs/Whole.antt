-- A whole term: nothing is built ahead of its last word, and all of it behind its first.
use Rattle.std.specs.Prelude.{◌≡◌, refl}
use Rattle.std.proofs.Math.Path.{sym, ap}
use Rattle.std.proofs.Common.{◌∙◌, drop_of_length-le}
use mathlib.Core.List.{List, [], ◌∷◌}
use Prim.Native.Nat.{ℕ, zero, suc, ◌≤◌, ◌<◌}
use native.Mathlib.Omega.{arith}
use Rattle.std.proofs.Math.ListN.{length, get_or, drop}
use Rattle.std.proofs.Math.Seq.{drop-cons}
use Rattle.definition.specs.Pack.{Term, Terms, nil, cons, Pack, rule_of}
use Rattle.definition.specs.Good.{Below}
use Rattle.definition.specs.Graph.{Graph, applied, push, cells as cells_of}
use Rattle.definition.specs.Analysis.{GrownAll, instantiate, instantiate_all}
use Rattle.definition.proofs.Laws.Prefix.{term_words, terms_words}
use Rattle.graph.specs.declared.graph.Graph.{Graph as Counts}
use Rattle.graph.specs.Cells.{Shows, cells-more}
use Rattle.theory.specs.Unification.Inner.{Inner}
use Rattle.term_instantiate.specs.declared.terms.Place.{Place}
use Rattle.definition.proofs.Laws.Suffix.{after, Ahead, a_variable, a_symbol, after-words, after-ahead, all_words, no_words}
use Rattle.term_instantiate.specs.Suffix.{variable-nodes, symbol-nodes}
use Rattle.term_instantiate.specs.Building.{Spells, table_in, nodes_of, Built}

module _ (P : Pack) (r vars from to : ℕ) (t : Term) (Sp : Spells P r vars from to t) where
  -- behind the last word there is no term
  none-behind : after (cons t nil) (length (term_words t)) ≡ nil
  none-behind =
      let e = ap length (all_words t) in
      let d : drop (length (term_words t)) (terms_words (cons t nil)) ≡ [] = drop_of_length-le (terms_words (cons t nil)) {i = length (term_words t)} (omega arith) in
      no_words (after (cons t nil) (length (term_words t))) (ap length (sym (after-words (cons t nil) (length (term_words t)) (omega arith)) ∙ d))

  -- so nothing is built
  pub built-none : (env : List ℕ) (h : Graph) (work cells stack : List ℕ) (l : Place) (g : Counts) → length stack ≡ 256 → Shows cells (table_in work l) g h → Inner h → Below (length h) env → Built t env h work cells stack l g 256 (length (term_words t))
  unfolding instantiate
  built-none env h work cells stack l g long S I b =
      let e : nodes_of t env h (length (term_words t)) ≡ record { ats = []; graph = h } = ap (λ (ts : Terms). instantiate_all ts env h) none-behind in
      record {
        shows = rw e S;
        inner = rw e I;
        inside = rw e tt;
        nodes = rw e b;
        high = rw e refl;
        stacked = rw e (drop_of_length-le stack {i = 256} (omega (arith, long)));
      }

  -- the graph only grows
  pub cells-grow : (env : List ℕ) (h : Graph) (j : ℕ) → j ≤ length (term_words t) → cells_of (nodes_of t env h j).graph ≤ cells_of (instantiate t env h).graph
  unfolding after instantiate push
  cells-grow env h zero l = omega arith
  cells-grow env h (suc j) l = let ih = cells-grow env h j (omega arith) in go ih (after-ahead P (rule_of P r).vars (cons t nil) (Sp.sort ∷ []) (Sp.sorted, tt) j (omega (arith, ap length (all_words t))))
    where
      go : cells_of (nodes_of t env h j).graph ≤ cells_of (instantiate t env h).graph → Ahead P (rule_of P r).vars (after (cons t nil) j) (get_or (terms_words (cons t nil)) j 0) → cells_of (nodes_of t env h (suc j)).graph ≤ cells_of (instantiate t env h).graph
      go ih (a_variable k rest rs e q b S) = omega (arith, ih, ap (λ (x : GrownAll). cells_of x.graph) (variable-nodes (cons t nil) env h j k rest e))
      go ih (a_symbol s us rest rs e q b S T) =
          let n = symbol-nodes (cons t nil) env h j s us rest e in
          omega (arith, ih, ap (λ (x : GrownAll). cells_of x.graph) n.4, cells-more (nodes_of t env h (suc j)).graph (applied s n.0))

  -- behind its first word: its node is on top
  pub built-all : (env : List ℕ) (h : Graph) (work cells stack : List ℕ) (l : Place) (g : Counts) (top : ℕ) → length stack ≡ 256 → Built t env h work cells stack l g top 0
      → (top < 256) × (get_or stack top 0 ≡ (instantiate t env h).at) × Shows cells (table_in work l) g (instantiate t env h).graph × Inner (instantiate t env h).graph × ((instantiate t env h).at < length (instantiate t env h).graph)
  unfolding after instantiate
  built-all env h work cells stack l g top long B =
      let low : top < 256 = omega (arith, B.high) in
      let d : drop top stack ≡ get_or stack top 0 ∷ drop (suc top) stack = drop-cons stack top 0 (omega (arith, long)) in
      let e : get_or stack top 0 ∷ drop (suc top) stack ≡ (instantiate t env h).at ∷ [] = sym d ∙ B.stacked in
      (low, ap (λ (xs : List ℕ). get_or xs 0 0) e, B.shows, B.inner, B.inside.0)
