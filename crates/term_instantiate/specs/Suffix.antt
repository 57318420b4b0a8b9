-- The nodes of the terms behind a word of a term, and of those ahead of it.
use Rattle.std.specs.Prelude.{◌≡◌, List, [], ◌∷◌, ◌++◌, ℕ, suc, ◌+◌, ◌≤◌, length, get_or}
use Rattle.std.proofs.Math.Path.{refl, ap}
use Rattle.std.proofs.Common.{sym, ◌∙◌, arith, length-drop}
use Rattle.definition.specs.Pack.{Terms, var, app, nil, cons, Pack}
use Rattle.definition.specs.Good.{SortedAll}
use Rattle.definition.specs.Graph.{Graph, applied, push}
use Rattle.definition.specs.Analysis.{GrownAll, instantiate, instantiate_all}
use Rattle.definition.proofs.Laws.Prefix.{terms_words}
use Rattle.definition.proofs.Laws.Suffix.{joined, next, after, after_sorted, after-words, words_some}

-- nodes of terms, with the graph that has them
abbrev grown_all : List ℕ → Graph → GrownAll
grown_all ats g = record { ats = ats; graph = g }

-- the nodes of terms and others: the others first
pub joined-nodes : (us vs : Terms) (env : List ℕ) (g : Graph)
    → instantiate_all (joined us vs) env g ≡ grown_all ((instantiate_all us env (instantiate_all vs env g).graph).ats ++ (instantiate_all vs env g).ats) (instantiate_all us env (instantiate_all vs env g).graph).graph
unfolding instantiate
joined-nodes nil vs env g = refl
joined-nodes (cons t us) vs env g =
    ap (λ (r : GrownAll). grown_all ((instantiate t env r.graph).at ∷ r.ats) (instantiate t env r.graph).graph) (joined-nodes us vs env g)

-- as many nodes as terms of sorts
pub nodes-many : (P : Pack) (vars : List ℕ) (ts : Terms) (ss : List ℕ) → SortedAll P vars ts ss → (env : List ℕ) (g : Graph) → length (instantiate_all ts env g).ats ≡ length ss
unfolding instantiate
nodes-many P vars nil [] S env g = refl
nodes-many P vars nil (s ∷ ss) S env g = absurd S
nodes-many P vars (cons t ts) [] S env g = absurd S
nodes-many P vars (cons t ts) (s ∷ ss) S env g = ap suc (nodes-many P vars ts ss S.1 env g)

-- no more nodes than words
pub after_few : (P : Pack) (vars : List ℕ) (ts : Terms) (ss : List ℕ) → SortedAll P vars ts ss → (j : ℕ) → j ≤ length (terms_words ts) → (env : List ℕ) (g : Graph) → length (instantiate_all (after ts j) env g).ats + j ≤ length (terms_words ts)
after_few P vars ts ss S j l env g =
    let q = after_sorted P vars ts ss S j in
    let e = ap length (after-words ts j l) in
    omega (arith, nodes-many P vars (after ts j) q.0 q.1 env g, words_some P vars (after ts j) q.0 q.1, e, length-drop j (terms_words ts))

-- ---- with the graph that has the nodes of those behind a word, the nodes of those ahead of it
module _ (ts : Terms) (env : List ℕ) (g : Graph) (j : ℕ) where
  abbrev before : GrownAll
  before = instantiate_all (after ts j) env g

  abbrev behind : GrownAll
  behind = instantiate_all (after ts (suc j)) env g

  -- a variable's node is the environment's
  pub variable-nodes : (k : ℕ) (rest : Terms) → after ts j ≡ cons (var k) rest → before ≡ grown_all (get_or env k 0 ∷ behind.ats) behind.graph
  unfolding after next instantiate
  variable-nodes k rest e = ap (λ (us : Terms). instantiate_all us env g) e ∙ ap (λ (us : Terms). grown_all (get_or env k 0 ∷ (instantiate_all (next us) env g).ats) (instantiate_all (next us) env g).graph) (sym e)

  -- a symbol's node stands over the first of those behind it
  pub symbol-nodes : (h : ℕ) (us rest : Terms) → after ts j ≡ cons (app h us) rest
      → (args others : List ℕ) × (behind.ats ≡ args ++ others) × (length args ≡ length (instantiate_all us env (instantiate_all rest env g).graph).ats) × (before ≡ grown_all ((push behind.graph (applied h args)).at ∷ others) (push behind.graph (applied h args)).graph)
  unfolding after next instantiate
  symbol-nodes h us rest e =
      let r = instantiate_all rest env g in
      let u = instantiate_all us env r.graph in
      let b : behind ≡ grown_all (u.ats ++ r.ats) u.graph = ap (λ (vs : Terms). instantiate_all (next vs) env g) e ∙ joined-nodes us rest env g in (
        u.ats,
        r.ats,
        ap (λ (x : GrownAll). x.ats) b,
        refl,
        ap (λ (vs : Terms). instantiate_all vs env g) e ∙ ap (λ (k : Graph). grown_all ((push k (applied h u.ats)).at ∷ r.ats) (push k (applied h u.ats)).graph) (sym (ap (λ (x : GrownAll). x.graph) b)),
      )
