-- What the worklist of `Matching` comes to: what definition's `matches` does, up to the order of values.
use Rattle.std.specs.Prelude.{◌≡◌, length, get_or}
use Rattle.std.proofs.Common.{sym, ap, ◌∙◌, arith}
use mathlib.Core.List.{List, [], ◌∷◌}
use Rattle.std.proofs.Math.Option.{Option, none, some}
use Prim.Native.Nat.{ℕ, zero, suc, ◌+◌, ◌<◌, ◌≤◌}
use Rattle.definition.specs.Test.{is, see, never}
use Rattle.definition.specs.Pack.{Pack, Node, no_node}
use Rattle.definition.specs.Tree.{Tree, Trees, tree, no_trees, tree_then, no_tree, tree_of, turn}
use Rattle.definition.specs.Store.{below, term_of}
use Rattle.definition.specs.Verdict.{Bound, value_of, matches}
use Rattle.definition.specs.Good.{Good, Once}
use Rattle.definition.specs.Graph.{Pair}
use Rattle.definition.proofs.Laws.Tree.{tree_once}
use Rattle.definition.proofs.Laws.Matches.{Agrees, Given, sound, Found, complete}
use Rattle.theory.specs.Copies.Terms.{Earlier}
use Rattle.theory.specs.Walks.Ahead.{beside}
use Rattle.theory.specs.Walks.Valuing.{total, left-most}
use Rattle.theory.specs.Walks.Matching.{Matching, matching, take_match, matches_left, Meets, Known, Turned, Says}
use Rattle.theory.specs.Walks.MatchTurns.{match_says}

-- ---- values that the same assignments agree with are the same

-- each variable's value as a tree, of a variable without one a tree that is given
unfoldable assigned : Pack → Tree → List Bound → ℕ → Tree
assigned P t vs k = elim (value_of k vs) [ none ↦ t | some m ↦ tree_of P m ]

-- it agrees with the values
assigned_agrees : (P : Pack) (t : Tree) (vs : List Bound) → Agrees P (assigned P t vs) vs
unfolding assigned
assigned_agrees P t vs k m e = rw (e, assigned)

-- a tree over another
over : Tree → Tree
over t = tree 0 (tree_then t no_trees)

mutual
  -- how many nodes a tree has
  height : Tree → ℕ
  height (tree h ts) = suc (heights ts)

  -- and trees
  heights : Trees → ℕ
  heights no_trees = 0
  heights (tree_then t ts) = height t + heights ts

-- no tree stands over itself
over-other : (t : Tree) → over t ≡ t → ⊥
unfolding over height
over-other t e = let z : height (over t) ≡ height t = ap height e in absurd (omega arith)

-- a value of the one is the value of the other
value_same : (P : Pack) → Good P → Once P → (vs ws : List Bound) → Given P vs → Given P ws → ((ν : ℕ → Tree) → Agrees P ν ws → Agrees P ν vs) → (k m : ℕ) → value_of k vs ≡ some m → value_of k ws ≡ some m
unfolding assigned
value_same P G O vs ws g h f k m e =
    let t : Tree = over (tree_of P m) in
    let a : assigned P t ws k ≡ tree_of P m = f (assigned P t ws) (assigned_agrees P t ws) k m e in
    elim (see (value_of k ws)) [
      | is none q ↦ let z : t ≡ tree_of P m = rw (q, assigned) at a in absurd (over-other (tree_of P m) z)
      | is (some i) q ↦
          let z : tree_of P i ≡ tree_of P m = rw (q, assigned) at a in
          q ∙ ap some (tree_once P G O i m (h k i q) (g k m e) z)
    ]

-- so they have the same values
values_same : (P : Pack) → Good P → Once P → (vs ws : List Bound) → Given P vs → Given P ws → ((ν : ℕ → Tree) → Agrees P ν vs → Agrees P ν ws) → ((ν : ℕ → Tree) → Agrees P ν ws → Agrees P ν vs)
    → (k : ℕ) → value_of k vs ≡ value_of k ws
values_same P G O vs ws g h f b k = elim (see (value_of k vs)) [
  | is (some m) e ↦ e ∙ sym (value_same P G O vs ws g h b k m e)
  | is none e ↦ elim (see (value_of k ws)) [
    | is none q ↦ e ∙ sym q
    | is (some m) q ↦ let z : none ≡ some m = sym e ∙ value_same P G O ws vs h g f k m q in never (cc)
  ]
]

-- every assignment agrees with no values
none_agrees : (P : Pack) (ν : ℕ → Tree) → Agrees P ν []
unfolding value_of
none_agrees P ν k m e = let z : none ≡ some m = e in never (cc)

-- no values are nodes
none-given : (P : Pack) → Given P []
unfolding value_of
none-given P k m e = let z : none ≡ some m = e in never (cc)

-- ---- the worklist

-- pairs are taken from the worklist's top, at most so many
unfoldable pub take_matches : ℕ → Pack → List Node → List Pair → List Bound → List Bound → Option (List Bound)
unfolding take_match
take_matches zero P s [] seen vs = some vs
take_matches zero P s (q ∷ work) seen vs = none
take_matches (suc d) P s [] seen vs = some vs
take_matches (suc d) P s (q ∷ work) seen vs = elim (take_match P s q.left q.right work seen vs) [ none ↦ none | some t ↦ take_matches d P s t.work t.seen t.values ]

-- the same values, or none on both sides
abbrev pub Alike : Option (List Bound) → Option (List Bound) → Type 0
Alike none none = Unit {0}
Alike none (some ws) = ⊥
Alike (some vs) none = ⊥
Alike (some vs) (some ws) = (k : ℕ) → value_of k vs ≡ value_of k ws

-- what is left has the assignments of the whole, a pattern p against a node n
pub record Leads (P : Pack) (s : List Node) (k p n : ℕ) (t : Matching) : Type 0 where
  pub known : Known P s k t
  pub forth : (ν : ℕ → Tree) → turn ν (term_of s p) ≡ tree_of P n → Agrees P ν t.values × Meets P s ν k t.work
  pub back : (ν : ℕ → Tree) → Agrees P ν t.values → Meets P s ν k t.work → turn ν (term_of s p) ≡ tree_of P n

-- a good pack, a node of it, and patterns below k of a store whose nodes rest on earlier ones
module _ (P : Pack) (s : List Node) (G : Good P) (O : Once P) (E : Earlier s) (k p n : ℕ) (few : k ≤ length s) (there : n < length P.nodes) where
  -- the pattern and the node alone
  pub leads_first : p < k → Leads P s k p n (matching (beside p n ∷ []) [] [])
  unfolding value_of
  leads_first h = record {
    known = record {
      nodes = (h, tt);
      grounds = (there, tt);
      values = none-given P;
      seen = none-given P;
      settled = λ x m e ν a M. let z : none ≡ some m = e in never (cc);
    };
    forth = λ ν e. (none_agrees P ν, (λ _. e, tt));
    back = λ ν a M. M.0 h;
  }

  module _ (q : Pair) (work : List Pair) (seen vs : List Bound) (L : Leads P s k p n (matching (q ∷ work) seen vs)) where
    -- what a turn says
    leads_says : Says P s k (matching (q ∷ work) seen vs) (take_match P s q.left q.right work seen vs)
    leads_says = match_says P s G O E k q.left q.right work seen vs few L.known

    -- after a turn what is left still has them, and fewer pairs are left
    pub leads_on : (t : Matching) → take_match P s q.left q.right work seen vs ≡ some t → Leads P s k p n t × (matches_left s k t < matches_left s k (matching (q ∷ work) seen vs))
    leads_on t e =
        let T : Turned P s k (matching (q ∷ work) seen vs) t = rw e at leads_says in (
          record {
            known = T.known;
            forth = λ ν f. let a = L.forth ν f in T.forth ν a.0 a.1;
            back = λ ν a M. let b = T.back ν a M in L.back ν b.0 b.1;
          },
          T.less,
        )

    -- where a turn fails there is no match
    pub leads_stop : take_match P s q.left q.right work seen vs ≡ none → matches P (term_of s p) n [] ≡ none
    leads_stop e =
        let F : Says P s k (matching (q ∷ work) seen vs) none = rw e at leads_says in
        elim (see (matches P (term_of s p) n [])) [
          | is none m ↦ m
          | is (some ws) m ↦
              let ν = assigned P no_tree ws in
              let f = (sound P G ν (term_of s p) n [] ws there m).1 (assigned_agrees P no_tree ws) in
              let a = L.forth ν f in
              absurd (F ν a.0 a.1)
        ]

  -- where nothing is left the values are those of the match
  pub leads_done : (seen vs : List Bound) → Leads P s k p n (matching [] seen vs) → (ws : List Bound) × (matches P (term_of s p) n [] ≡ some ws) × ((j : ℕ) → value_of j vs ≡ value_of j ws)
  leads_done seen vs L =
      let found : (ν : ℕ → Tree) → Agrees P ν vs → Found P ν (matches P (term_of s p) n []) =
      λ ν a. complete P G O ν (term_of s p) n [] there (none_agrees P ν) (none-given P) (L.back ν a tt) in
      let F = found (assigned P no_tree vs) (assigned_agrees P no_tree vs) in
      let forth : (ν : ℕ → Tree) → Agrees P ν vs → Agrees P ν F.values =
      λ ν a. let H = found ν a in let z : some H.values ≡ some F.values = sym H.found ∙ F.found in let e : H.values ≡ F.values = cc in rw e at H.agrees in
      let back : (ν : ℕ → Tree) → Agrees P ν F.values → Agrees P ν vs =
      λ ν a. (L.forth ν ((sound P G ν (term_of s p) n [] F.values there F.found).1 a)).0 in
      (F.values, F.found, λ j. values_same P G O vs F.values L.known.values F.given forth back j)

  -- taken one by one the pairs come to the match, in as many turns as there are pairs left
  pub leads_taken : (d : ℕ) (work : List Pair) (seen vs : List Bound) → Leads P s k p n (matching work seen vs) → matches_left s k (matching work seen vs) ≤ d → Alike (take_matches d P s work seen vs) (matches P (term_of s p) n [])
  unfolding take_matches
  leads_taken zero [] seen vs L h = let D = leads_done seen vs L in rw D.1 D.2
  leads_taken zero (q ∷ work) seen vs L h = absurd (omega arith)
  leads_taken (suc d) [] seen vs L h = let D = leads_done seen vs L in rw D.1 D.2
  leads_taken (suc d) (q ∷ work) seen vs L h = elim (see (take_match P s q.left q.right work seen vs)) [
    | is none e ↦ rw (e, leads_stop q work seen vs L e, take_matches) tt
    | is (some t) e ↦ let N = leads_on q work seen vs L t e in rw (e, take_matches) (leads_taken d t.work t.seen t.values N.0 (omega (arith, N.1)))
  ]

-- a pattern against a node by the worklist: as many turns as the patterns up to it have arguments, and one, are enough
pub matches_taken : (P : Pack) (s : List Node) → Good P → Once P → Earlier s → (p n : ℕ) → p < length s → n < length P.nodes → (d : ℕ) → 1 + total (λ x. below (get_or s x no_node)) (suc p) ≤ d
    → Alike (take_matches d P s (beside p n ∷ []) [] []) (matches P (term_of s p) n [])
matches_taken P s G O E p n h l d m =
    let t = left-most (λ x. below (get_or s x no_node)) (suc p) [] in
    leads_taken P s G O E (suc p) p n (omega arith) l d (beside p n ∷ []) [] [] (leads_first P s G O E (suc p) p n (omega arith) l (omega arith)) (omega (arith, t))
