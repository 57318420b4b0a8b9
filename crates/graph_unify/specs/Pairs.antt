-- The pairs still to be taken.
use Rattle.std.specs.Prelude.{◌≡◌, refl, List, [], ◌∷◌, ℕ, suc, ◌+◌, ◌*◌, ◌-◌, ◌≤◌, ◌<◌, min, length, get_or, set, drop}
use Rattle.std.proofs.Common.{sym, ap, ap₂, subst, ◌∙◌, arith, add-one, length-set, length-drop, drop-cons, get_or-set_same, get_or-set_other}
use Rattle.definition.specs.Graph.{Graph, Pair, vertex, last_first}
use Rattle.graph.specs.declared.graph.Graph.{Graph as Counts}
use Rattle.graph.specs.Cells.{start_in, rows_end, Shows, SameRows, rows_same, rows_then, rows-set, shows_rows, Unchanged, unchanged_same, unchanged_then, unchanged_set}
use Rattle.graph.specs.Links.{Holds}
use Rattle.graph.specs.Nodes.{ArityOf, ArgumentOf, arity_of, argument_there}
use Rattle.base.specs.Pairs.{pairs_in, pair, pairs_more}
use Rattle.graph.specs.Stack.{pairs_end, left_word, right_word}
use Rattle.graph_unify.specs.declared.pairs.Pairs.{Pairs}

-- they are the nodes named, if there is a pair
abbrev pub Topmost : List ℕ → List ℕ → Pairs → Type 0
Topmost words table p = (t : ℕ) → p.top ≡ suc t → (p.left.0 ≡ left_word words table t) × (p.right.0 ≡ right_word words table t)

-- where the pairs' words are the same they still are
pub topmost_same : (words table table' : List ℕ) (p : Pairs) → Unchanged (rows_end words) table table' → Topmost words table p → Topmost words table' p
topmost_same words table table' p U T t e = (
  (T t e).0 ∙ sym (U.words (rows_end words + 2 * t) (omega arith)),
  (T t e).1 ∙ sym (U.words (rows_end words + 2 * t + 1) (omega arith)),
)

-- behind so many pairs there is room for the arguments of x
abbrev pub PairsRoom : List ℕ → List ℕ → ℕ → ℕ → Type 0
PairsRoom words table top x = (rows_end words + 2 * top + 2 * (start_in table (x + 1) - (start_in table x + 1)) ≤ length table) × (2 * top + 2 * (start_in table (x + 1) - (start_in table x + 1)) ≤ 2 * length words + 2)

-- the arguments of x and y side by side were put on the stack, and nothing else was written
pub record PairsOn (words table table' : List ℕ) (s : Counts) (top x y r : ℕ) : Type 0 where
  pub rows : SameRows words table table'
  pub beyond : Unchanged (pairs_end words) table table'
  pub pairs : (g : Graph) → Shows words table s g → pairs_in (rows_end words) table' r ≡ last_first (vertex g x).args (vertex g y).args (pairs_in (rows_end words) table top)

-- the arguments from i on still to be put there, and all of them
side_more : (xs ys : List ℕ) (i : ℕ) (w : List Pair) → i < length xs → i < length ys → last_first (drop (suc i) xs) (drop (suc i) ys) (pair (get_or xs i 0) (get_or ys i 0) ∷ w) ≡ last_first (drop i xs) (drop i ys) w
unfolding last_first
side_more xs ys i w h k = sym (ap₂ (λ (a b : List ℕ). last_first a b w) (drop-cons xs i 0 h) (drop-cons ys i 0 k))

side_none : (xs ys : List ℕ) (w : List Pair) → min (length xs) (length ys) ≡ 0 → last_first xs ys w ≡ w
unfolding last_first
side_none [] ys w e = refl
side_none (x ∷ xs) [] w e = refl
side_none (x ∷ xs) (y ∷ ys) w e = absurd (omega arith)

-- after i turns: there is room for the n pairs, and those still to be put there give the whole
pub record Piled (words before : List ℕ) (s : Counts) (x y top n : ℕ) (table : List ℕ) (left right i : ℕ) : Type 0 where
  pub low : i ≤ n
  pub few : 2 * (top + n) ≤ 2 * length words + 2
  pub fits : rows_end words + 2 * (top + n) ≤ length table
  pub rows : SameRows words before table
  pub beyond : Unchanged (pairs_end words) before table
  pub last : (t : ℕ) → i ≡ suc t → (left ≡ left_word words table (top + t)) × (right ≡ right_word words table (top + t))
  pub rest : (g : Graph) → Shows words before s g → last_first (drop i (vertex g x).args) (drop i (vertex g y).args) (pairs_in (rows_end words) table (top + i)) ≡ last_first (vertex g x).args (vertex g y).args (pairs_in (rows_end words) before top)

module _ (words before : List ℕ) (s : Counts) (x y a b n : ℕ) (A : ArityOf words before s x a) (B : ArityOf words before s y b) (m : n ≡ min a b) (top : ℕ) where
  pub pile_none : Holds words before s → x < s.nodes → PairsRoom words before top x → (left right : ℕ) → Piled words before s x y top n before left right 0
  pile_none H l h left right =
      let e = arity_of words before s H.0 H.1 x l in
      record {
        low = omega arith;
        few = omega (arith, A H.0 H.1, h.1);
        fits = omega (arith, A H.0 H.1, h.0);
        rows = rows_same words before;
        beyond = unchanged_same (pairs_end words) before;
        last = λ t e. absurd (omega (arith, e));
        rest = λ g S. let e : top + 0 ≡ top = omega arith in ap (λ (k : ℕ). last_first (vertex g x).args (vertex g y).args (pairs_in (rows_end words) before k)) e;
      }

  module _ (table : List ℕ) (i left₀ right₀ : ℕ) (P : Piled words before s x y top n table left₀ right₀ i) where
    -- what was held is held still
    pub pile_held : (g : Graph) → Shows words before s g → Shows words table s g
    pile_held g S = shows_rows words before table s g P.rows S

    -- there are as many arguments of either
    pub pile_left : Holds words before s → x < s.nodes → (k : ℕ) → k < n → start_in table x + 1 + k < start_in table (x + 1)
    pile_left H l k h = argument_there words table s H.0 (pile_held H.0 H.1) x l k (omega (arith, A H.0 H.1))

    pub pile_right : Holds words before s → y < s.nodes → (k : ℕ) → k < n → start_in table y + 1 + k < start_in table (y + 1)
    pile_right H l k h = argument_there words table s H.0 (pile_held H.0 H.1) y l k (omega (arith, B H.0 H.1))

    pub pile_more : (v w : ℕ) → i < n → ArgumentOf words table s x i v → ArgumentOf words table s y i w
        → Piled words before s x y top n (set (set table (rows_end words + 2 * (top + i)) v) (rows_end words + 2 * (top + i) + 1) w) v w (i + 1)
    pile_more v w h left right =
        let at : ℕ = rows_end words + 2 * (top + i) in
        let first : List ℕ = set table at v in
        let both : List ℕ = set first (at + 1) w in
        let k : length both ≡ length table = length-set first (at + 1) w ∙ length-set table at v in
        record {
          low = omega arith;
          few = P.few;
          fits = omega (arith, k, P.fits);
          rows = rows_then words before table both P.rows (rows_then words table first both (rows-set words table at v (omega arith)) (rows-set words first (at + 1) w (omega arith)));
          beyond = unchanged_then (pairs_end words) before table both P.beyond (unchanged_then (pairs_end words) table first both (unchanged_set (pairs_end words) table at v (omega (arith, P.few))) (unchanged_set (pairs_end words) first (at + 1) w (omega (arith, P.few))));
          last = λ t e.
              let z : i ≡ t = omega (arith, e) in (
                sym (get_or-set_other first (at + 1) at w 0 (λ e. omega (arith, e)) ∙ get_or-set_same table at v 0 (omega (arith, P.fits))) ∙ ap (λ (k : ℕ). left_word words both (top + k)) z,
                sym (get_or-set_same first (at + 1) w 0 (omega (arith, P.fits, length-set table at v))) ∙ ap (λ (k : ℕ). right_word words both (top + k)) z,
              );
          rest = λ g S.
              let xs : List ℕ = (vertex g x).args in
              let ys : List ℕ = (vertex g y).args in
              let e : top + (i + 1) ≡ suc (top + i) = omega arith in
              let T = pile_held g S in
              ap₂ (λ (j : ℕ) (ps : List Pair). last_first (drop j xs) (drop j ys) ps) (add-one i)
              (ap (pairs_in (rows_end words) both) e ∙ pairs_more (rows_end words) table (top + i) v w (omega (arith, P.fits)) ∙ ap₂ (λ (l r : ℕ). pair l r ∷ pairs_in (rows_end words) table (top + i)) (left g T) (right g T))
              ∙ side_more xs ys i (pairs_in (rows_end words) table (top + i)) (omega (arith, A g S)) (omega (arith, B g S))
              ∙ P.rest g S;
        }

    pub pile_all : n ≤ i → PairsOn words before table s top x y (top + n)
    pile_all h = record {
      rows = P.rows;
      beyond = P.beyond;
      pairs = λ g S.
          let e : i ≡ n = omega (arith, P.low) in
          let xs : List ℕ = (vertex g x).args in
          let ys : List ℕ = (vertex g y).args in
          ap (λ (k : ℕ). pairs_in (rows_end words) table (top + k)) (sym e)
          ∙ sym (side_none (drop i xs) (drop i ys) (pairs_in (rows_end words) table (top + i)) (omega (arith, length-drop i xs, length-drop i ys, A g S, B g S)))
          ∙ P.rest g S;
    }

    -- none was put there
    pub pile_empty : n ≤ i → n ≡ 0 → PairsOn words before table s top x y top
    pile_empty h e = let k : top + n ≡ top = omega (arith, e) in subst (PairsOn words before table s top x y) k (pile_all h)

    -- the last one put there is the topmost
    pub pile_topmost : n ≤ i → (n ≡ 0 → ⊥) → (p : Pairs) → p.top ≡ top + n → p.left.0 ≡ left₀ → p.right.0 ≡ right₀ → Topmost words table p
    pile_topmost h z p k a b t e =
        let m : i ≡ suc (n - 1) = omega (arith, P.low, z) in
        let q : top + (n - 1) ≡ t = omega (arith, k, e, z) in
        let l = P.last (n - 1) m in
        (a ∙ l.0 ∙ ap (left_word words table) q, b ∙ l.1 ∙ ap (right_word words table) q)
