-- A turn of `Matching` on a good pack and a store whose nodes rest on earlier ones: what is left has the same assignments, and fewer pairs are left.
use Rattle.std.specs.Prelude.{◌≡◌, List, ◌∷◌, ℕ, ◌<◌, ◌≤◌, eqb, length, get_or}
use Rattle.std.proofs.Math.Path.{sym, ap, ap₂}
use Rattle.std.proofs.Common.{◌∙◌, arith, eqb-true}
use Rattle.std.proofs.Math.Bool.{true, false}
use Rattle.std.proofs.Math.Option.{none, some}
use Rattle.std.proofs.lemmas.Bool.{eqb-false}
use Rattle.definition.specs.Test.{is, see}
use Rattle.definition.specs.Pack.{Pack, Node, no_node, node_of}
use Rattle.definition.specs.Tree.{Tree, tree, pick, trees, tree_of, turn, turns}
use Rattle.definition.specs.Store.{is_variable, below, term_of}
use Rattle.definition.specs.Verdict.{Bound, value_of}
use Rattle.definition.specs.Good.{Below, Good, Once}
use Rattle.definition.specs.Graph.{Pair}
use Rattle.definition.specs.Analysis.{pairing}
use Rattle.definition.proofs.Laws.Tree.{args-below, tree_node, tree_once}
use Rattle.definition.proofs.Laws.Grow.{below_more}
use Rattle.definition.proofs.Laws.Matches.{Agrees, tree_parts}
use Rattle.theory.specs.Copies.Terms.{Earlier, terms_at, below-applied, term_variable, term_applied}
use Rattle.theory.specs.Walks.WalkOnce.{unfinished_less}
use Rattle.theory.specs.Walks.Memo.{has, has_new, has-others, none_has}
use Rattle.theory.specs.Walks.Ahead.{beside, ahead, ahead_pairs, ahead-rights}
use Rattle.theory.specs.Walks.Matching.{Matching, matching, number_of, take_match, agrees_less, values-more, Fits, Meets, meets_less, meets-ahead, ahead-meets, ahead_never, Known, Turned, Says}

module _ (P : Pack) (s : List Node) (G : Good P) (O : Once P) (E : Earlier s) where
  -- a variable fits where it has the node's tree
  variable-fits : (ν : ℕ → Tree) (p n : ℕ) → p < length s → is_variable (get_or s p no_node) ≡ true → turn ν (term_of s p) ≡ ν (number_of s p)
  unfolding turn
  variable-fits ν p n h v = ap (turn ν) (term_variable s E p h v)

  -- an application fits where the heads and what is below them do
  applied-fits : (ν : ℕ → Tree) (p n : ℕ) → p < length s → n < length P.nodes → is_variable (get_or s p no_node) ≡ false → (get_or s p no_node).head ≡ (node_of P n).head
      → turns ν (terms_at s (get_or s p no_node).args) ≡ pick (trees P) (node_of P n).args → Fits P s ν p n
  unfolding turn
  applied-fits ν p n h l v e t = ap (turn ν) (term_applied s E p h v) ∙ ap₂ tree e t ∙ sym (tree_node P G n l)

  -- and only there
  fits-applied : (ν : ℕ → Tree) (p n : ℕ) → p < length s → n < length P.nodes → is_variable (get_or s p no_node) ≡ false → Fits P s ν p n
      → ((get_or s p no_node).head ≡ (node_of P n).head) × (turns ν (terms_at s (get_or s p no_node).args) ≡ pick (trees P) (node_of P n).args)
  unfolding turn
  fits-applied ν p n h l v f = tree_parts (sym (ap (turn ν) (term_applied s E p h v)) ∙ f ∙ tree_node P G n l)

  module _ (k p n : ℕ) (work : List Pair) (seen vs : List Bound) (few : k ≤ length s) (K : Known P s k (matching (beside p n ∷ work) seen vs)) where
    -- before the turn
    abbrev now' : Matching
    now' = matching (beside p n ∷ work) seen vs

    -- a pair that the values and the pairs below it give is dropped
    dropped : ((x : ℕ) (ν : ℕ → Tree) → p < x → Agrees P ν vs → Meets P s ν x work → Fits P s ν p n) → Turned P s k now' (matching work seen vs)
    dropped f = record {
      known = record {
        nodes = K.nodes.1;
        grounds = K.grounds.1;
        values = K.values;
        seen = K.seen;
        settled = λ x m e ν a M. K.settled x m e ν a (λ h. f x ν h a M, M);
      };
      forth = λ ν a M. (a, M.1);
      back = λ ν a M. (a, (λ h. f k ν h a M, M));
      less = omega arith;
    }

    -- a variable without a value takes any
    variable-new : is_variable (get_or s p no_node) ≡ true → value_of (number_of s p) vs ≡ none → Turned P s k now' (matching work seen (pairing (number_of s p) n ∷ vs))
    variable-new v e =
        let h : p < length s = omega (arith, few, K.nodes.0) in
        let j = number_of s p in
        record {
          known = record {
            nodes = K.nodes.1;
            grounds = K.grounds.1;
            values = values-more (λ i m. m < length P.nodes) j n vs K.values K.grounds.0;
            seen = K.seen;
            settled = λ x m e' ν a M. let b = agrees_less P ν j n vs e a in K.settled x m e' ν b.0 (λ _. variable-fits ν p n h v ∙ b.1, M);
          };
          forth = λ ν a M. (values-more (λ i m. ν i ≡ tree_of P m) j n vs a (sym (variable-fits ν p n h v) ∙ M.0 K.nodes.0), M.1);
          back = λ ν a M. let b = agrees_less P ν j n vs e a in (b.0, (λ _. variable-fits ν p n h v ∙ b.1, M));
          less = omega arith;
        }

    -- with a value it must be this one
    variable-known : is_variable (get_or s p no_node) ≡ true → (m : ℕ) → value_of (number_of s p) vs ≡ some m → m ≡ n → Turned P s k now' (matching work seen vs)
    variable-known v m e q =
        let h : p < length s = omega (arith, few, K.nodes.0) in
        dropped (λ x ν _ a M. variable-fits ν p n h v ∙ a (number_of s p) m e ∙ ap (tree_of P) q)

    -- with another none fits
    variable-other : is_variable (get_or s p no_node) ≡ true → (m : ℕ) → value_of (number_of s p) vs ≡ some m → (m ≡ n → ⊥) → Says P s k now' none
    variable-other v m e d ν a M =
        let h : p < length s = omega (arith, few, K.nodes.0) in
        d (tree_once P G O m n (K.values (number_of s p) m e) K.grounds.0 (sym (a (number_of s p) m e) ∙ sym (variable-fits ν p n h v) ∙ M.0 K.nodes.0))

    -- an application that was seen must have been seen with this node
    seen-known : (m : ℕ) → value_of p seen ≡ some m → m ≡ n → Turned P s k now' (matching work seen vs)
    seen-known m e q = dropped (λ x ν h a M. K.settled p m e ν a (λ l. absurd (omega arith), meets_less P s ν p x work (omega arith) M) ∙ ap (tree_of P) q)

    -- with another none fits
    seen_other : (m : ℕ) → value_of p seen ≡ some m → (m ≡ n → ⊥) → Says P s k now' none
    seen_other m e d ν a M =
        let f = K.settled p m e ν a (λ l. absurd (omega arith), meets_less P s ν p k work (omega (arith, K.nodes.0)) M.1) in
        d (tree_once P G O m n (K.seen p m e) K.grounds.0 (sym f ∙ M.0 K.nodes.0))

    -- an application needs the node's head
    applied-unlike : is_variable (get_or s p no_node) ≡ false → ((get_or s p no_node).head ≡ (node_of P n).head → ⊥) → Says P s k now' none
    applied-unlike v d ν a M = d (fits-applied ν p n (omega (arith, few, K.nodes.0)) K.grounds.0 v (M.0 K.nodes.0)).0

    -- and as many arguments
    applied_never : is_variable (get_or s p no_node) ≡ false → ahead (get_or s p no_node).args (node_of P n).args work ≡ none → Says P s k now' none
    applied_never v e ν a M =
        let f = fits-applied ν p n (omega (arith, few, K.nodes.0)) K.grounds.0 v (M.0 K.nodes.0) in
        ahead_never P s ν (get_or s p no_node).args (node_of P n).args work e f.1

    -- its arguments are put ahead of the rest
    applied-new : is_variable (get_or s p no_node) ≡ false → value_of p seen ≡ none → (get_or s p no_node).head ≡ (node_of P n).head → (w : List Pair) → ahead (get_or s p no_node).args (node_of P n).args work ≡ some w
        → Turned P s k now' (matching w (pairing p n ∷ seen) vs)
    applied-new v e q w t =
        let xs = (get_or s p no_node).args in
        let ns = (node_of P n).args in
        let h : p < length s = omega (arith, few, K.nodes.0) in
        let b : Below p xs = rw (below-applied (get_or s p no_node) v) at (E p h) in
        let c = args-below P G n K.grounds.0 in
        let l = ahead_pairs k xs ns work w t (below_more p k xs (omega (arith, K.nodes.0)) b) K.nodes.1 in
        let u = unfinished_less (λ x. below (get_or s x no_node)) has p seen (pairing p n ∷ seen) (has_new seen p n) (λ y d. has-others seen p n y d) k K.nodes.0 (none_has seen p e) in
        let z : length (below (get_or s p no_node)) ≡ length xs = ap (λ (ys : List ℕ). length ys) (below-applied (get_or s p no_node) v) in
        let fits : (x : ℕ) (ν : ℕ → Tree) → p ≤ x → Meets P s ν x w → Fits P s ν p n =
        λ x ν g M. applied-fits ν p n h K.grounds.0 v q ((meets-ahead P s ν x xs ns work w t M).0 (below_more p x xs (omega arith) b)) in
        let old : (x m : ℕ) → value_of x seen ≡ some m → (ν : ℕ → Tree) → Agrees P ν vs → Meets P s ν x w → Fits P s ν x m =
        λ x m e' ν a M. K.settled x m e' ν a (λ g. fits x ν (omega arith) M, (meets-ahead P s ν x xs ns work w t M).1) in
        record {
          known = record {
            nodes = l.0;
            grounds = ahead-rights (length P.nodes) xs ns work w t (below_more n (length P.nodes) ns (omega (arith, K.grounds.0)) c) K.grounds.1;
            values = K.values;
            seen = values-more (λ i m. m < length P.nodes) p n seen K.seen K.grounds.0;
            settled = values-more (λ x m. (ν : ℕ → Tree) → Agrees P ν vs → Meets P s ν x w → Fits P s ν x m) p n seen old (λ ν a M. fits p ν (omega arith) M);
          };
          forth = λ ν a M. (a, ahead-meets P s ν k xs ns work w t (fits-applied ν p n h K.grounds.0 v (M.0 K.nodes.0)).1 M.1);
          back = λ ν a M. (a, (λ g. fits k ν (omega (arith, K.nodes.0)) M, (meets-ahead P s ν k xs ns work w t M).1));
          less = omega (arith, l.1);
        }

    -- every turn gives that
    pub match_says : Says P s k now' (take_match P s p n work seen vs)
    unfolding take_match
    match_says = elim (see (is_variable (get_or s p no_node))) [
      | is true v ↦ elim (see (value_of (number_of s p) vs)) [
        | is none e ↦ rw (v, e, take_match) (variable-new v e)
        | is (some m) e ↦ elim (see (eqb m n)) [
          | is true q ↦ rw (v, e, q, take_match) (variable-known v m e (eqb-true m n q))
          | is false q ↦ rw (v, e, q, take_match) (variable-other v m e (eqb-false m n q))
        ]
      ]
      | is false v ↦ elim (see (value_of p seen)) [
        | is (some m) e ↦ elim (see (eqb m n)) [
          | is true q ↦ rw (v, e, q, take_match) (seen-known m e (eqb-true m n q))
          | is false q ↦ rw (v, e, q, take_match) (seen_other m e (eqb-false m n q))
        ]
        | is none e ↦ elim (see (eqb (get_or s p no_node).head (node_of P n).head)) [
          | is false q ↦ rw (v, e, q, take_match) (applied-unlike v (eqb-false (get_or s p no_node).head (node_of P n).head q))
          | is true q ↦ elim (see (ahead (get_or s p no_node).args (node_of P n).args work)) [
            | is none t ↦ rw (v, e, q, t, take_match) (applied_never v t)
            | is (some w) t ↦ rw (v, e, q, t, take_match) (applied-new v e (eqb-true (get_or s p no_node).head (node_of P n).head q) w t)
          ]
        ]
      ]
    ]
