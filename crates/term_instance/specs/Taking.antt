-- `take_match` by cases.
use Rattle.std.specs.Prelude.{◌≡◌, List, ◌∷◌, ℕ, eqb, get_or}
use Rattle.std.proofs.Math.Bool.{true, false}
use Rattle.std.proofs.Math.Option.{Option, none, some}
use borrow.Author.Tests.{eq-eqb, ne_eqb}
use Rattle.definition.specs.Test.{is, see}
use Rattle.definition.specs.Pack.{Pack, Node, no_node, node_of}
use Rattle.definition.specs.Store.{is_variable}
use Rattle.definition.specs.Verdict.{Bound, value_of, bound}
use Rattle.definition.specs.Graph.{Pair}
use Rattle.definition.specs.Analysis.{pairing}
use Rattle.theory.specs.Walks.Ahead.{ahead}
use Rattle.theory.specs.Walks.Matching.{matching, number_of, take_match}

module _ (P : Pack) (s : List Node) (p n : ℕ) (work : List Pair) (ss vs : List Bound) where
  -- a variable: by the values with its own
  pub take-variable : is_variable (get_or s p no_node) ≡ true → take_match P s p n work ss vs ≡ elim (bound (number_of s p) n vs (value_of (number_of s p) vs)) [ none ↦ none | some ws ↦ some (matching work ss ws) ]
  unfolding take_match bound
  take-variable v = elim (see (value_of (number_of s p) vs)) [
    | is none e ↦ rw (v, e, take_match, bound)
    | is (some m) e ↦ elim (see (eqb m n)) [
      | is true q ↦ rw (v, e, q, take_match, bound)
      | is false q ↦ rw (v, e, q, take_match, bound)
    ]
  ]

  module _ (v : is_variable (get_or s p no_node) ≡ false) where
    -- an application that was seen with this node
    pub take-seen : (m : ℕ) → value_of p ss ≡ some m → m ≡ n → take_match P s p n work ss vs ≡ some (matching work ss vs)
    unfolding take_match
    take-seen m e q = rw (v, e, eq-eqb m n q, take_match)

    -- with another
    pub take-other : (m : ℕ) → value_of p ss ≡ some m → (m ≡ n → ⊥) → take_match P s p n work ss vs ≡ none
    unfolding take_match
    take-other m e d = rw (v, e, ne_eqb m n d, take_match)

    module _ (e : value_of p ss ≡ none) where
      -- another head
      pub take-unlike : ((get_or s p no_node).head ≡ (node_of P n).head → ⊥) → take_match P s p n work ss vs ≡ none
      unfolding take_match
      take-unlike d = rw (v, e, ne_eqb (get_or s p no_node).head (node_of P n).head d, take_match)

      -- the same head: by what is put ahead
      pub take-ahead : (get_or s p no_node).head ≡ (node_of P n).head → (o : Option (List Pair)) → ahead (get_or s p no_node).args (node_of P n).args work ≡ o
          → take_match P s p n work ss vs ≡ elim o [ none ↦ none | some w ↦ some (matching w (pairing p n ∷ ss) vs) ]
      unfolding take_match
      take-ahead q o a = rw (v, e, eq-eqb (get_or s p no_node).head (node_of P n).head q, a, take_match)
