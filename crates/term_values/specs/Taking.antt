-- `take_value` by cases, and what it leaves of the pairs' ground nodes.
use Rattle.std.specs.Prelude.{◌≡◌, List, ◌∷◌, ℕ, ◌<◌, eqb, length}
use Rattle.std.proofs.Math.Bool.{true, false}
use Rattle.std.proofs.Math.Option.{Option, none, some}
use Rattle.std.proofs.Common.{arith}
use borrow.Author.Tests.{eq-eqb, ne_eqb}
use Rattle.definition.specs.Test.{is, see, never}
use Rattle.definition.specs.Pack.{Pack, node_of}
use Rattle.definition.specs.Verdict.{Bound, value_of}
use Rattle.definition.specs.Good.{Good, Below}
use Rattle.definition.specs.Graph.{Graph, Pair, vertex, is_var}
use Rattle.definition.specs.Analysis.{pairing}
use Rattle.definition.proofs.Laws.Tree.{args-below}
use Rattle.definition.proofs.Laws.Grow.{below_more}
use Rattle.theory.specs.Walks.Ahead.{rights, ahead, ahead-rights}
use Rattle.theory.specs.Walks.Valuing.{Valuing, valuing, take_value}

module _ (P : Pack) (g : Graph) (r n : ℕ) (work : List Pair) (vs : List Bound) where
  -- a root with a value must have this one
  pub take-known : (m : ℕ) → value_of r vs ≡ some m → m ≡ n → take_value P g r n work vs ≡ some (valuing work vs)
  unfolding take_value
  take-known m e q = rw (e, eq-eqb m n q, take_value)

  -- with another there are no values
  pub take-other : (m : ℕ) → value_of r vs ≡ some m → (m ≡ n → ⊥) → take_value P g r n work vs ≡ none
  unfolding take_value
  take-other m e d = rw (e, ne_eqb m n d, take_value)

  -- one without takes it
  module _ (e : value_of r vs ≡ none) where
    -- a variable takes any
    pub take-variable : is_var (vertex g r) ≡ true → take_value P g r n work vs ≡ some (valuing work (pairing r n ∷ vs))
    unfolding take_value
    take-variable v = rw (e, v, take_value)

    -- an application needs the ground node's head, and as many arguments
    module _ (v : is_var (vertex g r) ≡ false) where
      -- another head
      pub take-unlike : ((vertex g r).head ≡ (node_of P n).head → ⊥) → take_value P g r n work vs ≡ none
      unfolding take_value
      take-unlike d = rw (e, v, ne_eqb (vertex g r).head (node_of P n).head d, take_value)

      -- the same head: by what is put ahead
      pub take-ahead : (vertex g r).head ≡ (node_of P n).head → (o : Option (List Pair)) → ahead (vertex g r).args (node_of P n).args work ≡ o
          → take_value P g r n work vs ≡ elim o [ none ↦ none | some w ↦ some (valuing w (pairing r n ∷ vs)) ]
      unfolding take_value
      take-ahead q o a = rw (e, v, eq-eqb (vertex g r).head (node_of P n).head q, a, take_value)

  -- the pairs that are left have ground nodes
  pub take-rights : Good P → n < length P.nodes → Below (length P.nodes) (rights work) → (s : Valuing) → take_value P g r n work vs ≡ some s → Below (length P.nodes) (rights s.work)
  unfolding take_value
  take-rights G l b s t = elim (see (value_of r vs)) [
    | is (some m) e ↦ elim (see (eqb m n)) [
      | is true q ↦ let z : some (valuing work vs) ≡ some s = rw (e, q, take_value) at t in let w : valuing work vs ≡ s = cc in rw (← w) b
      | is false q ↦ let z : none ≡ some s = rw (e, q, take_value) at t in never (cc)
    ]
    | is none e ↦ elim (see (is_var (vertex g r))) [
      | is true v ↦ let z : some (valuing work (pairing r n ∷ vs)) ≡ some s = rw (e, v, take_value) at t in let w : valuing work (pairing r n ∷ vs) ≡ s = cc in rw (← w) b
      | is false v ↦ elim (see (eqb (vertex g r).head (node_of P n).head)) [
        | is false q ↦ let z : none ≡ some s = rw (e, v, q, take_value) at t in never (cc)
        | is true q ↦ elim (see (ahead (vertex g r).args (node_of P n).args work)) [
          | is none a ↦ let z : none ≡ some s = rw (e, v, q, a, take_value) at t in never (cc)
          | is (some u) a ↦
              let z : some (valuing u (pairing r n ∷ vs)) ≡ some s = rw (e, v, q, a, take_value) at t in
              let w : valuing u (pairing r n ∷ vs) ≡ s = cc in
              rw (← w) (ahead-rights (length P.nodes) (vertex g r).args (node_of P n).args work u a (below_more n (length P.nodes) (node_of P n).args (omega arith) (args-below P G n l)) b)
        ]
      ]
    ]
  ]
