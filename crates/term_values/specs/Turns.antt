-- What a turn leaves: the pairs and values that are left give the same, and less is left.
use Rattle.std.specs.Prelude.{◌≡◌, refl, Bool, ℕ, suc, ◌+◌, ◌<◌, length, get_or}
use Rattle.std.proofs.Math.Path.{sym}
use Rattle.std.proofs.Common.{ap, ◌∙◌, arith}
use mathlib.Core.List.{List}
use Rattle.std.proofs.Math.Option.{Option, none, some}
use Rattle.definition.specs.Pack.{Pack}
use Rattle.definition.specs.Classes.{is_some}
use Rattle.definition.specs.Verdict.{Bound, value_of}
use Rattle.definition.specs.Graph.{Graph, Pair, vertex, root}
use Rattle.definition.specs.Analysis.{valued}
use Rattle.base.specs.Word.{word_of}
use Rattle.pack_read.specs.Held.{Proper}
use Rattle.theory.specs.Walks.WalkOnce.{unfinished, unfinished_alike}
use Rattle.theory.specs.Walks.Memo.{has}
use Rattle.theory.specs.Walks.Ahead.{beside}
use Rattle.theory.specs.Walks.Valuing.{valuing, take_value, Taken, take_says}
use Rattle.graph.specs.declared.graph.Graph.{Graph as Counts}
use Rattle.graph.specs.Cells.{mark_in, graph_in, rows_end}
use Rattle.base.specs.Pairs.{pairs_in, length-pairs_in}
use Rattle.graph.specs.Stack.{left_word, right_word}
use Rattle.graph.specs.Inner.{many-nodes}
use Rattle.term_values.specs.Words.{values_at, Stands}
use Rattle.term_values.specs.Taking.{take-rights}
use Rattle.term_values.specs.Takes.{Left}

-- ---- how much is left, by the words
-- whether a node's word is a value's
unfoldable pub worded : List ℕ → List ℕ → ℕ → Bool
worded words table x = mark_in (get_or table (values_at words + x) 0)

-- the arguments of nodes without a value
unfoldable pub left_in_lent : List ℕ → List ℕ → Counts → ℕ
unfolding worded
left_in_lent words table s = unfinished (λ x. (vertex (graph_in words table s.nodes) x).args) (worded words) s.nodes table

-- a word that is not 0 is a value's
mark-word : (o : Option ℕ) → mark_in (word_of o) ≡ is_some o
unfolding is_some
mark-word none = refl
mark-word (some n) = refl

-- they are those that have none of the values held
pub left_in : (words table : List ℕ) (s : Counts) (h : Graph) (vs : List Bound) → Stands words table s h vs → left_in_lent words table s ≡ unfinished (λ x. (vertex h x).args) has (length h) vs
unfolding left_in_lent has
left_in words table s h vs S =
    let many = many-nodes words table s h S.shows in
    unfinished_alike (λ x. (vertex (graph_in words table s.nodes) x).args) (λ x. (vertex h x).args) (worded words) has table vs s.nodes
    (λ x l. (S.shows.like.nodes x (omega arith)).args)
    (λ x l. ap mark_in (S.values x l) ∙ mark-word (value_of x vs))
    ∙ ap (λ (k : ℕ). unfinished (λ x. (vertex h x).args) has k vs) (sym many)

-- ---- a turn
module _ (P : Pack) (words table : List ℕ) (s : Counts) (h : Graph) (vs : List Bound) (top : ℕ) (o : Option (List Bound)) (L : Left P words table s h vs (suc top) o) where
  -- the pair that is taken, and the others
  abbrev pair : Pair
  pair = beside (left_word words table top) (right_word words table top)

  abbrev others : List Pair
  others = pairs_in (rows_end words) table top

  -- what the definition says of it
  says : Taken P h L.stands.shows.like.forest L.stands.inner L.stands.ends pair others vs (take_value P h (root h (left_word words table top)) (right_word words table top) others vs)
  unfolding pairs_in
  says = take_says P h L.stands.shows.like.forest L.stands.inner L.stands.ends pair others vs L.nodes.0 L.nodes.1

  -- what is left gives the same, and less is left
  pub left_on : Proper P → (table' : List ℕ) (more : ℕ) (us : List Bound) → take_value P h (root h (left_word words table top)) (right_word words table top) others vs ≡ some (valuing (pairs_in (rows_end words) table' more) us)
      → Stands words table' s h us → Left P words table' s h us more o × (more + left_in_lent words table' s < suc top + left_in_lent words table s)
  unfolding pairs_in
  left_on p table' more us t S =
      let ps : List Pair = pairs_in (rows_end words) table' more in
      let z : Taken P h L.stands.shows.like.forest L.stands.inner L.stands.ends pair others vs (some (valuing ps us)) = rw t at says in (
        record {
          stands = S;
          nodes = z.1;
          grounds = take-rights P h (root h (left_word words table top)) (right_word words table top) others vs p.good L.grounds.0 L.grounds.1 (valuing ps us) t;
          rest = sym z.0 ∙ L.rest;
          most = omega (arith, z.2, L.most);
        },
        omega (arith, z.2, length-pairs_in (rows_end words) table' more, length-pairs_in (rows_end words) table top, left_in words table s h vs L.stands, left_in words table' s h us S),
      )

  -- a pair that differs ends it
  pub left_stop : take_value P h (root h (left_word words table top)) (right_word words table top) others vs ≡ none → o ≡ none
  unfolding pairs_in
  left_stop t =
      let z : Taken P h L.stands.shows.like.forest L.stands.inner L.stands.ends pair others vs none = rw t at says in
      sym L.rest ∙ z

-- no pair is left
pub left-done : (P : Pack) (words table : List ℕ) (s : Counts) (h : Graph) (vs : List Bound) (o : Option (List Bound)) → Left P words table s h vs 0 o → o ≡ some vs
unfolding pairs_in valued
left-done P words table s h vs o L = sym L.rest
