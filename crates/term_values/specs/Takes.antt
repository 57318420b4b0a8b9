-- One turn: the root of the pair behind the others has its ground node for a value, or gets it.
use Rattle.std.specs.Prelude.{Option as Optional, Some, None}
use Rattle.std.specs.Prelude.{◌≡◌, List, ◌∷◌, ℕ, suc, ◌+◌, ◌*◌, ◌≤◌, ◌<◌, length, get_or}
use Rattle.std.proofs.Common.{sym, ap, ap₂, ◌∙◌, arith}
use Rattle.std.proofs.Math.Option.{Option, some}
use Rattle.definition.specs.Pack.{Pack}
use Rattle.definition.specs.Good.{Below}
use Rattle.definition.specs.Verdict.{Bound, value_of}
use Rattle.definition.specs.Graph.{Graph, Pair, vertex, root}
use Rattle.definition.specs.Analysis.{pairing, valued}
use Rattle.term_values.specs.Words.{values_end, table_in, Stands, Placed, Values, few_nodes, stands_found, table_at, framed_same}
use Rattle.base.specs.Outside.{outside_then}
use Rattle.pack_tables.specs.Catalog.{records_of}
use Rattle.pack_tables.specs.declared.catalog.Catalog.{Catalog}
use Rattle.pack_read.specs.Reads.{Reads, length-nodes}
use Rattle.pack_read.specs.Held.{held_on, reads_on}
use Rattle.theory.specs.Walks.WalkOnce.{unfinished_less}
use Rattle.theory.specs.Walks.Memo.{has, has_new, has-others, none_has}
use Rattle.theory.specs.Walks.Ahead.{lefts, rights}
use Rattle.theory.specs.Walks.Valuing.{valuing, take_value, pairs_left}
use Rattle.graph.specs.declared.graph.Graph.{Graph as Counts}
use Rattle.graph.specs.Cells.{rows_end}
use Rattle.base.specs.Pairs.{pairs_in, length-pairs_in}
use Rattle.graph.specs.Stack.{left_word, right_word, pairs_same}
use Rattle.graph.specs.Inner.{many-nodes}
use Rattle.term_values.specs.declared.values.Valued.{Valued}
use Rattle.term_values.specs.Stores.{ValueIs, FindsRoot}
use Rattle.term_values.specs.Pushes.{ground_on}
use Rattle.term_values.specs.Taking.{take-known, take-other}
use Rattle.term_values.specs.Gives.{Gives, Fresh, GivesTo}

-- ---- the pairs that are left, and what they come to
pub record Left (P : Pack) (words table : List ℕ) (s : Counts) (h : Graph) (vs : List Bound) (top : ℕ) (o : Option (List Bound)) : Type 0 where
  pub stands : Stands words table s h vs
  pub nodes : Below (length h) (lefts (pairs_in (rows_end words) table top))
  pub grounds : Below (length P.nodes) (rights (pairs_in (rows_end words) table top))
  pub rest : valued (suc (length h)) P h (lefts (pairs_in (rows_end words) table top)) (rights (pairs_in (rows_end words) table top)) vs ≡ o
  pub most : pairs_left h (length h) (valuing (pairs_in (rows_end words) table top) vs) ≤ length words + 1

-- ---- `take_value`: what it asks, and promises
pub record Ready (bytes work words : List ℕ) (c : Catalog) (l : Valued) (s : Counts) (top : ℕ) : Type 0 where
  pub values : Values bytes work words c l s
  pub whole : Option (List Bound)
  pub left : Left values.held.pack words (table_in l work) s values.graph values.values (suc top) whole

-- a turn with the root of the pair's node
abbrev pub Takes : (bytes work work' words : List ℕ) (c : Catalog) (l : Valued) (s : Counts) (top : ℕ) → Optional ℕ → Type 0
Takes bytes work work' words c l s top t = Gives bytes work work' words c l s top (λ h. root h (left_word words (table_in l work) top)) (right_word words (table_in l work) top) t

module _ (bytes work words : List ℕ) (c : Catalog) (l : Valued) (s : Counts) (top : ℕ) (Q : Ready bytes work words c l s top) where
  -- the pair has room
  pub ready_low : top ≤ length words
  ready_low = omega (arith, Q.left.most, length-pairs_in (rows_end words) (table_in l work) (suc top))

  -- the words that it is read from
  pub ready_left : get_or work (l.at + rows_end words + 2 * top) 0 ≡ left_word words (table_in l work) top
  ready_left =
      let e : l.at + rows_end words + 2 * top ≡ l.at + (rows_end words + 2 * top) = omega arith in
      ap (λ (i : ℕ). get_or work i 0) e ∙ sym (table_at l work (rows_end words + 2 * top) (omega (arith, Q.values.placed.room, ready_low)))

  -- the other word
  pub ready_right : get_or work (l.at + rows_end words + 2 * top + 1) 0 ≡ right_word words (table_in l work) top
  ready_right =
      let e : l.at + rows_end words + 2 * top + 1 ≡ l.at + (rows_end words + 2 * top + 1) = omega arith in
      ap (λ (i : ℕ). get_or work i 0) e ∙ sym (table_at l work (rows_end words + 2 * top + 1) (omega (arith, Q.values.placed.room, ready_low)))

  -- a node and a ground node
  pub ready_node : left_word words (table_in l work) top < s.nodes
  unfolding pairs_in
  ready_node = omega (arith, Q.left.nodes.0, many-nodes words (table_in l work) s Q.values.graph Q.values.stands.shows)

  -- the other word is a ground node's
  pub ready_ground : right_word words (table_in l work) top < length (records_of work c 3)
  unfolding pairs_in
  ready_ground = omega (arith, Q.left.grounds.0, length-nodes bytes (records_of work c) Q.values.held.pack Q.values.held.reads)

  module _ (mid : List ℕ) (x n r : ℕ) (left : x ≡ left_word words (table_in l work) top) (right : n ≡ right_word words (table_in l work) top) (F : FindsRoot words work mid l s x r) where
    -- what was held is held still
    found_stands : (h : Graph) (vs : List Bound) → Stands words (table_in l work) s h vs → Stands words (table_in l mid) s h vs
    found_stands h vs S = stands_found words (table_in l work) s h vs S (table_in l mid) x r F.0

    -- the same pack is read
    found_reads : (P : Pack) → Reads bytes (records_of work c) P → Reads bytes (records_of mid c) P
    found_reads P R = reads_on bytes work mid c (framed_same words l work mid c Q.values.apart F.1) Q.values.held.cataloged P R

    -- the turn of the root that was found is the pair's
    found_turn : (P : Pack) (h : Graph) (vs : List Bound) → Stands words (table_in l work) s h vs
        → take_value P h (root h (left_word words (table_in l work) top)) (right_word words (table_in l work) top) (pairs_in (rows_end words) (table_in l work) top) vs ≡ take_value P h r n (pairs_in (rows_end words) (table_in l mid) top) vs
    found_turn P h vs S =
        let at : r ≡ root h (left_word words (table_in l work) top) = (F.0.2 h S.shows).0 ∙ ap (root h) left in
        ap₂ (λ (a b : ℕ). take_value P h a b (pairs_in (rows_end words) (table_in l work) top) vs) (sym at) (sym right)
        ∙ ap (λ (w : List Pair). take_value P h r n w vs) (sym (pairs_same (rows_end words) (table_in l work) (table_in l mid) F.0.3 top))

    -- the root is a cell's
    pub found_inside : r < length words
    found_inside = omega (arith, F.0.0, few_nodes words (table_in l work) s Q.values.graph Q.values.values Q.values.stands)

    -- the table has its room still
    pub found_placed : Placed words mid l
    found_placed = record { room = Q.values.placed.room; fits = omega (arith, Q.values.placed.fits, F.1.long) }

    -- it has the value, or another
    module _ (m : ℕ) (E : (s : Counts) (h : Graph) (vs : List Bound) → Stands words (table_in l mid) s h vs → r < s.nodes → value_of r vs ≡ some m) where
      -- it has this one
      pub takes-known : m ≡ n → Takes bytes work mid words c l s top (Some top)
      takes-known q = (
        F.1,
        λ P R p h vs S. (vs, found_turn P h vs S ∙ take-known P h r n (pairs_in (rows_end words) (table_in l mid) top) vs m (E s h vs (found_stands h vs S) F.0.0) q, found_stands h vs S),
      )

      -- it has another
      pub takes-other : (m ≡ n → ⊥) → Takes bytes work mid words c l s top None
      takes-other d = (F.1, λ P R p h vs S. found_turn P h vs S ∙ take-other P h r n (pairs_in (rows_end words) (table_in l mid) top) vs m (E s h vs (found_stands h vs S) F.0.0) d)

    -- it has none
    module _ (E : ValueIs words (table_in l mid) r None) where
      -- it can get one
      pub takes-fresh : Fresh bytes mid words c l s top r n
      takes-fresh =
          let H = Q.values in
          let g = H.graph in
          let S = found_stands g H.values H.stands in
          let many = many-nodes words (table_in l work) s g H.stands.shows in
          let less = unfinished_less (λ x. (vertex g x).args) has r H.values (pairing r n ∷ H.values) (has_new H.values r n) (λ y d. has-others H.values r n y d) (length g) (omega (arith, F.0.0)) (none_has H.values r (E s g H.values S F.0.0)) in
          record {
            values = record {
              held = held_on bytes work mid c (framed_same words l work mid c H.apart F.1) H.held;
              apart = H.apart;
              placed = found_placed;
              graph = g;
              values = H.values;
              stands = S;
            };
            node = F.0.0;
            closed = ground_on bytes work mid words c l n H.held.cataloged H.apart F.1 (omega (arith, right, ready_ground));
            bare = E;
            room = omega (arith, less, Q.left.most, length-pairs_in (rows_end words) (table_in l work) (suc top));
          }

      -- it gets one
      takes_on : (work' : List ℕ) (more : ℕ) → GivesTo bytes mid work' words c l s top r n (Some more) → Takes bytes work work' words c l s top (Some more)
      takes_on work' more M = (
        outside_then l.at (l.at + values_end words) work mid work' F.1 M.0,
        λ P R p h vs S. let t = M.1 P (found_reads P R) p h vs (found_stands h vs S) in (t.0, found_turn P h vs S ∙ t.1, t.2),
      )

      -- it can not
      takes_none : (work' : List ℕ) → GivesTo bytes mid work' words c l s top r n None → Takes bytes work work' words c l s top None
      takes_none work' M = (outside_then l.at (l.at + values_end words) work mid work' F.1 M.0, λ P R p h vs S. found_turn P h vs S ∙ M.1 P (found_reads P R) p h vs (found_stands h vs S))

      -- either
      pub takes-given : (work' : List ℕ) (t : Optional ℕ) → GivesTo bytes mid work' words c l s top r n t → Takes bytes work work' words c l s top t
      takes-given work' (Some more) M = takes_on work' more M
      takes-given work' None M = takes_none work' M
