-- A root without a value gets one: what a turn answers, and that of `give`.
use Rattle.std.specs.Prelude.{Option as Optional, Some, None}
use Rattle.std.specs.Prelude.{◌≡◌, List, ◌∷◌, ℕ, ◌+◌, ◌≤◌, ◌<◌, length, set}
use Rattle.std.proofs.Common.{sym, ap, subst, ◌∙◌, arith}
use Rattle.std.proofs.Math.Option.{Option, none, some}
use Rattle.definition.specs.Pack.{Pack, node_of}
use Rattle.definition.specs.Verdict.{Bound}
use Rattle.definition.specs.Store.{variable_head, nothing}
use Rattle.definition.specs.Graph.{Graph, Pair, vertex}
use Rattle.definition.specs.Analysis.{pairing}
use Rattle.term_values.specs.Words.{values_end, values_at, table_in, Stands, Framed, Values, Says, few_nodes, stands_value, table-room, framed_same, values_on}
use Rattle.base.specs.Outside.{outside_none, outside_then}
use Rattle.base.specs.Listed.{length-listed}
use Rattle.pack_tables.specs.Region.{count_in, place_in, places}
use Rattle.pack_tables.specs.Catalog.{records_of, region_of}
use Rattle.pack_tables.specs.declared.catalog.Catalog.{Catalog}
use Rattle.pack_read.specs.Reads.{Reads}
use Rattle.pack_read.specs.Says.{OfPack}
use Rattle.pack_read.specs.Held.{reads_on, reads_back}
use Rattle.theory.specs.Walks.Ahead.{ahead, ahead-unlike}
use Rattle.theory.specs.Walks.Valuing.{valuing, take_value}
use Rattle.graph.specs.declared.graph.Graph.{Graph as Counts}
use Rattle.graph.specs.Cells.{rows_end, Shows, rows-set, shows_rows}
use Rattle.graph.specs.Joins.{HeadOf, head-variable, head-other}
use Rattle.graph.specs.Nodes.{ArityOf}
use Rattle.base.specs.Pairs.{pairs_in, pairs_kept}
use Rattle.term_values.specs.declared.values.Valued.{Valued}
use Rattle.term_values.specs.Stores.{ValueIs, PutsValue}
use Rattle.term_values.specs.Pushes.{Pushable, Pushes, ground_on}
use Rattle.term_values.specs.Taking.{take-variable, take-unlike, take-ahead}

-- what a turn with the root `at` of whatever graph is held and ground node n answers: the pairs and values that are left, or that there are none
abbrev pub Gives : (bytes work work' words : List ℕ) (c : Catalog) (l : Valued) (s : Counts) (top : ℕ) (at : Graph → ℕ) (n : ℕ) → Optional ℕ → Type 0
Gives bytes work work' words c l s top at n (Some more) =
    Framed words l work work'
    × Says bytes work words c l s (λ P h vs. (ws : List Bound) × (take_value P h (at h) n (pairs_in (rows_end words) (table_in l work) top) vs ≡ some (valuing (pairs_in (rows_end words) (table_in l work') more) ws)) × Stands words (table_in l work') s h ws)
Gives bytes work work' words c l s top at n None =
    Framed words l work work' × Says bytes work words c l s (λ P h vs. take_value P h (at h) n (pairs_in (rows_end words) (table_in l work) top) vs ≡ none)

-- ---- `give`: what it asks, and promises
pub record Fresh (bytes work words : List ℕ) (c : Catalog) (l : Valued) (s : Counts) (top r n : ℕ) : Type 0 where
  pub values : Values bytes work words c l s
  pub node : r < s.nodes
  pub closed : n < length (records_of work c 3)
  pub bare : ValueIs words (table_in l work) r None
  pub room : top + length (vertex values.graph r).args ≤ length words + 1

-- a turn with root r
abbrev pub GivesTo : (bytes work work' words : List ℕ) (c : Catalog) (l : Valued) (s : Counts) (top r n : ℕ) → Optional ℕ → Type 0
GivesTo bytes work work' words c l s top r n t = Gives bytes work work' words c l s top (λ h. r) n t

module _ (bytes work words : List ℕ) (c : Catalog) (l : Valued) (s : Counts) (top r n : ℕ) (Q : Fresh bytes work words c l s top r n) where
  -- the root is a cell's
  pub fresh_inside : r < length words
  fresh_inside = let H = Q.values in omega (arith, Q.node, few_nodes words (table_in l work) s H.graph H.values H.stands)

  -- a ground node's number and one is a word
  pub fresh_small : n < nothing
  unfolding records_of places
  fresh_small =
      let C = Q.values.held.cataloged in
      let K = C.kept 3 (omega arith) in
      omega (arith, Q.closed, K.few, K.small, length-listed (place_in (region_of work c 3)) (count_in (region_of work c 3)))

  -- the pairs have room
  pub fresh_low : top ≤ length words + 1
  fresh_low = omega (arith, Q.room)

  module _ (next : List ℕ) (W : PutsValue words work next l r n) where
    -- the value is put down
    given_stands : (h : Graph) (vs : List Bound) → Stands words (table_in l work) s h vs → Stands words (table_in l next) s h (pairing r n ∷ vs)
    given_stands h vs S = subst (λ (t : List ℕ). Stands words t s h (pairing r n ∷ vs)) (sym W.0) (stands_value words (table_in l work) s h vs S r n Q.node (table-room words work l Q.values.placed))

    -- the pairs are what they were
    given_pairs : pairs_in (rows_end words) (table_in l next) top ≡ pairs_in (rows_end words) (table_in l work) top
    given_pairs = ap (λ (t : List ℕ). pairs_in (rows_end words) t top) W.0 ∙ pairs_kept (rows_end words) (table_in l work) top (values_at words + r) (n + 1) (omega (arith, fresh_low))

    -- a variable
    pub gives_variable : (head : ℕ) → HeadOf words (table_in l work) s r head → head ≡ variable_head → GivesTo bytes work next words c l s top r n (Some top)
    gives_variable head E v = (
      W.1,
      λ P R p h vs S. (
        pairing r n ∷ vs,
        take-variable P h r n (pairs_in (rows_end words) (table_in l work) top) vs (Q.bare s h vs S Q.node) (head-variable h r head (E h S.shows) v) ∙ ap (λ (w : List Pair). some (valuing w (pairing r n ∷ vs))) (sym given_pairs),
        given_stands h vs S,
      ),
    )

  -- an application
  module _ (head : ℕ) (E : HeadOf words (table_in l work) s r head) (a : head ≡ variable_head → ⊥) (other : ℕ) (O : OfPack bytes work c (λ P. (node_of P n).head) other) where
    -- with another head
    pub gives_unlike : (other ≡ head → ⊥) → GivesTo bytes work work words c l s top r n None
    gives_unlike d = (
      outside_none l.at (l.at + values_end words) work,
      λ P R p h vs S. take-unlike P h r n (pairs_in (rows_end words) (table_in l work) top) vs (Q.bare s h vs S Q.node) (head-other h r head (E h S.shows) a) (λ q. d (O P R ∙ sym q ∙ sym (E h S.shows))),
    )

    module _ (alike : other ≡ head) (k : ℕ) (A : ArityOf words (table_in l work) s r k) (m : ℕ) (B : OfPack bytes work c (λ P. length (node_of P n).args) m) where
      -- the turn, by the arguments put ahead
      by_arguments : (P : Pack) → Reads bytes (records_of work c) P → (h : Graph) (vs : List Bound) → Stands words (table_in l work) s h vs → (o : Option (List Pair))
          → ahead (vertex h r).args (node_of P n).args (pairs_in (rows_end words) (table_in l work) top) ≡ o
          → take_value P h r n (pairs_in (rows_end words) (table_in l work) top) vs ≡ elim o [ none ↦ none | some w ↦ some (valuing w (pairing r n ∷ vs)) ]
      by_arguments P R h vs S o e =
          take-ahead P h r n (pairs_in (rows_end words) (table_in l work) top) vs (Q.bare s h vs S Q.node) (head-other h r head (E h S.shows) a) (sym (E h S.shows) ∙ sym alike ∙ O P R) o e

      -- with more arguments, or fewer
      pub gives_longer : (m ≡ k → ⊥) → GivesTo bytes work work words c l s top r n None
      gives_longer d = (
        outside_none l.at (l.at + values_end words) work,
        λ P R p h vs S. by_arguments P R h vs S none (ahead-unlike (vertex h r).args (node_of P n).args (pairs_in (rows_end words) (table_in l work) top) (λ q. d (B P R ∙ sym q ∙ sym (A h S.shows)))),
      )

      module _ (same : m ≡ k) (next : List ℕ) (W : PutsValue words work next l r n) where
        -- the same pack is read
        next_reads : (P : Pack) → Reads bytes (records_of work c) P → Reads bytes (records_of next c) P
        next_reads P R = reads_on bytes work next c (framed_same words l work next c Q.values.apart W.1) Q.values.held.cataloged P R

        -- what is held with the value
        next_stands : Stands words (table_in l next) s Q.values.graph (pairing r n ∷ Q.values.values)
        next_stands = given_stands next W Q.values.graph Q.values.values Q.values.stands

        -- what the rows hold with the value they held without
        shows_back : (g : Graph) → Shows words (table_in l next) s g → Shows words (table_in l work) s g
        shows_back g S =
            let i : ℕ = values_at words + r in
            let R = rows-set words (table_in l work) i (n + 1) (omega arith) in
            shows_rows words (set (table_in l work) i (n + 1)) (table_in l work) s g (record { long = sym R.long; rows = λ j h. sym (R.rows j h) }) (subst (λ (t : List ℕ). Shows words t s g) W.0 S)

        -- its arguments can be put on the worklist
        pub gives_pushable : Pushable bytes next words c l s top r n k
        gives_pushable = record {
          values = values_on bytes work next words c l s Q.values W.1 (pairing r n ∷ Q.values.values) next_stands;
          node = Q.node;
          closed = ground_on bytes work next words c l n Q.values.held.cataloged Q.values.apart W.1 Q.closed;
          arity = λ g S. A g (shows_back g S);
          many = λ P R. sym same ∙ B P (reads_back bytes work next c (framed_same words l work next c Q.values.apart W.1) Q.values.held.cataloged P R);
          room = omega (arith, Q.room, A Q.values.graph Q.values.stands.shows);
        }

        -- they were
        pub gives_arguments : (work' : List ℕ) (more : ℕ) → Pushes bytes next work' words c l s top r n more → GivesTo bytes work work' words c l s top r n (Some more)
        gives_arguments work' more M = (
          outside_then l.at (l.at + values_end words) work next work' W.1 M.0,
          λ P R p h vs S.
              let t = M.1 P (next_reads P R) p h (pairing r n ∷ vs) (given_stands next W h vs S) in (
                pairing r n ∷ vs,
                by_arguments P R h vs S (some (pairs_in (rows_end words) (table_in l work') more)) (ap (ahead (vertex h r).args (node_of P n).args) (sym (given_pairs next W)) ∙ t.1),
                t.0,
              ),
        )
