-- One turn: the pair behind the others is taken.
use Rattle.std.specs.Prelude.{Option as Optional, Some, None}
use Rattle.std.specs.Prelude.{◌≡◌, Bool, true, ℕ, suc, ◌+◌, ◌*◌, ◌≤◌, ◌<◌, get_or}
use Rattle.std.proofs.Common.{sym, ◌∙◌, arith}
use Rattle.std.proofs.Math.Path.{ap}
use Rattle.std.proofs.Math.Bool.{false}
use mathlib.Core.List.{List, ◌∷◌}
use Rattle.std.proofs.Math.Option.{Option, none, some}
use borrow.Author.Tests.{eq-eqb, ne_eqb}
use Rattle.std.proofs.Math.ListN.{length}
use Rattle.definition.specs.Pack.{Pack, no_node}
use Rattle.definition.specs.Store.{is_variable, below, variable_head}
use Rattle.definition.specs.Verdict.{Bound, value_of, bound}
use Rattle.definition.specs.Graph.{Pair}
use Rattle.definition.specs.Analysis.{pairing}
use Rattle.base.specs.Outside.{outside_wider}
use Rattle.pack_tables.specs.Catalog.{records_of}
use Rattle.pack_tables.specs.declared.catalog.Catalog.{Catalog}
use Rattle.pack_read.specs.Reads.{length-nodes}
use Rattle.theory.specs.Copies.Terms.{below-applied}
use Rattle.theory.specs.Walks.WalkOnce.{unfinished_less}
use Rattle.theory.specs.Walks.Memo.{has, has_new, has-others, none_has}
use Rattle.theory.specs.Walks.Matching.{matching, number_of, take_match, matches_left}
use Rattle.theory.specs.Walks.Matched.{Leads}
use Rattle.store.specs.Stored.{nodes}
use Rattle.store.specs.declared.nodes.Store.{Store}
use Rattle.memo.specs.declared.memo.Memo.{Memo}
use Rattle.memo.specs.Lent.{lent-before, recall-before}
use Rattle.term_instance.specs.declared.tables.Instance.{Instance}
use Rattle.base.specs.Pairs.{pairs_in, length-pairs_in, pairs_same}
use Rattle.term_instance.specs.Held.{Given, Kept, Memos, given-value}
use Rattle.term_instance.specs.Binds.{Bindable, Gives, Binds}
use Rattle.term_instance.specs.Pushes.{args_of}
use Rattle.term_instance.specs.Taking.{take-variable}
use Rattle.term_instance.specs.Meets.{Takes, Applied}

-- ---- the pairs that are left, and what they come to: pattern p against ground node n
pub record Left (P : Pack) (work words : List ℕ) (l : Instance) (st : Store) (seen values : Memo) (p n top : ℕ) (ss vs : List Bound) : Type 0 where
  pub memos : Memos work l seen values ss vs
  pub leads : Leads P (nodes words st) (length (nodes words st)) p n (matching (pairs_in l.pairs work top) ss vs)
  pub there : n < length P.nodes
  pub most : matches_left (nodes words st) (length (nodes words st)) (matching (pairs_in l.pairs work top) ss vs) ≤ st.used

-- ---- `take_pair`: what it asks, and promises
pub record Ready (bytes work words : List ℕ) (c : Catalog) (l : Instance) (st : Store) (seen values : Memo) (top : ℕ) : Type 0 where
  pub given : Given bytes work words c l st seen values
  pub pattern : ℕ
  pub closed : ℕ
  pub was : List Bound
  pub bindings : List Bound
  pub left : Left given.held.pack work words l st seen values pattern closed (suc top) was bindings

-- the pattern of the pair behind the others
abbrev pub left_word : List ℕ → Instance → ℕ → ℕ
left_word work l top = get_or work (l.pairs + 2 * top) 0

-- and its ground node
abbrev pub right_word : List ℕ → Instance → ℕ → ℕ
right_word work l top = get_or work (l.pairs + 2 * top + 1) 0

-- a turn with them
abbrev pub TakesPair : (bytes work work' words : List ℕ) (c : Catalog) (l : Instance) (st : Store) (seen values : Memo) (top : ℕ) → Optional ℕ → Type 0
TakesPair bytes work work' words c l st seen values top t = Takes bytes work work' words c l st seen values top (left_word work l top) (right_word work l top) t

module _ (bytes work words : List ℕ) (c : Catalog) (l : Instance) (st : Store) (seen values : Memo) (top : ℕ) (Q : Ready bytes work words c l st seen values top) where
  -- the pair has room
  pub ready_low : top < st.used
  ready_low = omega (arith, Q.left.most, length-pairs_in l.pairs work (suc top))

  -- its words stand in work
  pub ready_inside : l.pairs + 2 * top + 1 < length work
  ready_inside = let H = Q.given in omega (arith, ready_low, H.pairs, H.table, H.order, H.fits)

  -- a pattern
  pub ready_pattern : left_word work l top < length (nodes words st)
  unfolding pairs_in
  ready_pattern = Q.left.leads.known.nodes.0

  -- and a ground node
  pub ready_ground : right_word work l top < length (records_of work c 3)
  unfolding pairs_in
  ready_ground = omega (arith, Q.left.leads.known.grounds.0, length-nodes bytes (records_of work c) Q.given.held.pack Q.given.held.reads)

  module _ (head : ℕ) (H : head ≡ (get_or (nodes words st) (left_word work l top) no_node).head) where
    -- a variable by its head
    pub ready_variable : head ≡ 4294967294 → is_variable (get_or (nodes words st) (left_word work l top) no_node) ≡ true
    unfolding is_variable
    ready_variable e = eq-eqb (get_or (nodes words st) (left_word work l top) no_node).head variable_head (sym H ∙ e)

    -- an application can be matched
    pub ready_applied : (head ≡ 4294967294 → ⊥) → Applied bytes work words c l st seen values top (left_word work l top) (right_word work l top) head
    unfolding is_variable
    ready_applied d =
        let p = left_word work l top in
        let n = right_word work l top in
        let s = nodes words st in
        let ss = Q.was in
        let v : is_variable (get_or s p no_node) ≡ false = ne_eqb (get_or s p no_node).head variable_head (λ e. d (H ∙ e)) in
        record {
          given = Q.given;
          pattern = ready_pattern;
          closed = ready_ground;
          applied = v;
          head_is = H;
          room = λ e.
              let less = unfinished_less (λ x. below (get_or s x no_node)) has p ss (pairing p n ∷ ss) (has_new ss p n) (λ y x. has-others ss p n y x) (length s) ready_pattern (none_has ss p (sym (Q.left.memos.seen_are p) ∙ e)) in
              let args : length (below (get_or s p no_node)) ≡ length (args_of words st p) = ap (λ (xs : List ℕ). length xs) (below-applied (get_or s p no_node) v) in
              omega (arith, less, args, Q.left.most, length-pairs_in l.pairs work (suc top));
        }

  -- a variable with its number
  module _ (v : is_variable (get_or (nodes words st) (left_word work l top) no_node) ≡ true) where
    -- it has one
    pub ready_number : 0 < length (args_of words st (left_word work l top))
    ready_number = omega (arith, Q.given.patterns.twos (left_word work l top) ready_pattern v)

    module _ (k : ℕ) (K : k ≡ number_of (nodes words st) (left_word work l top)) where
      -- it can be bound
      pub ready_bindable : Bindable work l values k
      ready_bindable =
          let H = Q.given in
          record { order = H.order; fits = H.fits; kept = H.values-kept; room = omega (arith, K, given-value bytes work words c l st seen values H (left_word work l top) ready_pattern v) }

      module _ (work' : List ℕ) (r : Bool) (B : Binds work work' l values k (right_word work l top) r) where
        -- what stays
        bound-kept : Kept l seen values work work'
        bound-kept =
            let H = Q.given in
            let wide : l.pairs ≤ l.seen = omega (arith, H.pairs) in
            let wider : l.seen ≤ l.values = omega (arith, H.table) in
            record {
              outside = outside_wider l.values l.end l.pairs l.end work work' (omega arith) (omega arith) B.0;
              seen-kept = rw (lent-before l.values l.end work work' B.0 l.seen l.values wider (omega arith) (omega (arith, H.order, H.fits))) H.seen-kept;
              values-kept = B.1;
            }

        -- the pairs are as they were
        bound_pairs : pairs_in l.pairs work' top ≡ pairs_in l.pairs work top
        bound_pairs = let H = Q.given in pairs_same l.pairs work work' top (λ i f h. B.0.ahead i (omega (arith, ready_low, H.pairs, H.table)))

        -- what the definition says of the pair
        bound-turn : (P : Pack) (ss vs : List Bound)
            → take_match P (nodes words st) (left_word work l top) (right_word work l top) (pairs_in l.pairs work top) ss vs
            ≡ elim (bound k (right_word work l top) vs (value_of k vs)) [ none ↦ none | some ws ↦ some (matching (pairs_in l.pairs work top) ss ws) ]
        bound-turn P ss vs =
            let n = right_word work l top in
            let w = pairs_in l.pairs work top in
            take-variable P (nodes words st) (left_word work l top) n w ss vs v
            ∙ ap (λ (i : ℕ). elim (bound i n vs (value_of i vs)) [ none ↦ none | some ws ↦ some (matching w ss ws) ]) (sym K)

        -- it has its value
        pub takes-bound : r ≡ true → TakesPair bytes work work' words c l st seen values top (Some top)
        takes-bound e = (
          bound-kept,
          λ P R ss vs M.
              let H = Q.given in
              let G : Gives work' l values k (right_word work l top) vs true = rw e at (B.2 vs M.values_are) in (
                ss,
                G.0,
                bound-turn P ss vs
                    ∙ ap (λ (o : Option (List Bound)). elim o [ none ↦ none | some ws ↦ some (matching (pairs_in l.pairs work top) ss ws) ]) G.1
                    ∙ ap (λ (w : List Pair). some (matching w ss G.0)) (sym bound_pairs),
                record {
                  seen_are = λ q. recall-before l.values l.end work work' B.0 l.seen l.values (omega (arith, H.table)) (omega arith) (omega (arith, H.order, H.fits)) seen q ∙ M.seen_are q;
                  values_are = G.2;
                },
              ),
        )

        -- it has another
        pub takes_unbound : r ≡ false → TakesPair bytes work work' words c l st seen values top None
        takes_unbound e = (
          bound-kept,
          λ P R ss vs M.
              let G : Gives work' l values k (right_word work l top) vs false = rw e at (B.2 vs M.values_are) in
              bound-turn P ss vs ∙ ap (λ (o : Option (List Bound)). elim o [ none ↦ none | some ws ↦ some (matching (pairs_in l.pairs work top) ss ws) ]) G,
        )
