-- An application against a ground node: it was seen with it, or is matched with it.
use Rattle.std.specs.Prelude.{Option, Some, None}
use Rattle.std.specs.Prelude.{◌≡◌, false, List, ◌∷◌, ℕ, ◌+◌, ◌≤◌, ◌<◌, length, get_or}
use Rattle.std.proofs.Common.{sym, ap, subst, ◌∙◌, arith}
use Rattle.std.proofs.Math.Option.{none, some}
use Rattle.definition.specs.Pack.{Pack, no_node, node_of}
use Rattle.definition.specs.Store.{is_variable}
use Rattle.definition.specs.Verdict.{Bound, value_of}
use Rattle.definition.specs.Graph.{Pair}
use Rattle.definition.specs.Analysis.{pairing}
use Rattle.base.specs.Outside.{Outside, outside_none, outside_then, outside_wider}
use Rattle.pack_tables.specs.Catalog.{records_of}
use Rattle.pack_tables.specs.declared.catalog.Catalog.{Catalog}
use Rattle.pack_read.specs.Reads.{Reads}
use Rattle.pack_read.specs.Says.{OfPack}
use Rattle.pack_read.specs.Held.{held_on, reads_back}
use Rattle.theory.specs.Walks.Ahead.{ahead, ahead-unlike}
use Rattle.theory.specs.Walks.Matching.{matching, take_match}
use Rattle.store.specs.Stored.{Stored, nodes}
use Rattle.memo.specs.Recall.{recall, Remembers}
use Rattle.memo.specs.Lent.{lent, lent-before, lent-behind, Puts, recall-behind}
use Rattle.store.specs.declared.nodes.Store.{Store}
use Rattle.memo.specs.declared.memo.Memo.{Memo}
use Rattle.term_instance.specs.declared.tables.Instance.{Instance}
use Rattle.base.specs.Pairs.{pairs_in, pairs_same}
use Rattle.term_instance.specs.Held.{seen_at, Given, Kept, Memos, recall-more, outside_same, given-seen, given_reads, given_ground}
use Rattle.term_instance.specs.Pushes.{args_of, Pushable, Pushes}
use Rattle.term_instance.specs.Taking.{take-seen, take-other, take-unlike, take-ahead}

-- ---- what a turn on pattern p and ground node n gives, of whatever pack and values are held: what `take_match` does
abbrev pub Takes : (bytes work work' words : List ℕ) (c : Catalog) (l : Instance) (st : Store) (seen values : Memo) (top p n : ℕ) → Option ℕ → Type 0
Takes bytes work work' words c l st seen values top p n (Some more) =
    Kept l seen values work work'
    × ((P : Pack) → Reads bytes (records_of work c) P → (ss vs : List Bound) → Memos work l seen values ss vs
    → (ts : List Bound) × (ws : List Bound) × (take_match P (nodes words st) p n (pairs_in l.pairs work top) ss vs ≡ some (matching (pairs_in l.pairs work' more) ts ws)) × Memos work' l seen values ts ws)
Takes bytes work work' words c l st seen values top p n None =
    Kept l seen values work work'
    × ((P : Pack) → Reads bytes (records_of work c) P → (ss vs : List Bound) → Memos work l seen values ss vs → take_match P (nodes words st) p n (pairs_in l.pairs work top) ss vs ≡ none)

-- `meet`: an application with its head, whose arguments have room if it was not seen
pub record Applied (bytes work words : List ℕ) (c : Catalog) (l : Instance) (st : Store) (seen values : Memo) (top p n head : ℕ) : Type 0 where
  pub given : Given bytes work words c l st seen values
  pub pattern : p < length (nodes words st)
  pub closed : n < length (records_of work c 3)
  pub applied : is_variable (get_or (nodes words st) p no_node) ≡ false
  pub head_is : head ≡ (get_or (nodes words st) p no_node).head
  pub room : seen_at work l seen p ≡ none → top + length (args_of words st p) ≤ st.used

-- `descend`: one that was not seen
pub record Bare (bytes work words : List ℕ) (c : Catalog) (l : Instance) (st : Store) (seen values : Memo) (top p n head : ℕ) : Type 0 where
  pub applied : Applied bytes work words c l st seen values top p n head
  pub bare : seen_at work l seen p ≡ none

-- nothing was written
pub kept-none : (bytes work words : List ℕ) (c : Catalog) (l : Instance) (st : Store) (seen values : Memo) → Given bytes work words c l st seen values → Kept l seen values work work
kept-none bytes work words c l st seen values H = record { outside = outside_none l.pairs l.end work; seen-kept = H.seen-kept; values-kept = H.values-kept }

module _ (bytes work words : List ℕ) (c : Catalog) (l : Instance) (st : Store) (seen values : Memo) (top p n head : ℕ) (Q : Applied bytes work words c l st seen values top p n head) where
  -- the memo has its place
  pub seen_placed : (l.seen ≤ l.values) × (l.values ≤ length work) × Remembers (lent l.seen l.values work) seen × (p < length (recall (lent l.seen l.values work) seen))
  seen_placed = let H = Q.given in (omega (arith, H.table), omega (arith, H.order, H.fits), H.seen-kept, given-seen bytes work words c l st seen values H p Q.pattern)

  -- it was seen with this node
  pub meets-same : (m : ℕ) → some m ≡ seen_at work l seen p → m ≡ n → Takes bytes work work words c l st seen values top p n (Some top)
  meets-same m e q = (
    kept-none bytes work words c l st seen values Q.given,
    λ P R ss vs M. (ss, vs, take-seen P (nodes words st) p n (pairs_in l.pairs work top) ss vs Q.applied m (sym (e ∙ M.seen_are p)) q, M),
  )

  -- with another
  pub meets-other : (m : ℕ) → some m ≡ seen_at work l seen p → (m ≡ n → ⊥) → Takes bytes work work words c l st seen values top p n None
  meets-other m e d = (
    kept-none bytes work words c l st seen values Q.given,
    λ P R ss vs M. take-other P (nodes words st) p n (pairs_in l.pairs work top) ss vs Q.applied m (sym (e ∙ M.seen_are p)) d,
  )

  -- with none
  pub meets-bare : none ≡ seen_at work l seen p → Bare bytes work words c l st seen values top p n head
  meets-bare e = record { applied = Q; bare = sym e }

module _ (bytes work words : List ℕ) (c : Catalog) (l : Instance) (st : Store) (seen values : Memo) (top p n head : ℕ) (B : Bare bytes work words c l st seen values top p n head) where
  -- what is asked of the application
  abbrev Q : Applied bytes work words c l st seen values top p n head
  Q = B.applied

  -- its memo has none for it
  not_seen : (ss vs : List Bound) → Memos work l seen values ss vs → value_of p ss ≡ none
  not_seen ss vs M = sym (M.seen_are p) ∙ B.bare

  -- the ground node has another head
  pub descends_unlike : (d : ℕ) → OfPack bytes work c (λ P. (node_of P n).head) d → (d ≡ head → ⊥) → Takes bytes work work words c l st seen values top p n None
  descends_unlike d D x = (
    kept-none bytes work words c l st seen values Q.given,
    λ P R ss vs M. take-unlike P (nodes words st) p n (pairs_in l.pairs work top) ss vs Q.applied (not_seen ss vs M) (λ e. x (D P R ∙ sym (Q.head_is ∙ e))),
  )

  module _ (d : ℕ) (D : OfPack bytes work c (λ P. (node_of P n).head) d) (same : d ≡ head) (k : ℕ) (K : k ≡ length (args_of words st p)) (m : ℕ) (N : OfPack bytes work c (λ P. length (node_of P n).args) m) where
    -- the heads are the same
    heads : (P : Pack) → Reads bytes (records_of work c) P → (get_or (nodes words st) p no_node).head ≡ (node_of P n).head
    heads P R = sym Q.head_is ∙ sym same ∙ D P R

    -- it has more arguments, or fewer
    pub descends_longer : (m ≡ k → ⊥) → Takes bytes work work words c l st seen values top p n None
    descends_longer x = (
      kept-none bytes work words c l st seen values Q.given,
      λ P R ss vs M. take-ahead P (nodes words st) p n (pairs_in l.pairs work top) ss vs Q.applied (not_seen ss vs M) (heads P R) none (ahead-unlike (args_of words st p) (node_of P n).args (pairs_in l.pairs work top) (λ e. x (N P R ∙ sym (K ∙ e)))),
    )

    module _ (as_many : m ≡ k) (mid : List ℕ) (W : Puts work mid l.seen l.values seen p n) where
      -- the tables stand one behind the other
      wide : l.pairs ≤ l.seen
      wide = omega (arith, Q.given.pairs)

      -- and so
      wider : l.seen ≤ l.values
      wider = omega (arith, Q.given.table)

      -- seen from the pairs on
      mid_outside : Outside l.pairs l.end work mid
      mid_outside = outside_wider l.seen l.values l.pairs l.end work mid wide Q.given.order W.outside

      -- the arguments can be put there
      pub descends_pushable : Pushable bytes mid words c l st top p n k
      descends_pushable =
          let H = Q.given in
          record {
            held = held_on bytes work mid c (outside_same work mid c l.pairs l.end H.apart mid_outside) H.held;
            apart = H.apart;
            index = H.index;
            stored = subst (λ (zs : List ℕ). Stored zs words st) (sym (lent-before l.pairs l.end work mid mid_outside l.index l.pairs H.index (omega arith) (omega (arith, wide, wider, H.order, H.fits)))) H.stored;
            pattern = Q.pattern;
            closed = given_ground bytes work words c l st seen values H l.pairs l.end mid (omega arith) mid_outside n Q.closed;
            arity = K;
            many = λ P R. sym as_many ∙ N P (back P R);
            room = omega (arith, Q.room B.bare, K, H.pairs);
            fits = omega (arith, wider, H.order, H.fits, W.outside.long);
          }
        where
          -- the same pack was read before
          back : (P : Pack) → Reads bytes (records_of mid c) P → Reads bytes (records_of work c) P
          back P R = reads_back bytes work mid c (outside_same work mid c l.pairs l.end Q.given.apart mid_outside) Q.given.held.cataloged P R

      -- the pairs are as they were
      mid_pairs : pairs_in l.pairs mid top ≡ pairs_in l.pairs work top
      mid_pairs = pairs_same l.pairs work mid top (λ i f h. W.outside.ahead i (omega (arith, Q.given.pairs, Q.room B.bare)))

      module _ (work' : List ℕ) (on : ℕ) (A : Pushes bytes mid work' words c l st top p n on) where
        -- what stays
        descends_kept : Kept l seen values work work'
        descends_kept =
            let H = Q.given in
            let long = W.outside.long in
            let s = lent-behind l.pairs l.seen mid work' A.0 l.seen l.values wider (omega arith) (omega (arith, H.order, H.fits)) in
            let v = lent-behind l.pairs l.seen mid work' A.0 l.values l.end H.order wider (omega (arith, H.fits)) in
            let u = lent-behind l.seen l.values work mid W.outside l.values l.end H.order (omega arith) H.fits in
            record {
              outside = outside_then l.pairs l.end work mid work' mid_outside (outside_wider l.pairs l.seen l.pairs l.end mid work' (omega arith) (omega (arith, wider, H.order)) A.0);
              seen-kept = rw s W.remembers;
              values-kept = rw (v, u) H.values-kept;
            }

        -- the values are those with it
        descends_memos : (ss vs : List Bound) → Memos work l seen values ss vs → Memos work' l seen values (pairing p n ∷ ss) vs
        descends_memos ss vs M =
            let H = Q.given in
            let long = W.outside.long in
            record {
              seen_are = λ q. recall-behind l.pairs l.seen mid work' A.0 l.seen l.values wider (omega arith) (omega (arith, H.order, H.fits)) seen q ∙ recall-more work mid l.seen l.values seen p n W ss M.seen_are q;
              values_are = λ q.
                  recall-behind l.pairs l.seen mid work' A.0 l.values l.end H.order wider (omega (arith, H.fits)) values q
                  ∙ recall-behind l.seen l.values work mid W.outside l.values l.end H.order (omega arith) H.fits values q ∙ M.values_are q;
            }

        -- its arguments were put there
        pub descends_on : Takes bytes work work' words c l st seen values top p n (Some on)
        descends_on = (
          descends_kept,
          λ P R ss vs M. (
            pairing p n ∷ ss,
            vs,
            take-ahead P (nodes words st) p n (pairs_in l.pairs work top) ss vs Q.applied (not_seen ss vs M) (heads P R) (some (pairs_in l.pairs work' on))
                (ap (λ (w : List Pair). ahead (args_of words st p) (node_of P n).args w) (sym mid_pairs) ∙ A.1 P (given_reads bytes work words c l st seen values Q.given l.pairs l.end mid (omega arith) mid_outside P R)),
            descends_memos ss vs M,
          ),
        )
