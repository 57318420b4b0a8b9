-- What work holds while a pattern is matched: the pack, the store's index, pairs, and two memos.
use Rattle.std.specs.Prelude.{◌≡◌, true, false, List, [], ◌∷◌, ℕ, zero, suc, ◌+◌, ◌*◌, ◌≤◌, ◌<◌, length, get_or}
use Rattle.std.proofs.Common.{sym, ap, subst, ◌∙◌, arith, length-append}
use Rattle.std.proofs.Math.Option.{Option}
use Rattle.std.proofs.Math.Decide.{ℕ_discrete}
use Rattle.definition.specs.Test.{is, see}
use Rattle.definition.specs.Pack.{Pack, Node, no_node}
use Rattle.definition.specs.Store.{is_variable, below, pattern_words}
use Rattle.definition.specs.Verdict.{Bound, value_of}
use Rattle.definition.specs.Analysis.{pairing}
use Rattle.base.specs.Outside.{Outside}
use Rattle.pack_tables.specs.Place.{Place}
use Rattle.pack_tables.specs.Catalog.{records_of}
use Rattle.pack_tables.specs.SameTables.{end_of, Same, same-records}
use Rattle.pack_tables.specs.declared.catalog.Catalog.{Catalog}
use Rattle.pack_read.specs.Reads.{Reads}
use Rattle.pack_read.specs.Held.{Held, held_on, reads_on}
use Rattle.theory.specs.Copies.Terms.{Earlier, below-variable, below-applied}
use Rattle.theory.specs.Copies.Copying.{value_of_new, value_of_old}
use Rattle.theory.specs.Walks.Valuing.{total}
use Rattle.theory.specs.Walks.Matching.{number_of}
use Rattle.store.specs.Stored.{Stored, nodes}
use Rattle.memo.specs.Recall.{recall, Remembers, length-recall}
use Rattle.memo.specs.Lent.{lent, lent_long, lent-before, recall_at, Puts}
use Rattle.store.specs.declared.nodes.Store.{Store}
use Rattle.memo.specs.declared.memo.Memo.{Memo}
use Rattle.term_instance.specs.declared.tables.Instance.{Instance}

-- what a pattern node was matched with
abbrev pub seen_at : List ℕ → Instance → Memo → ℕ → Option ℕ
seen_at work l memo q = recall_at l.seen l.values work memo q

-- a variable's value
abbrev pub value_at : List ℕ → Instance → Memo → ℕ → Option ℕ
value_at work l memo k = recall_at l.values l.end work memo k

-- nodes that rest on earlier ones; a variable has a number and a sort
pub record Patterns (s : List Node) : Type 0 where
  pub earlier : Earlier s
  pub twos : (q : ℕ) → q < length s → is_variable (get_or s q no_node) ≡ true → length (get_or s q no_node).args ≡ 2

-- work holds a proper pack and a store's index; behind them there is room for as many pairs as the store has words, and there are a memo for its
-- nodes and a memo for its variables
pub record Given (bytes work words : List ℕ) (c : Catalog) (l : Instance) (st : Store) (seen values : Memo) : Type 0 where
  pub held : Held bytes work c
  pub apart : end_of c ≤ l.pairs
  pub index : l.index ≤ l.pairs
  pub pairs : l.pairs + 2 * st.used ≤ l.seen
  pub table : l.seen + 2 * st.len ≤ l.values
  pub order : l.values ≤ l.end
  pub fits : l.end ≤ length work
  pub stored : Stored (lent l.index l.pairs work) words st
  pub patterns : Patterns (nodes words st)
  pub numbers : (q : ℕ) → q < length (nodes words st) → is_variable (get_or (nodes words st) q no_node) ≡ true → l.values + 2 * number_of (nodes words st) q + 2 ≤ l.end
  pub seen-kept : Remembers (lent l.seen l.values work) seen
  pub values-kept : Remembers (lent l.values l.end work) values

-- nothing ahead of the pairs or from the end on has changed, and both memos are memos still
pub record Kept (l : Instance) (seen values : Memo) (work work' : List ℕ) : Type 0 where
  pub outside : Outside l.pairs l.end work work'
  pub seen-kept : Remembers (lent l.seen l.values work') seen
  pub values-kept : Remembers (lent l.values l.end work') values

-- the memos hold these values
pub record Memos (work : List ℕ) (l : Instance) (seen values : Memo) (ss vs : List Bound) : Type 0 where
  pub seen_are : (q : ℕ) → seen_at work l seen q ≡ value_of q ss
  pub values_are : (k : ℕ) → value_at work l values k ≡ value_of k vs

-- a value more
pub recall-more : (work work' : List ℕ) (a e : ℕ) (memo : Memo) (k v : ℕ) → Puts work work' a e memo k v → (vs : List Bound) → ((j : ℕ) → recall_at a e work memo j ≡ value_of j vs) → (j : ℕ) → recall_at a e work' memo j ≡ value_of j (pairing k v ∷ vs)
recall-more work work' a e memo k v W vs h j = elim (ℕ_discrete j k) [
  | yes q ↦ ap (λ (i : ℕ). recall_at a e work' memo i) q ∙ W.here ∙ sym (ap (λ (i : ℕ). value_of i (pairing k v ∷ vs)) q ∙ value_of_new k v vs)
  | no d ↦ W.others j (λ q. d (sym q)) ∙ h j ∙ sym (value_of_old k v vs j d)
]

-- ---- what stays
-- the pack's tables are as they were
pub outside_same : (work work' : List ℕ) (c : Catalog) (a e : ℕ) → end_of c ≤ a → Outside a e work work' → Same work work' c
outside_same work work' c a e h A = record { long = A.long; words = λ i m. A.ahead i (omega arith) }

module _ (bytes work words : List ℕ) (c : Catalog) (l : Instance) (st : Store) (seen values : Memo) (H : Given bytes work words c l st seen values) where
  -- how many nodes there are
  pub given_len : st.len ≡ length (nodes words st)
  given_len = H.stored.placed.len

  -- a pattern node has its place in the memo
  pub given-seen : (q : ℕ) → q < length (nodes words st) → q < length (recall (lent l.seen l.values work) seen)
  given-seen q h = omega (arith, length-recall (lent l.seen l.values work) seen, lent_long l.seen l.values work (omega (arith, H.table)) (omega (arith, H.order, H.fits)), H.table, given_len)

  -- and a variable's number in the other
  pub given-value : (q : ℕ) → q < length (nodes words st) → is_variable (get_or (nodes words st) q no_node) ≡ true → number_of (nodes words st) q < length (recall (lent l.values l.end work) values)
  given-value q h v = omega (arith, length-recall (lent l.values l.end work) values, lent_long l.values l.end work H.order H.fits, H.numbers q h v)

  -- the same pack is read
  pub given_reads : (a e : ℕ) (work' : List ℕ) → l.pairs ≤ a → Outside a e work work' → (P : Pack) → Reads bytes (records_of work c) P → Reads bytes (records_of work' c) P
  given_reads a e work' h A P R = reads_on bytes work work' c (outside_same work work' c a e (omega (arith, H.apart)) A) H.held.cataloged P R

  -- as many ground nodes are recorded
  pub given_ground : (a e : ℕ) (work' : List ℕ) → l.pairs ≤ a → Outside a e work work' → (n : ℕ) → n < length (records_of work c 3) → n < length (records_of work' c 3)
  given_ground a e work' h A n m = omega (arith, m, ap (λ (ps : List Place). length ps) (same-records work work' c (outside_same work work' c a e (omega (arith, H.apart)) A) H.held.cataloged.fits 3 (omega arith)))

  -- all of it stays, of whatever memos
  abbrev pub given_on : (work' : List ℕ) (seen' values' : Memo) → Kept l seen' values' work work' → Given bytes work' words c l st seen' values'
  given_on work' seen' values' K = record {
    held = held_on bytes work work' c (outside_same work work' c l.pairs l.end H.apart K.outside) H.held;
    apart = H.apart;
    index = H.index;
    pairs = H.pairs;
    table = H.table;
    order = H.order;
    fits = omega (arith, H.fits, K.outside.long);
    stored = subst (λ (zs : List ℕ). Stored zs words st) (sym (lent-before l.pairs l.end work work' K.outside l.index l.pairs H.index (omega arith) (omega (arith, H.pairs, H.table, H.order, H.fits)))) H.stored;
    patterns = H.patterns;
    numbers = H.numbers;
    seen-kept = K.seen-kept;
    values-kept = K.values-kept;
  }

-- ---- the arguments of all nodes have room among the store's words
-- what is below a node is no more than its arguments
below_few : (n : Node) → length (below n) ≤ length n.args
below_few n = elim (see (is_variable n)) [
  | is true v ↦ let e : length (below n) ≡ 0 = ap (λ (xs : List ℕ). length xs) (below-variable n v) in omega arith
  | is false v ↦ let e : length (below n) ≡ length n.args = ap (λ (xs : List ℕ). length xs) (below-applied n v) in omega arith
]

-- one node in front
below_front : (n : Node) (s : List Node) (k : ℕ) → total (λ x. below (get_or (n ∷ s) x no_node)) (suc k) ≡ length (below n) + total (λ x. below (get_or s x no_node)) k
unfolding total
below_front n s zero = omega arith
below_front n s (suc k) = let ih = below_front n s k in omega arith

-- with two words a node they are no more than the words of all
pub below-words : (s : List Node) (k : ℕ) → k ≤ length s → total (λ x. below (get_or s x no_node)) k + k ≤ length (pattern_words s)
unfolding total pattern_words
below-words s zero h = omega arith
below-words [] (suc k) h = absurd (omega arith)
below-words (n ∷ s) (suc k) h =
    let ih = below-words s k (omega arith) in
    let f = below_front n s k in
    let b = below_few n in
    let l = length-append (length n.args ∷ n.head ∷ n.args) (pattern_words s) in
    omega arith
