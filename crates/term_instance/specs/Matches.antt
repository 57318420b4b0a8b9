-- The turns together: a ground node is an instance of a pattern just where the definition's match has values, and they are those.
use Rattle.std.specs.Prelude.{Option, Some, None}
use Rattle.std.specs.Prelude.{◌≡◌, refl, Bool, List, [], ◌∷◌, ℕ, suc, ◌+◌, ◌-◌, ◌<◌, length, get_or}
use Rattle.std.proofs.Common.{ap, subst, ◌∙◌, arith}
use Rattle.std.proofs.Math.Option.{none, some}
use Rattle.definition.specs.Pack.{Pack, no_node}
use Rattle.definition.specs.Store.{below, term_of}
use Rattle.definition.specs.Classes.{is_some}
use Rattle.definition.specs.Verdict.{Bound, value_of, matches}
use Rattle.definition.specs.Graph.{Pair}
use Rattle.base.specs.Outside.{Outside, outside_then}
use Rattle.pack_tables.specs.Catalog.{records_of}
use Rattle.pack_tables.specs.declared.catalog.Catalog.{Catalog}
use Rattle.pack_read.specs.Reads.{Reads}
use Rattle.pack_read.specs.Held.{Proper, OfHeld}
use Rattle.theory.specs.Walks.WalkOnce.{unfinished, unfinished_alike}
use Rattle.theory.specs.Walks.Memo.{has}
use Rattle.theory.specs.Walks.Ahead.{beside}
use Rattle.theory.specs.Walks.Matching.{matching, take_match}
use Rattle.theory.specs.Walks.Matched.{Leads, leads_on, leads_stop, leads_done}
use Rattle.store.specs.Stored.{nodes}
use Rattle.store.specs.declared.nodes.Store.{Store}
use Rattle.memo.specs.declared.memo.Memo.{Memo}
use Rattle.term_instance.specs.declared.tables.Instance.{Instance}
use Rattle.base.specs.Pairs.{pairs_in, length-pairs_in}
use Rattle.term_instance.specs.Held.{seen_at, value_at, Patterns, Kept, Memos, given_reads, given_on}
use Rattle.term_instance.specs.Takes.{Left, Ready, left_word, right_word, TakesPair}

-- what the test answers of whatever pack work holds: the values are in the memo, or there are none
abbrev pub Matches : (bytes work work' words : List ℕ) (c : Catalog) (l : Instance) (st : Store) (p n : ℕ) → Option (Memo × Memo) → Type 0
Matches bytes work work' words c l st p n (Some (seen, values)) =
    Kept l seen values work work'
    × OfHeld bytes work c (λ P. (bs : List Bound) × (matches P (term_of (nodes words st) p) n [] ≡ some bs) × ((k : ℕ) → value_at work' l values k ≡ value_of k bs))
Matches bytes work work' words c l st p n None = Outside l.pairs l.end work work' × OfHeld bytes work c (λ P. matches P (term_of (nodes words st) p) n [] ≡ none)

-- ---- how much is left, by the words
-- whether a pattern node was seen
unfoldable pub seen_in : Instance → Memo → List ℕ → ℕ → Bool
unfolding is_some
seen_in l seen work q = is_some (seen_at work l seen q)

-- the arguments of nodes that were not
unfoldable pub left_in_lent : (words work : List ℕ) (l : Instance) (st : Store) (seen : Memo) → ℕ
unfolding seen_in
left_in_lent words work l st seen = unfinished (λ x. below (get_or (nodes words st) x no_node)) (seen_in l seen) (length (nodes words st)) work

-- they are those that the memo does not have
left_in : (work words : List ℕ) (l : Instance) (st : Store) (seen values : Memo) (ss vs : List Bound) → Memos work l seen values ss vs
    → left_in_lent words work l st seen ≡ unfinished (λ x. below (get_or (nodes words st) x no_node)) has (length (nodes words st)) ss
unfolding left_in_lent has
left_in work words l st seen values ss vs M =
    let kids : ℕ → List ℕ = λ x. below (get_or (nodes words st) x no_node) in
    unfinished_alike kids kids (seen_in l seen) has work ss (length (nodes words st)) (λ x h. refl) (λ x h. ap is_some (M.seen_are x))

-- ---- a turn
module _ (P : Pack) (G : Proper P) (work words : List ℕ) (l : Instance) (st : Store) (seen values : Memo) (N : Patterns (nodes words st)) (p n top : ℕ) (ss vs : List Bound) (L : Left P work words l st seen values p n (suc top) ss vs) where
  -- the pair that is taken
  abbrev pair : Pair
  pair = beside (left_word work l top) (right_word work l top)

  -- the others
  abbrev others : List Pair
  others = pairs_in l.pairs work top

  -- they are the whole
  leads : Leads P (nodes words st) (length (nodes words st)) p n (matching (pair ∷ others) ss vs)
  unfolding pairs_in
  leads = L.leads

  -- what is left gives the same, and less is left
  pub left_on : (work' : List ℕ) (more : ℕ) (ts ws : List Bound) → take_match P (nodes words st) (left_word work l top) (right_word work l top) others ss vs ≡ some (matching (pairs_in l.pairs work' more) ts ws)
      → Memos work' l seen values ts ws → Left P work' words l st seen values p n more ts ws × (more + left_in_lent words work' l st seen < suc top + left_in_lent words work l st seen)
  left_on work' more ts ws t M =
      let s = nodes words st in
      let z = leads_on P s G.good G.once N.earlier (length s) p n (omega arith) L.there pair others ss vs leads (matching (pairs_in l.pairs work' more) ts ws) t in
      let a = length-pairs_in l.pairs work top in
      let a' = length-pairs_in l.pairs work (suc top) in
      let b = length-pairs_in l.pairs work' more in (
        record { memos = M; leads = z.0; there = L.there; most = omega (arith, z.1, L.most) },
        omega (arith, z.1, left_in work words l st seen values ss vs L.memos, left_in work' words l st seen values ts ws M),
      )

  -- a pair that differs ends it
  pub left_stop : take_match P (nodes words st) (left_word work l top) (right_word work l top) others ss vs ≡ none → matches P (term_of (nodes words st) p) n [] ≡ none
  left_stop t = let s = nodes words st in leads_stop P s G.good G.once N.earlier (length s) p n (omega arith) L.there pair others ss vs leads t

-- no pair is left
pub left-done : (P : Pack) → Proper P → (work words : List ℕ) (l : Instance) (st : Store) (seen values : Memo) → Patterns (nodes words st) → (p n : ℕ) (ss vs : List Bound) → Left P work words l st seen values p n 0 ss vs
    → (bs : List Bound) × (matches P (term_of (nodes words st) p) n [] ≡ some bs) × ((k : ℕ) → value_at work l values k ≡ value_of k bs)
unfolding pairs_in
left-done P G work words l st seen values N p n ss vs L =
    let s = nodes words st in
    let D = leads_done P s G.good G.once N.earlier (length s) p n (omega arith) L.there ss vs L.leads in
    (D.0, D.1, λ k. L.memos.values_are k ∙ D.2 k)

-- ---- the turns together
-- one after the other
kept_then : (l : Instance) (seen values : Memo) (work work' work'' : List ℕ) → Outside l.pairs l.end work work' → Kept l seen values work' work'' → Kept l seen values work work''
kept_then l seen values work work' work'' A B = record { outside = outside_then l.pairs l.end work work' work'' A B.outside; seen-kept = B.seen-kept; values-kept = B.values-kept }

-- what stood at the start comes to what is left now
pub record Going (bytes before work words : List ℕ) (c : Catalog) (l : Instance) (st : Store) (seen values : Memo) (top : ℕ) : Type 0 where
  pub kept : Kept l seen values before work
  pub state : OfHeld bytes before c (λ P. (p n : ℕ) (ss vs : List Bound) → Left P before words l st seen values p n 1 ss vs → (ts : List Bound) × (ws : List Bound) × Left P work words l st seen values p n top ts ws)

-- no turn yet
pub going_none : (bytes before words : List ℕ) (c : Catalog) (l : Instance) (st : Store) (seen values : Memo) → Kept l seen values before before → Going bytes before before words c l st seen values 1
going_none bytes before words c l st seen values K = record { kept = K; state = λ P R G p n ss vs L. (ss, vs, L) }

-- the last of some pairs
pub going_at : (bytes before work words : List ℕ) (c : Catalog) (l : Instance) (st : Store) (seen values : Memo) (top : ℕ) → 0 < top → Going bytes before work words c l st seen values top → Going bytes before work words c l st seen values (suc (top - 1))
going_at bytes before work words c l st seen values top h G = let e : top ≡ suc (top - 1) = omega arith in subst (λ (k : ℕ). Going bytes before work words c l st seen values k) e G

module _ (bytes before work words : List ℕ) (c : Catalog) (l : Instance) (st : Store) (seen values : Memo) (top : ℕ) (B : Ready bytes before words c l st seen values 0) (G : Going bytes before work words c l st seen values (suc top)) where
  -- the same pack is read
  pub going_reads : (P : Pack) → Reads bytes (records_of before c) P → Reads bytes (records_of work c) P
  going_reads P R = given_reads bytes before words c l st seen values B.given l.pairs l.end work (omega arith) G.kept.outside P R

  -- what is left now
  abbrev going_left : (ts : List Bound) × (ws : List Bound) × Left B.given.held.pack work words l st seen values B.pattern B.closed (suc top) ts ws
  going_left = let H = B.given.held in G.state H.pack H.reads H.proper B.pattern B.closed B.was B.bindings B.left

  -- the next pair can be taken
  pub going_ready : Ready bytes work words c l st seen values top
  going_ready = record {
    given = given_on bytes before words c l st seen values B.given work seen values G.kept;
    pattern = B.pattern;
    closed = B.closed;
    was = going_left.0;
    bindings = going_left.1;
    left = going_left.2;
  }

  -- a turn more
  module _ (work' : List ℕ) (more : ℕ) (M : TakesPair bytes work work' words c l st seen values top (Some more)) where
    -- what is left still gives the whole
    pub going_on : Going bytes before work' words c l st seen values more
    going_on = record {
      kept = kept_then l seen values before work work' G.kept.outside M.0;
      state = λ P R g p n ss vs L.
          let t = G.state P R g p n ss vs L in
          let m = M.1 P (going_reads P R) t.0 t.1 t.2.memos in
          (m.0, m.1, (left_on P g work words l st seen values B.given.patterns p n top t.0 t.1 t.2 work' more m.0 m.1 m.2 m.3).0);
    }

    -- and less is left
    pub going_less : more + left_in_lent words work' l st seen < suc top + left_in_lent words work l st seen
    going_less =
        let H = B.given.held in
        let t = going_left in
        let m = M.1 H.pack (going_reads H.pack H.reads) t.0 t.1 t.2.memos in
        (left_on H.pack H.proper work words l st seen values B.given.patterns B.pattern B.closed top t.0 t.1 t.2 work' more m.0 m.1 m.2 m.3).1
