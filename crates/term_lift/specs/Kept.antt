-- What writing leaves of lifting's words, of the table and of what was read back.
use Rattle.std.specs.Prelude.{Option, Some, None}
use Rattle.std.specs.Prelude.{◌≡◌, ℕ, ◌+◌, ◌-◌, ◌≤◌, ◌<◌, length}
use Rattle.std.proofs.Common.{sym, ◌∙◌, arith}
use Rattle.std.proofs.Math.Path.{ap, ap₂, subst}
use mathlib.Core.List.{List}
use Rattle.std.proofs.Math.ListN.{get_or}
use Rattle.definition.specs.Tree.{tree_of}
use Rattle.definition.specs.Verdict.{value_of}
use Rattle.definition.specs.Store.{intern, pattern_words}
use Rattle.theory.specs.Patterns.Interned.{Grows, interned}
use Rattle.theory.specs.Walks.Again.{stored, lift_again}
use Rattle.theory.specs.Walks.Lifting.{Right as LiftsRight}
use Rattle.base.specs.Part.{put, part_same, part-put, length_part, length-put, put-before, put-behind, part-put-before}
use Rattle.store.specs.Words.{node_with, begins_long, words-most}
use Rattle.store.specs.Stored.{Stored, nodes, written, Answer}
use Rattle.store.specs.declared.nodes.Store.{Store}
use Rattle.base.specs.declared.id.Pattern.{Pattern}
use Rattle.pack_tables.specs.declared.catalog.Catalog.{Catalog}
use Rattle.pack_read.specs.Held.{reads_back}
use Rattle.term_lift.specs.Lifts.{index_at, marks, index_in, memo_from, lifted_in, Lifts, Apart}
use Rattle.term_lift.specs.Memo.{lifted_same}
use Rattle.term_lift.specs.Nodes.{laid_same, laid_on}
use Rattle.term_lift.specs.declared.lift.Lifted.{Lifted}

-- ---- what is written behind lifting's words leaves them
pub lifts_on : (bytes work words : List ℕ) (c : Catalog) (l : Lifted) (st : Store) (work' : List ℕ) → length work' ≡ length work → ((i : ℕ) → i < l.end → get_or work' i 0 ≡ get_or work i 0)
    → Lifts bytes work words c l st → Lifts bytes work' words c l st
lifts_on bytes work words c l st work' e f L =
    let ahead : (i : ℕ) → i < l.at → get_or work' i 0 ≡ get_or work i 0 = λ i h. f i (omega (arith, L.laid.fits)) in
    let index : index_in work' l ≡ index_in work l = part_same (index_at l) (l.end - index_at l) work' work (omega (arith, L.laid.fits, L.laid.inside)) (omega (arith, L.laid.fits, L.laid.inside)) (λ i h. f (index_at l + i) (omega arith)) in
    let words_same : marks work' l ≡ marks work l = part_same l.at l.nodes work' work (omega (arith, L.laid.fits, L.laid.inside)) (omega (arith, L.laid.fits, L.laid.inside)) (λ i h. f (l.at + i) (omega (arith, L.laid.fits))) in
    record {
      laid = laid_on bytes work words c l st L.laid work' words st e ahead (subst (λ (xs : List ℕ). Stored xs words st) (sym index) L.laid.index);
      right = λ P r p. subst (LiftsRight P) (sym (lifted_same work work' words l st words_same)) (L.right P (reads_back bytes work work' c (laid_same bytes work words c l st L.laid work' e ahead) L.laid.held.cataloged P r) p);
    }

-- ---- a key interned
-- the store's index stands in work
pub record Indexed (work words : List ℕ) (l : Lifted) (st : Store) : Type 0 where
  pub fits : index_at l ≤ l.end
  pub inside : l.end ≤ length work
  pub index : Stored (index_in work l) words st

-- what `intern_key` answers: the definition's number and store, with its words written, and what was lifted is still; or short
abbrev pub Interns : List ℕ → List ℕ → List ℕ → List ℕ → Lifted → Store → List ℕ → Option (Pattern × Store) → Type 0
Interns work words work' words' l st key (Some (p, st')) =
    ((bytes : List ℕ) (c : Catalog) → Lifts bytes work words c l st → Lifts bytes work' words' c l st')
    × (intern (nodes words st) (node_with key) ≡ stored p.0 (nodes words' st'))
    × (words' ≡ written (nodes words' st') words)
    × Apart work work' l
Interns work words work' words' l st key None =
    (length words < length (pattern_words (intern (nodes words st) (node_with key)).store))
    × Apart work work' l

-- a number of the store, and one, is a word
pub number_fits : (idx words : List ℕ) (st : Store) (p : ℕ) → Stored idx words st → p < length (nodes words st) → p + 1 < 4294967296
number_fits idx words st p S h = omega (arith, words-most (nodes words st), begins_long (nodes words st) words S.placed.begins, S.placed.enough.small)

module _ (work words : List ℕ) (l : Lifted) (st : Store) (X : Indexed work words l st) (idx words' key : List ℕ) (long : length idx ≡ length (index_in work l)) where
  -- the words when the index has come back
  abbrev back : List ℕ
  back = put (index_at l) (l.end - index_at l) idx work

  -- the index stands within
  fit : index_at l + (l.end - index_at l) ≤ length work
  fit = omega (arith, X.fits, X.inside)

  -- it is as long as it was
  many : length idx ≡ l.end - index_at l
  many = long ∙ length_part (index_at l) (l.end - index_at l) work fit

  -- and so are the words
  back_long : length back ≡ length work
  back_long = length-put (index_at l) (l.end - index_at l) work fit idx many

  -- nothing before it has changed
  back-before : (i : ℕ) → i < index_at l → get_or back i 0 ≡ get_or work i 0
  back-before i h = put-before (index_at l) (l.end - index_at l) work fit idx many i h

  -- nor outside of lifting's words
  back_apart : Apart work back l
  back_apart = record {
    long = back_long;
    ahead = λ i h. back-before i (omega arith);
    behind = λ i h. put-behind (index_at l) (l.end - index_at l) work fit idx many i (omega (arith, X.fits));
  }

  -- there is no room
  interns_short : Answer (index_in work l) words idx words' st key None → Interns work words back words' l st key None
  interns_short A = (A.0, back_apart)

  -- there is
  interns_id : (p : Pattern) (st' : Store) → Answer (index_in work l) words idx words' st key (Some (p, st')) → Interns work words back words' l st key (Some (p, st'))
  unfolding lifted_in
  interns_id p st' A =
      let o = intern (nodes words st) (node_with key) in
      let grows : Grows (nodes words st) (nodes words' st') = subst (λ (t : List _). Grows (nodes words st) t) (sym A.1) (interned (nodes words st) (node_with key)).grows in
      let index : index_in back l ≡ idx = part-put (index_at l) (l.end - index_at l) work fit idx many in
      let same : marks back l ≡ marks work l = part-put-before (index_at l) (l.end - index_at l) work fit idx many l.at l.nodes (omega arith) in (
        (λ bytes c L.
            let ahead : (i : ℕ) → i < l.at → get_or back i 0 ≡ get_or work i 0 = λ i h. back-before i (omega arith) in
            record {
              laid = laid_on bytes work words c l st L.laid back words' st' back_long ahead (subst (λ (xs : List ℕ). Stored xs words' st') (sym index) A.3);
              right = λ P r q n v e. lift_again (tree_of P n) (nodes words st) (nodes words' st') v grows
                  (L.right P (reads_back bytes work back c (laid_same bytes work words c l st L.laid back back_long ahead) L.laid.held.cataloged P r) q n v (ap (λ (ws : List ℕ). value_of n (memo_from 0 ws)) (sym same) ∙ e));
            }),
        ap₂ stored (sym A.0) (sym A.1),
        A.2 ∙ ap (λ (s : List _). written s words) (sym A.1),
        back_apart,
      )

  -- either way
  pub interns : (r : Option (Pattern × Store)) → Answer (index_in work l) words idx words' st key r → Interns work words back words' l st key r
  interns (Some (p, st')) A = interns_id p st' A
  interns None A = interns_short A
