-- What writing leaves of the tables, the nodes' words cleared, and one node lifted.
use Rattle.std.specs.Prelude.{Some, None}
use Rattle.std.specs.Prelude.{◌≡◌, refl, eqb, ltb, length, set, take, drop, replicate}
use Rattle.std.proofs.Math.Path.{sym, ap, subst}
use Rattle.std.proofs.Common.{ap₂, ◌∙◌, arith, eqb-true, length-set}
use Rattle.std.proofs.Math.Bool.{true, false}
use mathlib.Core.List.{List, [], ◌∷◌, map}
use Rattle.std.proofs.Math.Option.{some}
use Prim.Native.Nat.{ℕ, suc, ◌+◌, ◌-◌, ◌≤◌, ◌<◌}
use Rattle.std.proofs.Math.Numerals.{add-one}
use Rattle.std.proofs.lemmas.Bool.{eqb-false}
use Rattle.std.proofs.Math.ListN.{get_or, get_or-eq_default}
use Rattle.std.proofs.lemmas.List.{length-replicate, get_or-replicate}
use Rattle.std.proofs.Math.Seq.{get_or-set_same, get_or-set_other}
use Rattle.definition.specs.Test.{is, see, never, tests}
use Rattle.definition.specs.Pack.{Node, Pack, node_of}
use Rattle.definition.specs.Good.{Below}
use Rattle.definition.specs.Verdict.{value_of}
use Rattle.definition.specs.Store.{Stored as Placing, intern}
use Rattle.definition.specs.Analysis.{copied}
use Rattle.theory.specs.Patterns.Interned.{interned}
use Rattle.theory.specs.Walks.Again.{headed}
use Rattle.theory.specs.Walks.Lifting.{args_of, over, lift_node, args_inside}
use Rattle.base.specs.Outside.{Outside, outside_put}
use Rattle.base.specs.Part.{put, length_part, part-lent, part-set, part-set-before, part-put, length-put, put-before, put-behind, put-lent, part-put-before, part-put-behind}
use Rattle.store.specs.Words.{node_with, node_of_law, begins_long, words-most}
use Rattle.store.specs.Stored.{Stored, nodes, written, Answer}
use Rattle.store.specs.declared.nodes.Store.{Store}
use Rattle.base.specs.declared.id.Pattern.{Pattern}
use Rattle.pack_tables.specs.Catalog.{records_of}
use Rattle.pack_tables.specs.SameTables.{Same, same-records}
use Rattle.pack_tables.specs.declared.catalog.Catalog.{Catalog}
use Rattle.pack_read.specs.Reads.{Reads, length-nodes}
use Rattle.pack_read.specs.Held.{Proper, held_on}
use Rattle.term_lift.specs.Lifts.{stack_at, index_at, marks, index_in, lifted_in, Laid, Clears, Ripe, Keyed, pattern_in, Finishes}
use Rattle.term_lift.specs.Memo.{said, value-word, copied-word}
use Rattle.term_lift.specs.Keys.{ripe_given}
use Rattle.term_lift.specs.declared.lift.Lifted.{Lifted}

module _ (bytes work words : List ℕ) (c : Catalog) (l : Lifted) (st : Store) (L : Laid bytes work words c l st) where
  -- what is written behind the pack's tables leaves them
  pub laid_same : (work' : List ℕ) → length work' ≡ length work → ((i : ℕ) → i < l.at → get_or work' i 0 ≡ get_or work i 0) → Same work work' c
  laid_same work' e f = record { long = e; words = λ i h. f i (omega (arith, L.behind)) }

  -- and the layout, if the index holds a store
  pub laid_on : (work' words' : List ℕ) (st' : Store) → length work' ≡ length work → ((i : ℕ) → i < l.at → get_or work' i 0 ≡ get_or work i 0) → Stored (index_in work' l) words' st' → Laid bytes work' words' c l st'
  laid_on work' words' st' e f s =
      let S = laid_same work' e f in
      record {
        held = held_on bytes work work' c S L.held;
        behind = L.behind;
        many = L.many ∙ ap length (sym (same-records work work' c S L.held.cataloged.fits 3 (omega arith)));
        fits = L.fits;
        inside = omega (arith, L.inside);
        index = s;
      }

-- ---- the nodes' words cleared
module _ (work : List ℕ) (l : Lifted) (fits : stack_at l ≤ length work) (zs : List ℕ) (z : zs ≡ replicate (length (take (stack_at l - l.at) (drop l.at work))) 0) where
  -- the words afterwards
  abbrev after : List ℕ
  after = put l.at (stack_at l - l.at) zs work

  -- as many zeros as nodes
  zeros : zs ≡ replicate l.nodes 0
  zeros = z ∙ ap (λ (k : ℕ). replicate k 0) (ap length (part-lent l.at (stack_at l) l.nodes work refl) ∙ length_part l.at l.nodes work fits)

  -- so many
  many-zeros : length zs ≡ l.nodes
  many-zeros = ap length zeros ∙ length-replicate l.nodes 0

  -- they stand in the nodes' place
  as_put : after ≡ put l.at l.nodes zs work
  as_put = put-lent l.at (stack_at l) l.nodes work zs zs refl refl

  -- nothing else has changed
  frame : Outside l.at (stack_at l) work after
  frame = subst (λ (xs : List ℕ). Outside l.at (stack_at l) work xs) (sym as_put) (outside_put l.at l.nodes work zs fits many-zeros)

  -- the nodes' words are these zeros
  marks_zero : marks after l ≡ zs
  marks_zero = ap (λ (xs : List ℕ). marks xs l) as_put ∙ part-put l.at l.nodes work fits zs many-zeros

  -- no word says anything
  no_mark : (n : ℕ) → get_or zs n 0 ≡ 0
  no_mark n = elim (see (ltb n l.nodes)) [
    | is true h ↦ ap (λ (xs : List ℕ). get_or xs n 0) zeros ∙ get_or-replicate {A = ℕ} l.nodes n 0 0 (omega tests)
    | is false h ↦ get_or-eq_default zs 0 {n = n} (omega (tests, many-zeros))
  ]

  -- so nothing is lifted
  pub cleared : Clears work after l
  cleared = record {
    frame = frame;
    lifts = λ bytes words c st L.
        let e : index_in after l ≡ index_in work l = ap (λ (xs : List ℕ). index_in xs l) as_put ∙ part-put-behind l.at l.nodes work fits zs many-zeros (index_at l) (l.end - index_at l) (omega arith) (omega (arith, L.fits, L.inside)) in
        record {
          laid = laid_on bytes work words c l st L after words st frame.long frame.ahead (subst (λ (xs : List ℕ). Stored xs words st) (sym e) L.index);
          right = λ P r p n q v.
              let w = value-word after words l st n ∙ ap (λ (xs : List ℕ). said (get_or xs n 0)) marks_zero ∙ ap said (no_mark n) in
              never (cc);
        };
  }

-- ---- one node lifted
-- arguments that are nodes were lifted to what their words say
copied-words : (work words : List ℕ) (l : Lifted) (st : Store) (xs : List ℕ) → Below l.nodes xs → map (copied (lifted_in work words l st).memo) xs ≡ map (pattern_in work l) xs
copied-words work words l st [] b = refl
copied-words work words l st (x ∷ xs) b = ap₂ ◌∷◌ (copied-word work words l st x b.0) (copied-words work words l st xs b.1)

module _ (bytes work words : List ℕ) (c : Catalog) (l : Lifted) (st : Store) (n : ℕ) (L : Laid bytes work words c l st) (R : Ripe bytes work c l n) (key : List ℕ) (k : ℕ) (K : Keyed bytes work c l n key k) where
  -- the key as it is lent
  abbrev lent : List ℕ
  lent = take (k - 0) (drop 0 key)

  -- the head, and what the arguments were lifted to
  lent-words : (P : Pack) → Reads bytes (records_of work c) P → Proper P → lent ≡ (node_of P n).head ∷ map (pattern_in work l) (args_of P n)
  lent-words P r p = let e : k - 0 ≡ k = omega arith in ap (λ (j : ℕ). take j key) e ∙ K.words P r p

  -- some words
  pub key_some : 0 < length lent
  key_some = omega (arith, ap length (lent-words L.held.pack L.held.reads L.held.proper))

  -- it is the node's over its lifted arguments
  key-over : (P : Pack) → Reads bytes (records_of work c) P → Proper P → node_with lent ≡ over P (lifted_in work words l st).memo n
  unfolding over
  key-over P r p =
      let m = R.many ∙ sym (length-nodes bytes (records_of work c) P r) in
      let b : Below l.nodes (args_of P n) = subst (λ (d : ℕ). Below d (args_of P n)) (sym m) (args_inside P p.good n (ripe_given bytes work c l n R P r)) in
      ap node_with (lent-words P r p) ∙ node_of_law (headed (node_of P n).head (map (pattern_in work l) (args_of P n)))
      ∙ ap (headed (node_of P n).head) (sym (copied-words work words l st (args_of P n) b))

  -- what interning it makes of the store is what lifting the node does
  made : (P : Pack) → Reads bytes (records_of work c) P → Proper P → intern (nodes words st) (node_with lent) ≡ intern (lifted_in work words l st).store (over P (lifted_in work words l st).memo n)
  unfolding lifted_in
  made P r p = ap (intern (nodes words st)) (key-over P r p)

  module _ (idx words' : List ℕ) (long : length idx ≡ length (index_in work l)) where
    -- the words when the index has come back
    abbrev back : List ℕ
    back = put (index_at l) (l.end - index_at l) idx work

    -- the index stands within
    fit : index_at l + (l.end - index_at l) ≤ length work
    fit = omega (arith, L.fits, L.inside)

    -- it is as long as it was
    many : length idx ≡ l.end - index_at l
    many = long ∙ length_part (index_at l) (l.end - index_at l) work fit

    -- and so are the words
    back_long : length back ≡ length work
    back_long = length-put (index_at l) (l.end - index_at l) work fit idx many

    -- nothing before it has changed
    back-before : (i : ℕ) → i < index_at l → get_or back i 0 ≡ get_or work i 0
    back-before i h = put-before (index_at l) (l.end - index_at l) work fit idx many i h

    -- nor behind it
    back-behind : (i : ℕ) → l.end ≤ i → get_or back i 0 ≡ get_or work i 0
    back-behind i h = put-behind (index_at l) (l.end - index_at l) work fit idx many i (omega (arith, L.fits))

    -- the node's word stands in it
    pub back_inside : l.at + n < length back
    back_inside = omega (arith, back_long, R.given, R.inside)

    -- there is no room
    pub finish_short : Answer (index_in work l) words idx words' st lent None → Finishes bytes work words back words' c l st n None
    unfolding lift_node
    finish_short A = (
      record { long = back_long; ahead = λ i h. back-before i (omega arith); behind = back-behind },
      λ P r p. rw (← made P r p) A.0,
    )

    module _ (p : Pattern) (st' : Store) (A : Answer (index_in work l) words idx words' st lent (Some (p, st'))) where
      -- the words with the node's own written
      abbrev last : List ℕ
      last = set back (l.at + n) (p.0 + 1)

      -- no other has changed
      last-other : (i : ℕ) → (i ≡ l.at + n → ⊥) → get_or last i 0 ≡ get_or back i 0
      last-other i h = get_or-set_other back (l.at + n) i (p.0 + 1) 0 h

      -- they are as many
      last_long : length last ≡ length work
      last_long = length-set back (l.at + n) (p.0 + 1) ∙ back_long

      -- nothing ahead has changed
      last-ahead : (i : ℕ) → i < l.at → get_or last i 0 ≡ get_or work i 0
      last-ahead i h = last-other i (λ e. absurd (omega arith)) ∙ back-before i (omega arith)

      -- the index is what came back
      last_index : index_in last l ≡ idx
      last_index = part-set-before (index_at l) (l.end - index_at l) back (l.at + n) (p.0 + 1) (omega (arith, R.given)) ∙ part-put (index_at l) (l.end - index_at l) work fit idx many

      -- the nodes' words have one more
      last-marks : marks last l ≡ set (marks work l) n (p.0 + 1)
      last-marks =
          part-set l.at l.nodes back n (p.0 + 1) R.given
          ∙ ap (λ (xs : List ℕ). set xs n (p.0 + 1)) (part-put-before (index_at l) (l.end - index_at l) work fit idx many l.at l.nodes (omega arith))

      -- the number fits
      pub number_small : p.0 + 1 < 4294967296
      number_small =
          let i = (interned (nodes words st) (node_with lent)).within in
          let e = A.1 in
          let b = A.3.placed in
          omega (arith, A.0, ap length e, words-most (nodes words' st'), begins_long (nodes words' st') words' b.begins, b.enough.small)

      -- the node is lifted
      pub finish_id : Finishes bytes work words last words' c l st n (Some (p, st'))
      unfolding lift_node value_of lifted_in
      finish_id = (
        laid_on bytes work words c l st L last words' st' last_long last-ahead (subst (λ (xs : List ℕ). Stored xs words' st') (sym last_index) A.3),
        record { long = last_long; ahead = last-ahead; behind = λ i h. last-other i (λ e. absurd (omega (arith, R.given, L.fits))) ∙ back-behind i h },
        λ i h j. last-other i (λ e. absurd (omega (arith, R.given))) ∙ back-before i j,
        A.2 ∙ ap (λ (s : List Node). written s words) (sym A.1),
        λ P r q. record {
          store = A.1 ∙ ap (λ (x : Placing). x.store) (made P r q);
          memo = λ m.
              let s = lifted_in work words l st in
              let w = value-word last words' l st' m ∙ ap (λ (xs : List ℕ). said (get_or xs m 0)) last-marks in
              elim (see (eqb n m)) [
                | is true e ↦
                    let f : m ≡ n = sym (eqb-true n m e) in
                    let g : get_or (set (marks work l) n (p.0 + 1)) m 0 ≡ suc p.0 = ap (λ (j : ℕ). get_or (set (marks work l) n (p.0 + 1)) j 0) f ∙ get_or-set_same (marks work l) n (p.0 + 1) 0 (omega (arith, R.given, length_part l.at l.nodes work (omega (arith, R.inside)))) ∙ add-one p.0 in
                    rw (e, value_of) (w ∙ ap said g ∙ ap some (A.0 ∙ ap (λ (x : Placing). x.number) (made P r q)))
                | is false e ↦
                    let g : get_or (set (marks work l) n (p.0 + 1)) m 0 ≡ get_or (marks work l) m 0 = get_or-set_other (marks work l) n m (p.0 + 1) 0 (λ f. absurd (eqb-false n m e (sym f))) in
                    rw (e, value_of) (w ∙ ap said g ∙ sym (value-word work words l st m))
              ];
        },
      )
