-- The first step of each judgment: from a place in work on, a word for each ground node that a step has as its judgment.
use Rattle.std.specs.Prelude.{◌≡◌, true, false, List, ℕ, suc, ◌+◌, ◌≤◌, ◌<◌, length, get_or, set, drop}
use Rattle.std.proofs.Math.Path.{sym}
use Rattle.std.proofs.Common.{ap, ◌∙◌, subst, arith, eq-eqb, ne_eqb, drop-cons, get_or-set_same, get_or-set_other}
use Rattle.std.proofs.Math.Decide.{ℕ_discrete}
use Rattle.definition.specs.Pack.{Pack, no_step, step_of}
use Rattle.definition.specs.Keys.{first_with, first_of, predicate_of, is_a_cut}
use Rattle.theory.specs.Keys.Needed.{first-earlier}
use Rattle.base.specs.Outside.{Outside, outside_none, outside_then, outside_set}
use Rattle.base.specs.Upto.{Upto, upto_outside}
use Rattle.pack_tables.specs.Catalog.{records_of, records_few}
use Rattle.pack_tables.specs.SameTables.{Same, same-records}
use Rattle.pack_tables.specs.declared.catalog.Catalog.{Catalog}
use Rattle.pack_read.specs.Reads.{Reads, length_symbols, length-nodes, length_steps}
use Rattle.pack_read.specs.Held.{Proper, Held, OfHeld, held_on, reads_on, reads_back}
use Rattle.pack_read.specs.Says.{OfPack}
use Rattle.pack_reader.specs.Marks.{marks_at, mark_of, Marks, marked-cut, unmarked_cut}
use Rattle.class_keys.specs.Upto.{upto_same, upto_marks}

-- the words from `at` on say it
pub record Firsts (P : Pack) (work : List ℕ) (at : ℕ) : Type 0 where
  pub first : (s : ℕ) → s < length P.steps → get_or work (at + (step_of P s).judgment) 0 ≡ first_of P s

-- the pack is held, with the marks of its cut predicates, and behind them there is a word for each ground node
pub record Placed (bytes work : List ℕ) (c : Catalog) (at : ℕ) : Type 0 where
  pub held : Held bytes work c
  pub marks : Marks bytes work c
  pub behind : marks_at c + c.cap ≤ at
  pub room : at + length (records_of work c 3) ≤ length work

-- and these words say the first steps
pub record Noted (bytes work : List ℕ) (c : Catalog) (at : ℕ) : Type 0 where
  pub placed : Placed bytes work c at
  pub firsts : OfHeld bytes work c (λ P. Firsts P work at)

-- ---- what is left when words elsewhere are written
module _ (bytes work work' : List ℕ) (c : Catalog) (at : ℕ) (p : Placed bytes work c at) (U : Upto at work work') where
  -- the tables are as they were
  abbrev same : Same work work' c
  same = upto_same at work work' c U (omega (arith, p.behind))

  -- there are as many records
  pub placed-many : (k : ℕ) → k < 9 → length (records_of work' c k) ≡ length (records_of work c k)
  placed-many k h = ap length (same-records work work' c same p.held.cataloged.fits k h)

  -- words behind `at`
  pub placed_on : Placed bytes work' c at
  placed_on = record {
    held = held_on bytes work work' c same p.held;
    marks = upto_marks at work work' c U bytes p.behind p.held.cataloged.fits p.marks;
    behind = p.behind;
    room = omega (arith, p.room, placed-many 3 (omega arith), U.long);
  }

  -- the pack is the same one
  pub placed_reads : (P : Pack) → Reads bytes (records_of work c) P → Reads bytes (records_of work' c) P
  placed_reads P R = reads_on bytes work work' c same p.held.cataloged P R

  -- and the other way
  pub placed-back : (P : Pack) → Reads bytes (records_of work' c) P → Reads bytes (records_of work c) P
  placed-back P R = reads_back bytes work work' c same p.held.cataloged P R

-- ---- a pack's steps
module _ (P : Pack) (Q : Proper P) (s : ℕ) (h : s < length P.steps) where
  -- a step's judgment is a node
  pub judgment-given : (step_of P s).judgment < length P.nodes
  judgment-given = (Q.good.steps s h).judgment.given

  -- its first step is a step
  pub first-given : first_of P s < length P.steps
  first-given = omega (arith, first-earlier P s h, h)

-- ---- what is read of a step
module _ (bytes work : List ℕ) (c : Catalog) (H : Held bytes work c) (s : ℕ) (h : s < length (records_of work c 4)) where
  -- it is a step of the pack
  pub step_given : (P : Pack) → Reads bytes (records_of work c) P → s < length P.steps
  step_given P R = omega (arith, h, length_steps bytes (records_of work c) P R)

  -- its judgment is a node
  pub judgment_inside : (j : ℕ) → OfPack bytes work c (λ P. (step_of P s).judgment) j → j < length (records_of work c 3)
  judgment_inside j f = omega (arith, f H.pack H.reads, judgment-given H.pack H.proper s (step_given H.pack H.reads), length-nodes bytes (records_of work c) H.pack H.reads)

  -- the predicate of its judgment is a symbol
  pub predicate_inside : (p : ℕ) → OfHeld bytes work c (λ P. p ≡ predicate_of P s) → p < c.cap
  unfolding predicate_of
  predicate_inside p f =
      let P = H.pack in
      omega (arith, f P H.reads H.proper, (H.proper.good.nodes (step_of P s).judgment (judgment-given P H.proper s (step_given P H.reads))).head, length_symbols bytes (records_of work c) P H.reads, records_few bytes work c 1 H.cataloged (omega arith))

  -- whether it is cut, by the mark of that predicate
  module _ (M : Marks bytes work c) (p : ℕ) (f : OfHeld bytes work c (λ P. p ≡ predicate_of P s)) (m : ℕ) (e : m ≡ mark_of work c p) where
    -- no mark: it is not
    pub not-cut : m ≡ 0 → OfHeld bytes work c (λ P. false ≡ is_a_cut P (predicate_of P s))
    unfolding is_a_cut
    not-cut z = λ P R Q. sym (ap (is_a_cut P) (sym (f P R Q)) ∙ unmarked_cut bytes work c M P R p (predicate_inside p f) (sym e ∙ z))

    -- a mark: it is
    pub is_cut : (m ≡ 0 → ⊥) → OfHeld bytes work c (λ P. true ≡ is_a_cut P (predicate_of P s))
    unfolding is_a_cut
    is_cut d = λ P R Q. sym (ap (is_a_cut P) (sym (f P R Q)) ∙ marked-cut bytes work c M P R p (predicate_inside p f) (omega (arith, e, d)))

-- the word of its judgment says its first step
module _ (bytes work : List ℕ) (c : Catalog) (at : ℕ) (N : Noted bytes work c at) (s : ℕ) (h : s < length (records_of work c 4)) (j : ℕ) (f : OfPack bytes work c (λ P. (step_of P s).judgment) j) where
  -- it is there
  pub word_inside : at + j < length work
  word_inside = omega (arith, judgment_inside bytes work c N.placed.held s h j f, N.placed.room)

  -- it is the first step
  pub word_first : OfHeld bytes work c (λ P. get_or work (at + j) 0 ≡ first_of P s)
  word_first = λ P R Q. ap (λ (i : ℕ). get_or work (at + i) 0) (f P R) ∙ (N.firsts P R Q).first s (omega (arith, h, length_steps bytes (records_of work c) P R))

-- words behind those of the nodes leave the first steps
pub firsts_on : (P : Pack) → Proper P → (work work' : List ℕ) (at e : ℕ) → at + length P.nodes ≤ e → Upto e work work' → Firsts P work at → Firsts P work' at
firsts_on P Q work work' at e h U F = record { first = λ s l. U.words (at + (step_of P s).judgment) (omega (arith, judgment-given P Q s l)) ∙ F.first s l }

-- in whatever pack is held
pub noted_on : (bytes work work' : List ℕ) (c : Catalog) (at e : ℕ) → at + length (records_of work c 3) ≤ e → Upto e work work' → Noted bytes work c at → Noted bytes work' c at
noted_on bytes work work' c at e h U N =
    let W : Upto at work work' = record { long = U.long; words = λ i l. U.words i (omega arith) } in
    record {
      placed = placed_on bytes work work' c at N.placed W;
      firsts = λ P R Q.
          let r = placed-back bytes work work' c at N.placed W P R in
          firsts_on P Q work work' at e (omega (arith, length-nodes bytes (records_of work c) P r)) U (N.firsts P r Q);
    }

-- ---- the first step from s on
-- step s has the judgment
from_here : (P : Pack) (j s : ℕ) → s < length P.steps → (step_of P s).judgment ≡ j → first_with j (drop s P.steps) s ≡ s
unfolding first_with step_of
from_here P j s h e = rw (drop-cons P.steps s no_step h, first_with, eq-eqb (get_or P.steps s no_step).judgment j e)

-- step s has another judgment
from_past : (P : Pack) (j s : ℕ) → s < length P.steps → ((step_of P s).judgment ≡ j → ⊥) → first_with j (drop s P.steps) s ≡ first_with j (drop (suc s) P.steps) (suc s)
unfolding first_with step_of
from_past P j s h d = rw (drop-cons P.steps s no_step h, first_with, ne_eqb (get_or P.steps s no_step).judgment j d)

-- the words of the steps from s on are right as far as these steps go
abbrev pub From : Pack → List ℕ → ℕ → ℕ → Type 0
From P work at s = (t : ℕ) → s ≤ t → t < length P.steps → get_or work (at + (step_of P t).judgment) 0 ≡ first_with (step_of P t).judgment (drop s P.steps) s

-- one step earlier
from_more : (P : Pack) (work : List ℕ) (at s : ℕ) → s < length P.steps → at + (step_of P s).judgment < length work → From P work at (suc s) → From P (set work (at + (step_of P s).judgment) s) at s
from_more P work at s h l F t a b = elim (ℕ_discrete (step_of P s).judgment (step_of P t).judgment) [
  | yes e ↦ ap (λ (j : ℕ). get_or (set work (at + (step_of P s).judgment) s) (at + j) 0) (sym e) ∙ get_or-set_same work (at + (step_of P s).judgment) s 0 l ∙ sym (from_here P (step_of P t).judgment s h e)
  | no d ↦
      let q : suc s ≤ t = elim (ℕ_discrete s t) [ yes e ↦ absurd (d (ap (λ (i : ℕ). (step_of P i).judgment) e)) | no n ↦ omega arith ] in
      get_or-set_other work (at + (step_of P s).judgment) (at + (step_of P t).judgment) s 0 (λ e. d (omega (arith, e)))
      ∙ F t q b ∙ sym (from_past P (step_of P t).judgment s h d)
]

-- all of them
from_all : (P : Pack) (work : List ℕ) (at : ℕ) → From P work at 0 → Firsts P work at
unfolding first_of
from_all P work at F = record { first = λ s h. F s (omega arith) h }

-- ---- the walk from the last step down
pub record Noting (bytes work : List ℕ) (c : Catalog) (at s : ℕ) (work' : List ℕ) : Type 0 where
  pub left : s ≤ length (records_of work c 4)
  pub outside : Outside at (at + length (records_of work c 3)) work work'
  pub from : OfHeld bytes work c (λ P. From P work' at s)

module _ (bytes work : List ℕ) (c : Catalog) (at : ℕ) (p : Placed bytes work c at) where
  -- none yet
  pub noting-none : (s : ℕ) → s ≡ length (records_of work c 4) → Noting bytes work c at s work
  noting-none s e = record {
    left = omega arith;
    outside = outside_none at (at + length (records_of work c 3)) work;
    from = λ P R Q t a b. absurd (omega (arith, length_steps bytes (records_of work c) P R));
  }

  module _ (s : ℕ) (work' : List ℕ) (N : Noting bytes work c at s work') where
    -- words ahead of the nodes' are as they were
    abbrev up : Upto at work work'
    up = upto_outside at at (at + length (records_of work c 3)) work work' (omega arith) N.outside

    -- the pack is still held
    pub noting-placed : Placed bytes work' c at
    noting-placed = placed_on bytes work work' c at p up

    -- a step before the ones gone over
    pub noting-left : (t : ℕ) → s ≡ suc t → t < length (records_of work' c 4)
    noting-left t e = omega (arith, N.left, placed-many bytes work work' c at p up 4 (omega arith))

    module _ (t : ℕ) (e : s ≡ suc t) (j : ℕ) (f : OfPack bytes work' c (λ P. (step_of P t).judgment) j) where
      -- the judgment that was read
      judged : (P : Pack) → Reads bytes (records_of work c) P → j ≡ (step_of P t).judgment
      judged P R = f P (placed_reads bytes work work' c at p up P R)

      -- its judgment has a word
      pub noting_inside : at + j < at + length (records_of work c 3)
      noting_inside =
          let H = p.held in
          omega (arith, judged H.pack H.reads, judgment-given H.pack H.proper t (omega (arith, N.left, length_steps bytes (records_of work c) H.pack H.reads)), length-nodes bytes (records_of work c) H.pack H.reads)

      -- in work
      pub noting-room : at + j < length work'
      noting-room = omega (arith, noting_inside, p.room, N.outside.long)

      -- a step is a small number
      pub noting_small : t < 4294967296
      noting_small = omega (arith, N.left, records_few bytes work c 4 p.held.cataloged (omega arith), p.held.cataloged.fits.small)

      -- it is noted
      pub noting-more : Noting bytes work c at t (set work' (at + j) t)
      noting-more = record {
        left = omega (arith, N.left);
        outside = outside_then at (at + length (records_of work c 3)) work work' (set work' (at + j) t) N.outside (outside_set at (at + length (records_of work c 3)) work' (at + j) t (omega arith) noting_inside);
        from = λ P R Q.
            let i = judged P R in
            let h : t < length P.steps = omega (arith, N.left, length_steps bytes (records_of work c) P R) in
            subst (λ (v : ℕ). From P (set work' (at + v) t) at t) (sym i)
            (from_more P work' at t h (omega (arith, noting-room, i)) (subst (λ (v : ℕ). From P work' at v) e (N.from P R Q)));
      }

    -- all of them
    pub noting-all : s ≤ 0 → Noted bytes work' c at
    noting-all z = record {
      placed = noting-placed;
      firsts = λ P R Q.
          let e : s ≡ 0 = omega arith in
          from_all P work' at (subst (λ (v : ℕ). From P work' at v) e (N.from P (placed-back bytes work work' c at p up P R) Q));
    }
