-- What comes of a pattern put for L in the lengths lent.
use Rattle.std.specs.Prelude.{◌≡◌, refl, ℕ, suc, ◌≤◌, ◌<◌, eqb, get_or}
use Rattle.std.proofs.Common.{sym, ◌∙◌, arith, length-append}
use Rattle.std.proofs.Math.Path.{ap}
use Rattle.std.proofs.Math.Bool.{true, false}
use mathlib.Core.List.{List, [], ◌∷◌, append-nil}
use Rattle.std.proofs.Math.Option.{some}
use borrow.Author.Tests.{eqb-true, le-leb, lt-leb}
use Rattle.std.proofs.Math.ListN.{length}
use Rattle.definition.specs.Test.{is, see}
use Rattle.definition.specs.Pack.{Node}
use Rattle.definition.specs.Store.{pattern_words}
use Rattle.definition.specs.Analysis.{StoredAll}
use Rattle.definition.specs.Frame.{refuse}
use Rattle.definition.specs.Answer.{Lent}
use Rattle.definition.specs.Run.{return, length_of, has_room_for, outcome}
use Rattle.definition.specs.declared.Refusal.TheVariants.{Short}
use Rattle.theory.specs.Patterns.Interned.{Grows, with}
use Rattle.theory.specs.Walks.Again.{stored_all}
use Rattle.emission.specs.State.{Emitter, Setting, now, grown_to, having_store}
use Rattle.emission.specs.Patterns.{replace}
use Rattle.emission.specs.Induct.{put_for_l}
use Rattle.emit_theory.specs.Outcomes.{outcome_quiet, outcome-note}
use Rattle.emit_state.specs.Holding.{got}
use Rattle.emit_state.specs.Turns.{then_got, then_refused}

-- a list that has grown by nothing is the same
grown-none : (s t : List Node) → Grows s t → length t ≡ length s → t ≡ s
grown-none s t (with [] e) l = e ∙ append-nil s
grown-none s t (with (n ∷ more) e) l = absurd (omega (arith, ap length e, length-append s (n ∷ more)))

module _ (lent : Lent) where
  -- there is room for so many words
  has_room : (n : ℕ) → n ≤ lent.pattern → has_room_for lent (record { buffer = 2; fill = n }) ≡ true
  unfolding has_room_for length_of
  has_room n h = le-leb n lent.pattern h

  -- there is none
  no_room : (n : ℕ) → lent.pattern < n → has_room_for lent (record { buffer = 2; fill = n }) ≡ false
  unfolding has_room_for length_of
  no_room n h = lt-leb n lent.pattern h

  -- the store has grown, and there was room
  grown-got : (s : List Node) (e : Emitter) → Grows e.kept.store s → length (pattern_words s) ≤ lent.pattern → outcome lent (grown_to s e) ≡ got tt (having_store s e)
  unfolding grown_to
  grown-got s e g h = elim (see (eqb (length s) (length e.kept.store))) [
    | is true t ↦
        let q : s ≡ e.kept.store = grown-none e.kept.store s g (eqb-true (length s) (length e.kept.store) t) in
        rw (t, grown_to) (outcome_quiet lent _ ∙ ap (λ (z : List Node). got tt (having_store z e)) (sym q))
    | is false t ↦
        rw (t, grown_to) (outcome-note lent 2 (length (pattern_words s)) (return (record { result = some tt; state = having_store s e })) ∙ rw (has_room (length (pattern_words s)) h) (outcome_quiet lent _))
  ]

  -- there was none
  grown-refused : (s : List Node) (e : Emitter) → Grows e.kept.store s → length (pattern_words e.kept.store) ≤ lent.pattern → lent.pattern < length (pattern_words s) → outcome lent (grown_to s e) ≡ refuse (Short 2)
  unfolding grown_to
  grown-refused s e g k h = elim (see (eqb (length s) (length e.kept.store))) [
    | is true t ↦
        let q : s ≡ e.kept.store = grown-none e.kept.store s g (eqb-true (length s) (length e.kept.store) t) in
        absurd (omega (arith, ap (λ (z : List Node). length (pattern_words z)) q))
    | is false t ↦
        rw (t, grown_to) (outcome-note lent 2 (length (pattern_words s)) (return (record { result = some tt; state = having_store s e })) ∙ rw (no_room (length (pattern_words s)) h) refl)
  ]

  module _ (S : Setting) (y j : ℕ) (e : Emitter) where
    -- what is replaced
    abbrev pub put : StoredAll
    put = replace (suc j) S.eigen y (j ∷ []) e.kept.store

    -- a pattern, and the store that has it
    pub put-got : (v : ℕ) (s : List Node) → put ≡ stored_all (v ∷ []) s → Grows e.kept.store s → length (pattern_words s) ≤ lent.pattern → outcome lent (put_for_l S y j e) ≡ got v (having_store s e)
    unfolding put_for_l
    put-got v s q g h =
        then_got lent now _ e e e (outcome_quiet lent _)
        ∙ then_got lent (grown_to put.store) _ e tt (having_store s e) (ap (λ (r : StoredAll). outcome lent (grown_to r.store e)) q ∙ grown-got s e g h)
        ∙ outcome_quiet lent _ ∙ ap (λ (r : StoredAll). got (get_or r.numbers 0 0) (having_store s e)) q

    -- a short buffer
    pub put_refused : Grows e.kept.store put.store → length (pattern_words e.kept.store) ≤ lent.pattern → lent.pattern < length (pattern_words put.store) → outcome lent (put_for_l S y j e) ≡ refuse (Short 2)
    unfolding put_for_l
    put_refused g k h = then_got lent now _ e e e (outcome_quiet lent _) ∙ then_refused lent (grown_to put.store) _ e (Short 2) (grown-refused put.store e g k h)
