-- What a rule's premises come to in the lengths lent.
use Rattle.std.specs.Prelude.{◌≡◌, true, false, List, [], ◌∷◌, ℕ, ◌≤◌, ◌<◌, eqb, length}
use Rattle.std.proofs.Common.{sym, ap, ◌∙◌, arith, le-leb, eqb-true}
use Rattle.std.proofs.Math.Option.{Option, none, some}
use Rattle.std.proofs.lemmas.Bool.{lt-leb}
use Rattle.definition.specs.Test.{is, see}
use Rattle.definition.specs.Pack.{Node, rule_of}
use Rattle.definition.specs.Frame.{Read, fine, refuse}
use Rattle.definition.specs.Answer.{Lent}
use Rattle.definition.specs.Verdict.{Bound}
use Rattle.definition.specs.Store.{pattern_words}
use Rattle.definition.specs.Run.{Note, done, behind, ◌>>=◌ as ◌>>=r◌, length_of, has_room_for, first_short, outcome}
use Rattle.definition.specs.declared.Refusal.TheVariants.{Short}
use Rattle.emission.specs.State.{Emitter, Setting, Tried, grown_to, having_store}
use Rattle.emission.specs.Patterns.{build_all}
use Rattle.emission.specs.Prove.{premises}
use Rattle.theory.specs.Patterns.Interned.{Grows}
use Rattle.emit_theory.specs.Came.{came}
use Rattle.emit_theory.specs.Outcomes.{outcome_quiet}
use Rattle.emit_theory.specs.Again.Premises.{same_length, grown_itself, matched, premises-none, premises_some}
use Rattle.emit_state.specs.Holding.{lost}
use Rattle.emit_premises.specs.Open.{built_all}

-- the patterns' words are written
abbrev noted : List Node → Note
noted s = record { buffer = 2; fill = length (pattern_words s) }

-- a store with more nodes is written
grown-more : (e : Emitter) (s : List Node) → eqb (length s) (length e.kept.store) ≡ false → grown_to s e ≡ came (noted s ∷ []) (some tt) (having_store s e)
unfolding grown_to ◌>>=r◌ behind
grown-more e s t = rw (t, grown_to)

-- one write that has room
one_fine : {A : Type 0} (l : Lent) (s : List Node) (a : A) → length (pattern_words s) ≤ l.pattern → outcome l (done (noted s ∷ []) a) ≡ fine a
unfolding outcome first_short has_room_for length_of
one_fine l s a h = rw (le-leb (length (pattern_words s)) l.pattern h, outcome)

-- one that has none
one_short : {A : Type 0} (l : Lent) (s : List Node) (a : A) → l.pattern < length (pattern_words s) → outcome l (done (noted s ∷ []) a) ≡ refuse (Short 2)
unfolding outcome first_short has_room_for length_of
one_short l s a h = rw (lt-leb (length (pattern_words s)) l.pattern h, outcome)

module _ (S : Setting) (r j : ℕ) (e : Emitter) (l : Lent) where
  -- the conclusion does not match
  pub premises-lost : matched S r j e ≡ none → outcome l (premises S r j e) ≡ lost e
  premises-lost h = ap (outcome l) (premises-none S r j e h) ∙ outcome_quiet l (record { result = none; state = e })

  module _ (env : List Bound) (h : matched S r j e ≡ some env) (o : Option (List ℕ)) (s : List Node) (k : build_all (rule_of S.pack r).premises env e.kept.store ≡ built_all o s) (G : Grows e.kept.store s) where
    -- there is a node more
    wrote : eqb (length s) (length e.kept.store) ≡ false → premises S r j e ≡ came (noted s ∷ []) o (having_store s e)
    wrote t = premises_some S r j e (having_store s e) env (built_all o s) (noted s ∷ []) h k (grown-more e s t)

    -- there is none
    same : eqb (length s) (length e.kept.store) ≡ true → s ≡ e.kept.store
    same t = same_length e.kept.store s G (eqb-true (length s) (length e.kept.store) t)

    -- then nothing is written
    quiet : eqb (length s) (length e.kept.store) ≡ true → premises S r j e ≡ came [] o (having_store s e)
    quiet t =
        premises_some S r j e e env (built_all o s) [] h k (ap (λ (x : List Node). grown_to x e) (same t) ∙ grown_itself e)
        ∙ ap (λ (x : List Node). came [] o (having_store x e)) (sym (same t))

    -- the patterns have room
    pub premises_fine : length (pattern_words s) ≤ l.pattern → ◌≡◌ {A = Read (Tried (List ℕ))} (outcome l (premises S r j e)) (fine (record { result = o; state = having_store s e }))
    premises_fine fits = elim (see (eqb (length s) (length e.kept.store))) [
      | is true t ↦ ap (outcome l) (quiet t) ∙ outcome_quiet l (record { result = o; state = having_store s e })
      | is false t ↦ ap (outcome l) (wrote t) ∙ one_fine l s (record { result = o; state = having_store s e }) fits
    ]

    -- they have none, as they had before
    pub premises_short : l.pattern < length (pattern_words s) → length (pattern_words e.kept.store) ≤ l.pattern → outcome l (premises S r j e) ≡ refuse (Short 2)
    premises_short more had = elim (see (eqb (length s) (length e.kept.store))) [
      | is true t ↦ absurd (omega (arith, more, had, ap (λ (x : List Node). length (pattern_words x)) (same t)))
      | is false t ↦ ap (outcome l) (wrote t) ∙ one_short l s (record { result = o; state = having_store s e }) more
    ]
