-- A try at a judgment repeats itself, at its own depth and at every greater one: through its premises, its rules, and by induction over
-- the levels left.
use Rattle.std.specs.Prelude.{◌≡◌, true, false, length}
use Rattle.std.proofs.Math.Path.{refl, sym, ap}
use Rattle.std.proofs.Common.{◌∙◌}
use mathlib.Core.List.{List, [], ◌∷◌, ◌++◌}
use Rattle.std.proofs.Math.Option.{Option, none, some}
use Prim.Native.Nat.{ℕ, zero, suc, ◌+◌, ◌<◌, ◌≤◌}
use native.Mathlib.Omega.{arith}
use Rattle.definition.specs.Test.{is, see}
use Rattle.definition.specs.Pack.{Node, Rule}
use Rattle.definition.specs.Good.{Below, Good, Few}
use Rattle.definition.specs.Verdict.{Bound}
use Rattle.definition.specs.Run.{Note}
use Rattle.emission.specs.State.{Emitter, Setting, Search, ◌>>=◌, ◌or_else◌, give, fail, change}
use Rattle.emission.specs.Words.{pattern_of}
use Rattle.emission.specs.Patterns.{has_head, rules_for}
use Rattle.emission.specs.Prove.{line_of, look_up, keeping, prove_all, by_rule, by_rules, chain, prove}
use Rattle.emit_theory.specs.Came.{came, from-came, or_some, or-none}
use Rattle.emit_theory.specs.Again.IfSome.{if-any}
use Rattle.emit_theory.specs.Again.Later.{text_length, later-line, later_pattern, Fit, FitAll, further_fit, further_fits}
use Rattle.emit_theory.specs.Again.Wrote.{Wrote, wrote_then, wrote_give, wrote_change, wrote_step}
use Rattle.emit_theory.specs.Again.Outcome.{Any, due-nothing, Again, quiet_again, same_again, less_again, wrote_again, fails_again}
use Rattle.emit_theory.specs.Again.Repeats.{then_again, then_wrote, or_again}
use Rattle.emit_theory.specs.Again.Premises.{premises_again}

-- the rules of a predicate are among those that there are
pub rules-given : (p : ℕ) (rs : List Rule) (i n : ℕ) → i + length rs ≤ n → Below n (rules_for p rs i)
unfolding rules_for
rules-given p [] i n h = tt
rules-given p (r ∷ rs) i n h = elim (see (has_head p r.conclusion)) [
  | is true t ↦ rw (t, rules_for) (omega arith, rules-given p rs (suc i) n (omega arith))
  | is false t ↦ rw (t, rules_for) (rules-given p rs (suc i) n (omega arith))
]

-- to fail where another search has failed changes nothing
or-fail : {A : Type 0} (m : Search A) (e e₁ : Emitter) (ns : List Note) (o : Option A) → m e ≡ came ns o e₁ → (m or_else fail) e ≡ came (ns ++ []) o e₁
or-fail m e e₁ ns none h = or-none m fail e e₁ ns [] none e₁ h refl
or-fail m e e₁ ns (some a) h = or_some m fail e e₁ ns a h

module _ (S : Setting) (G : Good S.pack) (W : Few S.pack) where
  -- tries one level deeper, of which the second repeats the first
  abbrev Deeper : (ℕ → Search ℕ) → (ℕ → Search ℕ) → Type 0
  Deeper p p' = (q : ℕ) (e : Emitter) → Fit e.kept.store q → Again S 0 Any (p q) (p' q) e

  module _ {p p' : ℕ → Search ℕ} (D : Deeper p p') where
    -- several judgments
    all_again : (qs : List ℕ) (e : Emitter) → FitAll e.kept.store qs → Again S 0 Any (prove_all p qs) (prove_all p' qs) e
    unfolding prove_all
    all_again [] e fits = quiet_again S (some []) refl tt refl (λ e' l. refl)
    all_again (q ∷ qs) e fits =
        then_again S _ _ (D q e (fits.0, fits.1.0))
        (λ n e₁ _ w. then_again S _ _ (all_again qs e₁ (further_fits qs w (fits.0, fits.1.1)))
        (λ ns e₂ _ _. quiet_again S (some (n ∷ ns)) refl tt refl (λ e' l. refl)))

    module _ (j : ℕ) where
      -- one rule: its results come with the step's line
      rule_again : (r : ℕ) → r < length S.pack.rules → (e : Emitter) → Fit e.kept.store j → Again S 1 Any (by_rule S p j r) (by_rule S p' j r) e
      unfolding by_rule
      rule_again r given e fit =
          then_again S _ _ (premises_again S G W r given j e fit)
          (λ qs e₁ inside w. then_again S _ _ (all_again qs e₁ (w.earlier fit.0, inside))
          (λ refs e₂ _ _. wrote_again S (wrote_step S r refs j e₂)))

      -- the first rule that proves
      rules_again : (rs : List ℕ) → Below (length S.pack.rules) rs → (e : Emitter) → Fit e.kept.store j → Again S 1 Any (by_rules S p j rs) (by_rules S p' j rs) e
      unfolding by_rules
      rules_again [] given e fit = quiet_again S none refl tt refl (λ e' l. refl)
      rules_again (r ∷ rs) given e fit =
          or_again S _ _ (rule_again r given.0 e fit) (λ e₁ w. rules_again rs given.1 e₁ (further_fit j w fit))

      -- the rules are those of the judgment's head, which later states have too
      chain_again : (e : Emitter) → Fit e.kept.store j → Again S 1 Any (chain S p j) (chain S p' j) e
      unfolding chain
      chain_again e fit =
          let rs = rules_for (pattern_of e j).head S.pack.rules 0 in
          same_again S (chain S p j) (chain S p' j) refl (λ e' l. ap (λ (n : Node). by_rules S p' j (rules_for n.head S.pack.rules 0) e') (later_pattern e e' j fit.1 l))
          (rules_again rs (rules-given (pattern_of e j).head S.pack.rules 0 (length S.pack.rules) (omega arith)) e fit)

  module _ (hyps : List Bound) where
    -- a judgment looked up
    look_came : (j : ℕ) (e : Emitter) → look_up hyps j e ≡ came [] (line_of hyps e j) e
    unfolding look_up
    look_came j e = from-came (line_of hyps e j) e

    look_again : (j : ℕ) (e : Emitter) → Again S 0 Any (look_up hyps j) (look_up hyps j) e
    look_again j e =
        let o = line_of hyps e j in
        quiet_again S o (due-nothing o) (if-any (λ n. Any n e.kept.store) (λ n. tt) o) (look_came j e)
        (λ e' l. look_came j e' ∙ ap (λ x. came [] x e') (later-line hyps e e' j l))

    -- to keep a judgment as proved changes neither text nor store
    keeping_text : (hs : List Bound) (j n : ℕ) (e : Emitter) → text_length S (keeping hs j n e) ≡ text_length S e
    unfolding keeping
    keeping_text [] j n e = refl
    keeping_text (h ∷ hs) j n e = refl

    keeping_store : (hs : List Bound) (j n : ℕ) (e : Emitter) → (keeping hs j n e).kept.store ≡ e.kept.store
    unfolding keeping
    keeping_store [] j n e = refl
    keeping_store (h ∷ hs) j n e = refl

    -- what a chained judgment is kept by
    abbrev keep : ℕ → ℕ → Search ℕ
    keep j n = change (keeping hyps j n) >>= λ _. give n

    keep_wrote : (j n : ℕ) (e : Emitter) → Wrote S 0 (keep j n) e
    keep_wrote j n e = wrote_then S 0 0 (wrote_change S (keeping hyps j n) e (keeping_text hyps j n e) (keeping_store hyps j n e)) (λ _ e₁. wrote_give S n e₁)

    -- a judgment chained and kept
    chained_again : {p p' : ℕ → Search ℕ} → Deeper p p' → (j : ℕ) (e : Emitter) → Fit e.kept.store j
        → Again S 1 Any (chain S p j >>= λ n. keep j n) (chain S p' j >>= λ n. keep j n) e
    chained_again D j e fit = then_wrote S _ _ (chain_again D j e fit) (λ n e₁. keep_wrote j n e₁)

    -- with d levels left the first time, and no more the second
    pub prove_again : (d d' : ℕ) → d' ≤ d → (j : ℕ) (e : Emitter) → Fit e.kept.store j → Again S 0 Any (prove d S hyps j) (prove d' S hyps j) e
    unfolding prove
    prove_again zero d' le j e fit = let z : d' ≡ 0 = omega arith in rw z (look_again j e)
    prove_again (suc d) zero le j e fit =
        same_again S (prove (suc d) S hyps j) (look_up hyps j) refl (λ e' l. look_came j e' ∙ sym (or-fail (look_up hyps j) e' e' [] (line_of hyps e' j) (look_came j e')))
        (or_again S _ fail (look_again j e) (λ e₁ w. less_again S (fails_again S (chained_again (prove_again d d (omega arith)) j e₁ (further_fit j w fit)))))
    prove_again (suc d) (suc d') le j e fit =
        or_again S _ _ (look_again j e) (λ e₁ w. less_again S (chained_again (prove_again d d' (omega arith)) j e₁ (further_fit j w fit)))
