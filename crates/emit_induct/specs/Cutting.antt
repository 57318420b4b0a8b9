-- A cut judgment's proof, by what its parts came to.
use Rattle.std.specs.Prelude.{◌≡◌, refl, ℕ, suc, ◌+◌, ◌-◌, get_or}
use Rattle.std.proofs.Common.{sym, ap, ◌∙◌, arith}
use Rattle.std.proofs.Math.Path.{subst}
use mathlib.Core.List.{List, []}
use Rattle.std.proofs.Math.Option.{Option, none, some}
use Rattle.definition.specs.Test.{is, see, never}
use Rattle.definition.specs.Pack.{prop}
use Rattle.definition.specs.Verdict.{Bound, value_of}
use Rattle.definition.specs.Frame.{Read, fine, refuse}
use Rattle.definition.specs.Run.{outcome}
use Rattle.definition.specs.declared.Refusal.{Refusal}
use Rattle.emission.specs.State.{Emitter, Tried, Search}
use Rattle.emission.specs.Prove.{line_of, prove}
use Rattle.emission.specs.Induct.{deepest, by_induction, prove_cut}
use Rattle.emit_theory.specs.Search.Proving.{Has, States, has_on, prove_comes}
use Rattle.emit_maps.specs.Map.{start}
use Rattle.emit_maps.specs.Holds.{trailed_new}
use Rattle.emit_state.specs.Places.{maps_of}
use Rattle.emit_state.specs.Holding.{Buffers, World, levels, Ready, Asked, Comes, Answers, got, lost}
use Rattle.emit_state.specs.Turns.{or-got, or-lost, or-refused}
use Rattle.emit_state.specs.Onward.{goes_on, ready_on}
use Rattle.emit_state.specs.declared.places.Places.{Places}
use Rattle.emit_state.specs.declared.standing.Standing.{Standing}
use Rattle.emit_state.specs.declared.standing.Proved.{Proved}
use Rattle.emit_state.specs.declared.standing.Proved.TheVariants.{Line, Fails, Refused}
use Rattle.emit_search.specs.Turning.{prove-known}
use Rattle.emit_search.specs.Asking.{asked-room}
use Rattle.emit_search.specs.Answering.{grown_then}
use Rattle.emit_case.specs.Asked.{AskedFor, AnswersFor}
use Rattle.emit_case.specs.Case.{tries}
use Rattle.emit_induct.specs.Cases.{Plain}
use Rattle.emit_case.specs.declared.goal.Inducting.{Inducting}

-- nor was the judgment proved when the attempt began
pub record Untried (l : Places) (g : Inducting) (w : World) (e : Emitter) : Type 0 where
  pub plain : Plain g w e
  pub fresh : get_or w.before (start (maps_of l) 0 + g.judgment) 0 ≡ 0

-- the state has grown
pub plain_on : (g : Inducting) (w : World) (e e' : Emitter) → Plain g w e → Has w.setting e' prop g.judgment → Plain g w e'
plain_on g w e e' P h = record { none = P.none; given = record { eigen = P.given.eigen; sort = P.given.sort; has = h } }

-- what is asked of the judgment
pub plain_asked : (b : Buffers) (l : Places) (m : Standing) (g : Inducting) → AskedFor b l m (Plain g) → Asked b l m g.judgment
plain_asked b l m g A = record { world = A.world; state = A.state; ready = A.ready; has = A.holds.given.has }

-- the result, if nothing is refused
abbrev result_in : Read (Tried ℕ) → Option ℕ
result_in (fine t) = t.result
result_in (refuse x) = none

-- a result is not none
got-lost : (n : ℕ) (e e' : Emitter) → got n e ≡ lost e' → ⊥
got-lost n e e' q =
    let r : some n ≡ none = ap (λ (x : Read (Tried ℕ)). result_in x) q in
    never (cc)

-- what a try that comes to nothing had no line for
lost-none : (w : World) (f j : ℕ) (e e' : Emitter) → outcome w.lent (prove f w.setting w.hyps j e) ≡ lost e' → value_of j e.undone.proved ≡ none
unfolding line_of
lost-none w f j e e' o = elim (see (value_of j e.undone.proved)) [
  | is none z ↦ z
  | is (some n) z ↦
      let h : some n ≡ line_of w.hyps e j = sym (rw (z, line_of) refl) in
      absurd (got-lost n e e' (sym (prove-known w.lent w.setting w.hyps j e f n h) ∙ o))
]

module _ (b : Buffers) (l : Places) (m : Standing) (g : Inducting) where
  abbrev j : ℕ
  j = g.judgment

  -- by rules, as `prove` has it from depth 0
  abbrev by_rules : World → Search ℕ
  by_rules w = prove (levels - 0) w.setting w.hyps j

  -- the definition's own
  at_first : (w : World) (e : Emitter) → w.hyps ≡ [] → (o : Read (Tried ℕ)) → outcome w.lent (by_rules w e) ≡ o → outcome w.lent (prove (suc deepest) w.setting [] j e) ≡ o
  at_first w e z o h =
      let q : suc deepest ≡ levels - 0 = omega arith in
      ap (λ (n : ℕ). outcome w.lent (prove n w.setting [] j e)) q ∙ ap (λ (hs : List Bound). outcome w.lent (prove (levels - 0) w.setting hs j e)) (sym z) ∙ h

  pub cut_line : (b' : Buffers) (t : Standing) (n : ℕ) → Answers b b' l m j by_rules (Line t n) → AnswersFor b b' l m (Plain g) (λ w. prove_cut w.setting j) (Line t n)
  unfolding prove_cut
  cut_line b' t n F = record {
    grown = F.grown;
    comes = λ w e R P. let C = F.comes w e R P.given.has in (C.0, or-got w.lent _ _ e n C.0 (at_first w e P.none (got n C.0) C.1), C.2);
  }

  pub cut-refused : (b' : Buffers) (x : Refusal) → Answers b b' l m j by_rules (Refused x) → AnswersFor b b' l m (Plain g) (λ w. prove_cut w.setting j) (Refused x)
  unfolding prove_cut
  cut-refused b' x F = record { grown = tt; comes = λ w e R P. or-refused w.lent _ _ e x (at_first w e P.none (refuse x) (F.comes w e R P.given.has)) }

  module _ (b' : Buffers) (t : Standing) (F : Answers b b' l m j by_rules (Fails t)) where
    -- the state behind it, for induction
    behind : (w : World) (e : Emitter) (R : Ready b l m w e) (P : Plain g w e) → Ready b' l t w (F.comes w e R P.given.has).0 × Untried l g w (F.comes w e R P.given.has).0
    behind w e R P =
        let S = w.setting in
        let h = P.given.has in
        let C = F.comes w e R h in
        let H = R.holding in
        let Q = H.proper in
        let T : Tried ℕ = record { result = none; state = C.0 } in
        let O = goes_on w.lent S (States j) (by_rules w) e T (prove_comes S Q.good Q.few w.hyps (levels - 0) j e R.sound R.supposed h) C.1 in (
          ready_on b b' l m t w e (States j) T R O C.2,
          record {
            plain = plain_on g w e C.0 P (has_on S e C.0 O.grew prop j h);
            fresh = trailed_new w.before b.work (maps_of l) w.from m.trail H.since 0 j (omega arith) (asked-room b l m w e R j h) e.undone.proved H.maps.proved (lost-none w (levels - 0) j e C.0 C.1);
          },
        )

    pub cut-asked : AskedFor b l m (Plain g) → AskedFor b' l t (Untried l g)
    cut-asked A = let B = behind A.world A.state A.ready A.holds in record { world = A.world; state = (F.comes A.world A.state A.ready A.holds.given.has).0; ready = B.0; holds = B.1 }

    -- then by induction
    pub cut_on : (b'' : Buffers) (o : Proved) → AnswersFor b' b'' l t (Untried l g) (λ w. by_induction w.setting (tries w) j) o → AnswersFor b b'' l m (Plain g) (λ w. prove_cut w.setting j) o
    unfolding prove_cut
    cut_on b'' o G = record {
      grown = grown_then m t o F.grown G.grown;
      comes = λ w e R P.
          let C = F.comes w e R P.given.has in
          let B = behind w e R P in
          let q = or-lost w.lent (prove (suc deepest) w.setting [] j) (by_induction w.setting (tries w) j) e C.0 (at_first w e P.none (lost C.0) C.1) in
          subst (λ x. Comes b'' l w x o) (sym q) (G.comes w C.0 B.0 B.1);
    }
