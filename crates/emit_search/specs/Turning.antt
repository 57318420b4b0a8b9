-- What a try comes to in the lengths lent, by what its parts came to; and failures that may be remembered.
use Rattle.std.specs.Prelude.{◌≡◌, List, []}
use Rattle.std.proofs.Math.Path.{refl, ap}
use Rattle.std.proofs.Common.{sym, ◌∙◌, arith}
use Rattle.std.proofs.Math.Option.{none, some}
use Prim.Native.Nat.{ℕ, zero, suc, ◌+◌, ◌≤◌}
use Rattle.definition.specs.Pack.{prop}
use Rattle.definition.specs.Good.{Good, Few}
use Rattle.definition.specs.Verdict.{Bound}
use Rattle.definition.specs.Frame.{refuse}
use Rattle.definition.specs.Answer.{Lent}
use Rattle.definition.specs.Run.{outcome, first_short}
use Rattle.definition.specs.declared.Refusal.{Refusal}
use Rattle.emission.specs.State.{Emitter, Setting, Search, ◌>>=◌, from, give, change}
use Rattle.emission.specs.Prove.{line_of, look_up, keeping, premises, by_rule, chain, prove}
use Rattle.emit_theory.specs.Came.{came}
use Rattle.emit_theory.specs.Again.Later.{text_length, later_itself}
use Rattle.emit_theory.specs.Again.Memory.{passed_over}
use Rattle.emit_theory.specs.Sound.{Sound}
use Rattle.emit_theory.specs.Search.Proving.{Has, Supposed, prove_comes}
use Rattle.emit_theory.specs.Search.Memory.{sound_fit}
use Rattle.emit_state.specs.Holding.{levels, Barren, got, lost}
use Rattle.emit_state.specs.Turns.{then_got, then_lost, then_refused, or-got, or-lost}
use Rattle.emit_state.specs.Onward.{fine_came}
use Rattle.emit_search.specs.Trying.{finishing}

module _ (l : Lent) (S : Setting) (hyps : List Bound) (j : ℕ) (e : Emitter) where
  -- what has a line is found
  look_got : (n : ℕ) → some n ≡ line_of hyps e j → outcome l (look_up hyps j e) ≡ got n e
  unfolding look_up from outcome first_short
  look_got n h = rw (← h)

  look_lost : none ≡ line_of hyps e j → outcome l (look_up hyps j e) ≡ lost e
  unfolding look_up from outcome first_short
  look_lost h = rw (← h)

  pub prove-known : (d n : ℕ) → some n ≡ line_of hyps e j → outcome l (prove d S hyps j e) ≡ got n e
  unfolding prove
  prove-known zero n h = look_got n h
  prove-known (suc d) n h = or-got l (look_up hyps j) _ e n e (look_got n h)

  -- no level is left
  pub prove_deep : (f : ℕ) → f ≡ 0 → none ≡ line_of hyps e j → outcome l (prove f S hyps j e) ≡ lost e
  unfolding prove
  prove_deep f z h = ap (λ (k : ℕ). outcome l (prove k S hyps j e)) z ∙ look_lost h

  -- a judgment that was chained is kept
  keep-got : (n : ℕ) (e' : Emitter) → outcome l ((change (keeping hyps j n) >>= λ _. give n) e') ≡ got n (keeping hyps j n e')
  unfolding outcome first_short
  keep-got n e' = then_got l (change (keeping hyps j n)) (λ _. give n) e' tt (keeping hyps j n e') refl

  module _ (d : ℕ) (h : none ≡ line_of hyps e j) where
    got_suc : (n : ℕ) (e' : Emitter) → outcome l (chain S (λ q. prove d S hyps q) j e) ≡ got n e' → outcome l (prove (suc d) S hyps j e) ≡ got n (keeping hyps j n e')
    unfolding prove
    got_suc n e' g = or-lost l (look_up hyps j) _ e e (look_lost h) ∙ then_got l (chain S (λ q. prove d S hyps q) j) _ e n e' g ∙ keep-got n e'

    lost_suc : (e' : Emitter) → outcome l (chain S (λ q. prove d S hyps q) j e) ≡ lost e' → outcome l (prove (suc d) S hyps j e) ≡ lost e'
    unfolding prove
    lost_suc e' g = or-lost l (look_up hyps j) _ e e (look_lost h) ∙ then_lost l (chain S (λ q. prove d S hyps q) j) _ e e' g

    refused_suc : (x : Refusal) → outcome l (chain S (λ q. prove d S hyps q) j e) ≡ refuse x → outcome l (prove (suc d) S hyps j e) ≡ refuse x
    unfolding prove
    refused_suc x g = or-lost l (look_up hyps j) _ e e (look_lost h) ∙ then_refused l (chain S (λ q. prove d S hyps q) j) _ e x g

    -- the levels left are a number f, so that no proof compares a level with a successor by computing
    module _ (f : ℕ) (z : f ≡ suc d) where
      pub prove-got : (n : ℕ) (e' : Emitter) → outcome l (chain S (λ q. prove d S hyps q) j e) ≡ got n e' → outcome l (prove f S hyps j e) ≡ got n (keeping hyps j n e')
      prove-got n e' g = ap (λ (k : ℕ). outcome l (prove k S hyps j e)) z ∙ got_suc n e' g

      pub prove-lost : (e' : Emitter) → outcome l (chain S (λ q. prove d S hyps q) j e) ≡ lost e' → outcome l (prove f S hyps j e) ≡ lost e'
      prove-lost e' g = ap (λ (k : ℕ). outcome l (prove k S hyps j e)) z ∙ lost_suc e' g

      pub prove-refused : (x : Refusal) → outcome l (chain S (λ q. prove d S hyps q) j e) ≡ refuse x → outcome l (prove f S hyps j e) ≡ refuse x
      prove-refused x g = ap (λ (k : ℕ). outcome l (prove k S hyps j e)) z ∙ refused_suc x g

  -- what is remembered as barren comes to nothing
  pub prove_barren : (k f : ℕ) → Barren S hyps e j k → f + k ≤ levels → outcome l (prove f S hyps j e) ≡ lost e
  unfolding outcome first_short
  prove_barren k f B h = ap (outcome l) (B f h e (later_itself e))

  -- what failed without a line is barren
  pub failed_barren : Good S.pack → Few S.pack → Sound S e → Supposed hyps e → Has S e prop j → (d k : ℕ) → levels ≤ d + k → (e₁ : Emitter) → outcome l (prove d S hyps j e) ≡ lost e₁
      → text_length S e₁ ≡ text_length S e → Barren S hyps e₁ j k
  failed_barren good few s H h d k a e₁ o t = λ d' b e' later.
      let C = prove_comes S good few hyps d j e s H h in
      let p = fine_came l C.notes C.result C.state (record { result = none; state = e₁ }) (ap (outcome l) (sym C.is_so) ∙ o) in
      let so : prove d S hyps j e ≡ came C.notes none e₁ = C.is_so ∙ ap (λ x. came C.notes x C.state) p.0 ∙ ap (λ x. came C.notes none x) p.1 in
      passed_over S good few hyps d d' j e e₁ e' C.notes (omega arith) (sound_fit S e s prop j h) so t later

-- ---- one rule
module _ (l : Lent) (S : Setting) (p : ℕ → Search ℕ) (j r : ℕ) (e : Emitter) where
  pub rule-got : (qs : List ℕ) (e' : Emitter) → outcome l (premises S r j e) ≡ got qs e' → outcome l (by_rule S p j r e) ≡ outcome l (finishing S p j r qs [] e')
  unfolding by_rule finishing
  rule-got qs e' h = then_got l (premises S r j) _ e qs e' h

  pub rule-lost : (e' : Emitter) → outcome l (premises S r j e) ≡ lost e' → outcome l (by_rule S p j r e) ≡ lost e'
  unfolding by_rule
  rule-lost e' h = then_lost l (premises S r j) _ e e' h

  pub rule-refused : (x : Refusal) → outcome l (premises S r j e) ≡ refuse x → outcome l (by_rule S p j r e) ≡ refuse x
  unfolding by_rule
  rule-refused x h = then_refused l (premises S r j) _ e x h
