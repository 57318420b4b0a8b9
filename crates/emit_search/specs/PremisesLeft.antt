-- The loop over a rule's premises: each gives way to its line, and what is left to do gives what the whole gives.
use Rattle.std.specs.Prelude.{◌≡◌, ℕ, suc, ◌+◌, ◌-◌, ◌≤◌, ◌<◌, length, get_or, set, take, drop}
use Rattle.std.proofs.Math.Path.{refl, sym, ap}
use Rattle.std.proofs.Common.{subst, ◌∙◌, arith, drop_of_length-le, take_all, drop-cons, take-suc-set, drop-set-lt}
use mathlib.Core.List.{List, [], ◌∷◌, ◌++◌, append_assoc, append-nil}
use Rattle.std.proofs.Math.Option.{Option, none, some}
use Rattle.definition.specs.Test.{Is, is, see}
use Rattle.definition.specs.Pack.{prop}
use Rattle.definition.specs.Frame.{Read, fine, refuse}
use Rattle.definition.specs.Answer.{Lent}
use Rattle.definition.specs.Run.{outcome, first_short}
use Rattle.definition.specs.declared.Refusal.{Refusal}
use Rattle.emission.specs.State.{Emitter, Setting, Tried, Search}
use Rattle.emission.specs.Words.{step}
use Rattle.emission.specs.Prove.{prove, prove_all}
use Rattle.emit_theory.specs.Search.Proving.{Has, States, Judged, judged-more, has_on, judged_on, prove_comes}
use Rattle.emit_state.specs.Holding.{Buffers, World, Ready, Comes, got, lost}
use Rattle.emit_state.specs.Turns.{then_got, then_lost, then_refused}
use Rattle.emit_state.specs.Onward.{goes_on, ready_on}
use Rattle.emit_state.specs.declared.places.Places.{Places}
use Rattle.emit_state.specs.declared.standing.Standing.{Standing}
use Rattle.emit_state.specs.declared.standing.Proved.TheVariants.{Line, Fails}
use Rattle.emit_search.specs.Trying.{deeper, finishing}

-- ---- one premise on plain values
module _ (lent : Lent) (S : Setting) (p : ℕ → Search ℕ) (j r : ℕ) where
  -- a premise proved: its line stands behind those before it
  more : (q n : ℕ) (qs gs : List ℕ) (e e' : Emitter) → outcome lent (p q e) ≡ got n e' → Is (outcome lent (prove_all p qs e'))
      → outcome lent (finishing S p j r (q ∷ qs) gs e) ≡ outcome lent (finishing S p j r qs (gs ++ (n ∷ [])) e')
  unfolding finishing prove_all outcome first_short
  more q n qs gs e e' h (is (refuse x) k) =
      let a = then_got lent (p q) _ e n e' h ∙ then_refused lent (prove_all p qs) _ e' x k in
      then_refused lent (prove_all p (q ∷ qs)) _ e x a ∙ sym (then_refused lent (prove_all p qs) _ e' x k)
  more q n qs gs e e' h (is (fine t) k) = by_result t.result t.state k
    where
      by_result : (o : Option (List ℕ)) (s : Emitter) → outcome lent (prove_all p qs e') ≡ fine (record { result = o; state = s })
          → outcome lent (finishing S p j r (q ∷ qs) gs e) ≡ outcome lent (finishing S p j r qs (gs ++ (n ∷ [])) e')
      by_result none s k' =
          let a = then_got lent (p q) _ e n e' h ∙ then_lost lent (prove_all p qs) _ e' s k' in
          then_lost lent (prove_all p (q ∷ qs)) _ e s a ∙ sym (then_lost lent (prove_all p qs) _ e' s k')
      by_result (some ns) s k' =
          let a = then_got lent (p q) _ e n e' h ∙ then_got lent (prove_all p qs) _ e' ns s k' in
          then_got lent (prove_all p (q ∷ qs)) _ e (n ∷ ns) s a
          ∙ ap (λ (zs : List ℕ). outcome lent (step S r zs j s)) (sym (append_assoc gs (n ∷ []) ns))
          ∙ sym (then_got lent (prove_all p qs) _ e' ns s k')

  premise_got : (q n : ℕ) (qs gs : List ℕ) (e e' : Emitter) → outcome lent (p q e) ≡ got n e'
      → outcome lent (finishing S p j r (q ∷ qs) gs e) ≡ outcome lent (finishing S p j r qs (gs ++ (n ∷ [])) e')
  premise_got q n qs gs e e' h = more q n qs gs e e' h (see (outcome lent (prove_all p qs e')))

  premise_lost : (q : ℕ) (qs gs : List ℕ) (e e' : Emitter) → outcome lent (p q e) ≡ lost e' → outcome lent (finishing S p j r (q ∷ qs) gs e) ≡ lost e'
  unfolding finishing prove_all
  premise_lost q qs gs e e' h = then_lost lent (prove_all p (q ∷ qs)) _ e e' (then_lost lent (p q) _ e e' h)

  premise_refused : (q : ℕ) (qs gs : List ℕ) (e : Emitter) (x : Refusal) → outcome lent (p q e) ≡ refuse x → outcome lent (finishing S p j r (q ∷ qs) gs e) ≡ refuse x
  unfolding finishing prove_all
  premise_refused q qs gs e x h = then_refused lent (prove_all p (q ∷ qs)) _ e x (then_refused lent (p q) _ e x h)

  premise_none : (gs : List ℕ) (e : Emitter) → outcome lent (finishing S p j r [] gs e) ≡ outcome lent (step S r (gs ++ []) j e)
  unfolding finishing prove_all outcome first_short
  premise_none gs e =
      let h : outcome lent (prove_all p [] e) ≡ got {A = List ℕ} [] e = refl in
      then_got {A = List ℕ} {B = ℕ} lent (prove_all p []) (λ ns. step S r (gs ++ ns) j) e [] e h

-- ---- the loop
-- premises from place i on that are left, behind the lines of those before, and what was to be done
pub record PremisesLeft (b : Buffers) (l : Places) (t : Standing) (w : World) (depth j r : ℕ) (qs : List ℕ) (i : ℕ) (whole : Read (Tried ℕ)) : Type 0 where
  pub state : Emitter
  pub ready : Ready b l t w state
  pub has : Has w.setting state prop j
  pub judged : Judged w.setting state (drop i qs)
  pub rest : outcome w.lent (finishing w.setting (deeper w depth) j r (drop i qs) (take i qs) state) ≡ whole

-- none has given way yet
pub premises-first : (b : Buffers) (l : Places) (m : Standing) (w : World) (e : Emitter) (depth j r : ℕ) (qs : List ℕ) → Ready b l m w e → Has w.setting e prop j → Judged w.setting e qs
    → PremisesLeft b l m w depth j r qs 0 (outcome w.lent (finishing w.setting (deeper w depth) j r qs [] e))
premises-first b l m w e depth j r qs R h J = record { state = e; ready = R; has = h; judged = J; rest = refl }

judged-first : (S : Setting) (e : Emitter) (q : ℕ) (qs : List ℕ) → Judged S e (q ∷ qs) → Has S e prop q × Judged S e qs
judged-first S e q qs (judged-more _ _ h hs) = (h, hs)

module _ (b : Buffers) (l : Places) (t : Standing) (w : World) (depth j r : ℕ) (qs : List ℕ) (i : ℕ) (whole : Read (Tried ℕ)) (G : PremisesLeft b l t w depth j r qs i whole) where
  -- all have: the rule's line is left
  pub premises-all : length qs ≤ i → outcome w.lent (step w.setting r qs j G.state) ≡ whole
  premises-all h =
      let n = sym (ap (λ (zs : List ℕ). outcome w.lent (finishing w.setting (deeper w depth) j r zs (take i qs) G.state)) (drop_of_length-le qs h)) ∙ G.rest in
      ap (λ (zs : List ℕ). outcome w.lent (step w.setting r zs j G.state)) (sym (append-nil (take i qs) ∙ take_all i qs h)) ∙ sym (premise_none w.lent w.setting (deeper w depth) j r (take i qs) G.state) ∙ n

  module _ (h : i < length qs) where
    here : drop i qs ≡ get_or qs i 0 ∷ drop (suc i) qs
    here = drop-cons qs i 0 h

    -- the next is a judgment
    pub premise_asked : Has w.setting G.state prop (get_or qs i 0)
    premise_asked = (judged-first w.setting G.state (get_or qs i 0) (drop (suc i) qs) (subst (λ (zs : List ℕ). Judged w.setting G.state zs) here G.judged)).0

    left : Judged w.setting G.state (drop (suc i) qs)
    left = (judged-first w.setting G.state (get_or qs i 0) (drop (suc i) qs) (subst (λ (zs : List ℕ). Judged w.setting G.state zs) here G.judged)).1

    rest_here : outcome w.lent (finishing w.setting (deeper w depth) j r (get_or qs i 0 ∷ drop (suc i) qs) (take i qs) G.state) ≡ whole
    rest_here = sym (ap (λ (zs : List ℕ). outcome w.lent (finishing w.setting (deeper w depth) j r zs (take i qs) G.state)) here) ∙ G.rest

    -- it is not proved, or a buffer is short
    pub premises-lost : (b' : Buffers) (u : Standing) → Comes b' l w (outcome w.lent (deeper w depth (get_or qs i 0) G.state)) (Fails u) → Comes b' l w whole (Fails u)
    premises-lost b' u C = (C.0, sym rest_here ∙ premise_lost w.lent w.setting (deeper w depth) j r (get_or qs i 0) (drop (suc i) qs) (take i qs) G.state C.0 C.1, C.2)

    pub premises-refused : (x : Refusal) → outcome w.lent (deeper w depth (get_or qs i 0) G.state) ≡ refuse x → whole ≡ refuse x
    premises-refused x C = sym rest_here ∙ premise_refused w.lent w.setting (deeper w depth) j r (get_or qs i 0) (drop (suc i) qs) (take i qs) G.state x C

    -- its line stands in its place
    pub premises_on : (b' : Buffers) (u : Standing) (n : ℕ) → Comes b' l w (outcome w.lent (deeper w depth (get_or qs i 0) G.state)) (Line u n) → PremisesLeft b' l u w depth j r (set qs i n) (i + 1) whole
    premises_on b' u n C =
        let S = w.setting in
        let Q = G.ready.holding.proper in
        let q = get_or qs i 0 in
        let O = goes_on w.lent S (States q) (prove (4096 - depth) S w.hyps q) G.state (record { result = some n; state = C.0 }) (prove_comes S Q.good Q.few w.hyps (4096 - depth) q G.state G.ready.sound G.ready.supposed premise_asked) C.1 in
        let k : i + 1 ≡ suc i = omega arith in
        let behind : drop (i + 1) (set qs i n) ≡ drop (suc i) qs = drop-set-lt (i + 1) qs i n (omega arith) ∙ ap (λ (m : ℕ). drop m qs) k in
        let before : take (i + 1) (set qs i n) ≡ take i qs ++ (n ∷ []) = ap (λ (m : ℕ). take m (set qs i n)) k ∙ take-suc-set qs i n h in
        record {
          state = C.0;
          ready = ready_on b b' l t u w G.state (States q) (record { result = some n; state = C.0 }) G.ready O C.2;
          has = has_on S G.state C.0 O.grew prop j G.has;
          judged = subst (λ (zs : List ℕ). Judged S C.0 zs) (sym behind) (judged_on S G.state C.0 O.grew (drop (suc i) qs) left);
          rest = ap (λ (zs : List ℕ). outcome w.lent (finishing S (deeper w depth) j r zs (take (i + 1) (set qs i n)) C.0)) behind
              ∙ ap (λ (zs : List ℕ). outcome w.lent (finishing S (deeper w depth) j r (drop (suc i) qs) zs C.0)) before
              ∙ sym (premise_got w.lent S (deeper w depth) j r q n (drop (suc i) qs) (take i qs) G.state C.0 C.1) ∙ rest_here;
        }
