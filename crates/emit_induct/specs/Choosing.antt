-- The loop over candidates: what is left to do gives what the whole gives.
use Rattle.std.specs.Prelude.{◌≡◌, refl, List, [], ◌∷◌, ℕ, suc, ◌+◌, ◌≤◌, ◌<◌, length, get_or, drop}
use Rattle.std.proofs.Common.{sym, ◌∙◌, arith, drop_of_length-le, drop-cons}
use Rattle.std.proofs.Math.Path.{ap}
use Rattle.std.proofs.Math.Option.{Option, none, some}
use Rattle.definition.specs.Pack.{symbol_of}
use Rattle.definition.specs.Frame.{Read, refuse}
use Rattle.definition.specs.Run.{outcome, first_short}
use Rattle.definition.specs.declared.Refusal.{Refusal}
use Rattle.emission.specs.State.{Emitter, Setting, Tried, Search, ◌>>=◌, give, attempt, interned}
use Rattle.emission.specs.Induct.{prove_cut}
use Rattle.emission.specs.Choose.{filled, first_proved}
use Rattle.emit_theory.specs.Search.Proving.{has_all_on}
use Rattle.emit_state.specs.Holding.{Buffers, World, Ready, got}
use Rattle.emit_state.specs.Turns.{then_got, then_refused}
use Rattle.emit_state.specs.Searches.{then_assoc}
use Rattle.emit_state.specs.declared.places.Places.{Places}
use Rattle.emit_state.specs.declared.standing.Standing.{Standing}
use Rattle.emit_state.specs.declared.standing.Proved.TheVariants.{Line, Fails, Refused}
use Rattle.emit_case.specs.Asked.{AskedFor}
use Rattle.emit_induct.specs.Candidates.{arguments_in, filling, Fitting, AllFitting, try_run, TryAnswers, ChosenAnswers}
use Rattle.emit_induct.specs.declared.candidates.Output.{Output}
use Rattle.emit_induct.specs.declared.candidates.Chosen.TheVariants.{At, Nothing, Refused as NoRoom}

-- ---- one candidate on plain values
-- from what a candidate came to: it, or the others
abbrev from : Setting → ℕ → List (Option ℕ) → ℕ → List ℕ → Option ℕ → Search (Option ℕ)
from S p args c cs proof = elim proof as (λ _. Search (Option ℕ)) [ some n ↦ give (some c) | none ↦ first_proved S p args cs ]

module _ (w : World) (p : ℕ) (args : List (Option ℕ)) (c : ℕ) (cs : List ℕ) (e : Emitter) where
  -- the first candidate is tried
  first-tried : outcome w.lent (first_proved w.setting p args (c ∷ cs) e) ≡ outcome w.lent ((try_run w.setting p args c >>= from w.setting p args c cs) e)
  unfolding first_proved try_run
  first-tried = ap (outcome w.lent) (sym (then_assoc (interned (record { head = p; args = filled c args })) (λ j. attempt (prove_cut w.setting j)) (from w.setting p args c cs) e))

  -- it proves
  first_proves : (n : ℕ) (e' : Emitter) → outcome w.lent (try_run w.setting p args c e) ≡ got (some n) e' → outcome w.lent (first_proved w.setting p args (c ∷ cs) e) ≡ got (some c) e'
  unfolding outcome first_short
  first_proves n e' h = first-tried ∙ then_got w.lent (try_run w.setting p args c) (from w.setting p args c cs) e (some n) e' h

  -- it does not
  first_fails : (e' : Emitter) → outcome w.lent (try_run w.setting p args c e) ≡ got none e' → outcome w.lent (first_proved w.setting p args (c ∷ cs) e) ≡ outcome w.lent (first_proved w.setting p args cs e')
  first_fails e' h = first-tried ∙ then_got w.lent (try_run w.setting p args c) (from w.setting p args c cs) e none e' h

  -- a buffer is short
  first-refused : (r : Refusal) → outcome w.lent (try_run w.setting p args c e) ≡ refuse r → outcome w.lent (first_proved w.setting p args (c ∷ cs) e) ≡ refuse r
  first-refused r h = first-tried ∙ then_refused w.lent (try_run w.setting p args c) (from w.setting p args c cs) e r h

-- there is none
none_proves : (w : World) (p : ℕ) (args : List (Option ℕ)) (e : Emitter) → outcome w.lent (first_proved w.setting p args [] e) ≡ got none e
unfolding first_proved outcome first_short
none_proves w p args e = refl

-- ---- the loop
-- the candidates from i on are left
pub record CandidatesLeft (b : Buffers) (l : Places) (t : Standing) (w : World) (x : Output) (args cs : List ℕ) (i : ℕ) (whole : Read (Tried (Option ℕ))) : Type 0 where
  pub state : Emitter
  pub ready : Ready b l t w state
  pub fitting : AllFitting x args cs w state
  pub rest : outcome w.lent (first_proved w.setting x.predicate (arguments_in args) (drop i cs) state) ≡ whole

-- so for every state that the buffers held at first
pub record CandidatesGo (b₀ b : Buffers) (l : Places) (m t : Standing) (x : Output) (args cs : List ℕ) (i : ℕ) : Type 0 where
  pub grown : m.store.len ≤ t.store.len
  pub left : (w : World) (e : Emitter) → Ready b₀ l m w e → AllFitting x args cs w e → CandidatesLeft b l t w x args cs i (outcome w.lent (first_proved w.setting x.predicate (arguments_in args) cs e))

-- all are left
pub candidates_go : (b : Buffers) (l : Places) (m : Standing) (x : Output) (args cs : List ℕ) → CandidatesGo b b l m m x args cs 0
candidates_go b l m x args cs = record { grown = omega arith; left = λ w e R F. record { state = e; ready = R; fitting = F; rest = refl } }

module _ (b₀ b : Buffers) (l : Places) (m t : Standing) (x : Output) (args cs : List ℕ) (i : ℕ) (G : CandidatesGo b₀ b l m t x args cs i) where
  -- none is left
  pub candidates_end : length cs ≤ i → ChosenAnswers b₀ b l m x args cs (Nothing t)
  candidates_end h = record {
    grown = G.grown;
    comes = λ w e R F.
        let L = G.left w e R F in
        (L.state, sym L.rest ∙ ap (λ (zs : List ℕ). outcome w.lent (first_proved w.setting x.predicate (arguments_in args) zs L.state)) (drop_of_length-le cs h) ∙ none_proves w x.predicate (arguments_in args) L.state, L.ready.holding);
  }

  module _ (h : i < length cs) where
    -- the next candidate
    abbrev next : ℕ
    next = get_or cs i 0

    -- it fits
    next_fits : (w : World) (e : Emitter) → AllFitting x args cs w e → Fitting x args next w e
    next_fits w e F = record { opened = F.opened; fits = F.each i h }

    -- it is asked for
    pub next-asked : AskedFor b₀ l m (AllFitting x args cs) → AskedFor b l t (Fitting x args next)
    next-asked A =
        let L = G.left A.world A.state A.ready A.holds in
        record { world = A.world; state = L.state; ready = L.ready; holds = next_fits A.world L.state L.fitting }

    -- the whole, with the next candidate in front
    turn : (w : World) (e : Emitter) (whole : Read (Tried (Option ℕ))) → outcome w.lent (first_proved w.setting x.predicate (arguments_in args) (drop i cs) e) ≡ whole
        → whole ≡ outcome w.lent (first_proved w.setting x.predicate (arguments_in args) (next ∷ drop (suc i) cs) e)
    turn w e whole q = sym q ∙ ap (λ (zs : List ℕ). outcome w.lent (first_proved w.setting x.predicate (arguments_in args) zs e)) (drop-cons cs i 0 h)

    module _ (b' : Buffers) where
      -- it proves
      pub next_proves : (u : Standing) (n : ℕ) → TryAnswers b b' l t x args next (Line u n) → ChosenAnswers b₀ b' l m x args cs (At u next)
      next_proves u n E = record {
        grown = omega (arith, G.grown, E.grown);
        comes = λ w e R F.
            let L = G.left w e R F in
            let C = E.comes w L.state L.ready (next_fits w L.state L.fitting) in
            (C.0, turn w L.state _ L.rest ∙ first_proves w x.predicate (arguments_in args) next (drop (suc i) cs) L.state n C.0 C.1, C.2.holding);
      }

      -- a buffer is short
      pub next-refused : (r : Refusal) → TryAnswers b b' l t x args next (Refused r) → ChosenAnswers b₀ b' l m x args cs (NoRoom r)
      next-refused r E = record {
        grown = tt;
        comes = λ w e R F.
            let L = G.left w e R F in
            turn w L.state _ L.rest ∙ first-refused w x.predicate (arguments_in args) next (drop (suc i) cs) L.state r (E.comes w L.state L.ready (next_fits w L.state L.fitting));
      }

      -- it does not prove
      pub next_fails : (u : Standing) → TryAnswers b b' l t x args next (Fails u) → CandidatesGo b₀ b' l m u x args cs (i + 1)
      next_fails u E = record {
        grown = omega (arith, G.grown, E.grown);
        left = λ w e R F.
            let S = w.setting in
            let L = G.left w e R F in
            let C = E.comes w L.state L.ready (next_fits w L.state L.fitting) in
            let z : i + 1 ≡ suc i = omega arith in
            record {
              state = C.0;
              ready = C.2;
              fitting = record {
                opened = L.fitting.opened;
                each = λ k below. has_all_on S L.state C.0 C.3 (symbol_of S.pack x.predicate).inputs (filling args (get_or cs k 0)) (L.fitting.each k below);
              };
              rest = ap (λ (k : ℕ). outcome w.lent (first_proved S x.predicate (arguments_in args) (drop k cs) C.0)) z
                  ∙ sym (first_fails w x.predicate (arguments_in args) next (drop (suc i) cs) L.state C.0 C.1)
                  ∙ sym (turn w L.state _ L.rest);
            };
      }
