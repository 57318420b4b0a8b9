-- The loop over the constructors of L's sort: what is left to do gives what the whole gives.
use Rattle.std.specs.Prelude.{◌≡◌, refl, true, false, ℕ, suc, ◌+◌, ◌-◌, ◌≤◌, ◌<◌, eqb, get_or, take}
use Rattle.std.proofs.Math.Path.{sym, ap}
use Rattle.std.proofs.Common.{◌∙◌}
use mathlib.Core.List.{List, [], ◌∷◌, ◌++◌, append_assoc, append-nil}
use Rattle.std.proofs.Math.Option.{some}
use native.Mathlib.Omega.{arith}
use Rattle.std.proofs.Math.ListN.{length}
use Rattle.definition.specs.Test.{is, see}
use Rattle.definition.specs.Pack.{prop, Symbol, Pack, no_such_symbol, symbol_of}
use Rattle.definition.specs.Frame.{Read, refuse}
use Rattle.definition.specs.Run.{outcome, first_short}
use Rattle.definition.specs.declared.Refusal.{Refusal}
use Rattle.emission.specs.Line.{Case}
use Rattle.emission.specs.State.{Emitter, Tried, Search, ◌>>=◌, give}
use Rattle.emission.specs.Patterns.{constructors_of}
use Rattle.emission.specs.Induct.{deepest, induct_case, induct_cases}
use Rattle.emit_theory.specs.Search.Proving.{has_on, prove_comes}
use Rattle.emit_theory.specs.Search.Inducting.{case_comes}
use Rattle.emit_chains.specs.Chain.{keyed, keyed_here}
use Rattle.emit_chains.specs.Follow.{no_number, FromNumber}
use Rattle.emit_lines.specs.Cases.{case_words, cases_words, words-behind}
use Rattle.emit_state.specs.Holding.{Buffers, World, Ready, got, lost}
use Rattle.emit_state.specs.Turns.{then_got, then_lost, then_refused}
use Rattle.emit_state.specs.Searches.{then_assoc, give_then, then_ext, then_give}
use Rattle.emit_state.specs.Onward.{goes_on, ready_on}
use Rattle.emit_state.specs.declared.places.Places.{Places}
use Rattle.emit_state.specs.declared.standing.Standing.{Standing}
use Rattle.emit_case.specs.Case.{tries, InCase, CaseTo}
use Rattle.emit_induct.specs.Cases.{Plain, CasesTo}
use Rattle.emit_induct.specs.Cutting.{plain_on}
use Rattle.emit_case.specs.declared.goal.Inducting.{Inducting}
use Rattle.emit_case.specs.declared.case.Cases.TheVariants.{All, Fails}

-- the sort that a symbol makes
abbrev pub symbol_key : Pack → ℕ → ℕ
symbol_key P h = (symbol_of P h).output

-- the constructors from number i on
listed : (s : ℕ) (ys : List Symbol) (i : ℕ) (key : ℕ → ℕ) → ((k : ℕ) → k < length ys → (get_or ys k no_such_symbol).output ≡ key (i + k)) → constructors_of s ys i ≡ keyed key s i (length ys)
unfolding constructors_of keyed
listed s [] i key f = refl
listed s (y ∷ ys) i key f =
    let e : i + 0 ≡ i = omega arith in
    let here : y.output ≡ key i = f 0 (omega arith) ∙ ap key e in
    let rest = listed s ys (suc i) key (λ k l. let q : i + suc k ≡ suc i + k = omega arith in f (suc k) (omega arith) ∙ ap key q) in
    elim (see (eqb (key i) s)) [
      | is true z ↦ rw (ap (λ (n : ℕ). eqb n s) here ∙ z, z, constructors_of, keyed) (ap (λ (l : List ℕ). i ∷ l) rest)
      | is false z ↦ rw (ap (λ (n : ℕ). eqb n s) here ∙ z, z, constructors_of, keyed) rest
    ]

pub constructors_keyed : (P : Pack) (s : ℕ) → constructors_of s P.symbols 0 ≡ keyed (symbol_key P) s 0 (length P.symbols)
unfolding symbol_of
constructors_keyed P s = listed s P.symbols 0 (symbol_key P) (λ k l. let z : k ≡ 0 + k = omega arith in ap (symbol_key P) z)

-- the cases that are left, behind those done
unfoldable pub cases_after : World → ℕ → List ℕ → List Case → Search (List Case)
cases_after w j cs done = induct_cases w.setting (tries w) j cs >>= λ rest. give (done ++ rest)

-- ---- one case on plain values
module _ (w : World) (j : ℕ) where
  after_more : (c : ℕ) (cs : List ℕ) (done : List Case) (case : Case) (e e' : Emitter) → outcome w.lent (induct_case w.setting (tries w) j c e) ≡ got case e'
      → outcome w.lent (cases_after w j (c ∷ cs) done e) ≡ outcome w.lent (cases_after w j cs (done ++ (case ∷ [])) e')
  unfolding cases_after induct_cases
  after_more c cs done case e e' h =
      let S = w.setting in
      let first = induct_case S (tries w) j c in
      let others = induct_cases S (tries w) j cs in
      ap (outcome w.lent) (then_assoc first (λ x. others >>= λ rest. give (x ∷ rest)) (λ rest. give (done ++ rest)) e)
      ∙ then_got w.lent first (λ x. (others >>= λ rest. give (x ∷ rest)) >>= λ rest. give (done ++ rest)) e case e' h
      ∙ ap (outcome w.lent) (then_assoc others (λ rest. give (case ∷ rest)) (λ rest. give (done ++ rest)) e'
      ∙ then_ext others (λ rest. give (case ∷ rest) >>= λ more. give (done ++ more)) (λ rest. give ((done ++ (case ∷ [])) ++ rest)) e' (λ rest x.
      give_then (case ∷ rest) (λ more. give (done ++ more)) x ∙ ap (λ (zs : List Case). give zs x) (sym (append_assoc done (case ∷ []) rest))))

  after-lost : (c : ℕ) (cs : List ℕ) (done : List Case) (e e' : Emitter) → outcome w.lent (induct_case w.setting (tries w) j c e) ≡ lost e' → outcome w.lent (cases_after w j (c ∷ cs) done e) ≡ lost e'
  unfolding cases_after induct_cases
  after-lost c cs done e e' h = then_lost w.lent (induct_cases w.setting (tries w) j (c ∷ cs)) _ e e' (then_lost w.lent (induct_case w.setting (tries w) j c) _ e e' h)

  after-refused : (c : ℕ) (cs : List ℕ) (done : List Case) (e : Emitter) (x : Refusal) → outcome w.lent (induct_case w.setting (tries w) j c e) ≡ refuse x → outcome w.lent (cases_after w j (c ∷ cs) done e) ≡ refuse x
  unfolding cases_after induct_cases
  after-refused c cs done e x h = then_refused w.lent (induct_cases w.setting (tries w) j (c ∷ cs)) _ e x (then_refused w.lent (induct_case w.setting (tries w) j c) _ e x h)

  after_none : (done : List Case) (e : Emitter) → outcome w.lent (cases_after w j [] done e) ≡ got done e
  unfolding cases_after induct_cases outcome first_short
  after_none done e =
      ap (outcome w.lent) (give_then [] (λ rest. give (done ++ rest)) e) ∙ ap (λ (zs : List Case). got zs e) (append-nil done)

  after-all : (cs : List ℕ) (e : Emitter) → outcome w.lent (cases_after w j cs [] e) ≡ outcome w.lent (induct_cases w.setting (tries w) j cs e)
  unfolding cases_after
  after-all cs e = then_give w.lent (induct_cases w.setting (tries w) j cs) e

-- ---- the loop
pub record CasesLeft (b : Buffers) (l : Places) (t : Standing) (w : World) (g : Inducting) (c at : ℕ) (cases : List ℕ) (whole : Read (Tried (List Case))) : Type 0 where
  pub state : Emitter
  pub ready : Ready b l t w state
  pub plain : Plain g w state
  pub done : List Case
  pub numbers : take at cases ≡ cases_words done
  pub constructors : List ℕ
  pub from : FromNumber (symbol_key w.setting.pack) (length w.setting.pack.symbols) g.sort c constructors
  pub rest : outcome w.lent (cases_after w g.judgment constructors done state) ≡ whole

-- none is done yet
pub cases_first : (b : Buffers) (l : Places) (m : Standing) (w : World) (e : Emitter) (g : Inducting) (c : ℕ) (cases : List ℕ) → Ready b l m w e → Plain g w e
    → FromNumber (symbol_key w.setting.pack) (length w.setting.pack.symbols) g.sort c (keyed (symbol_key w.setting.pack) g.sort 0 (length w.setting.pack.symbols))
    → CasesLeft b l m w g c 0 cases (outcome w.lent (induct_cases w.setting (tries w) g.judgment (constructors_of w.setting.sort w.setting.pack.symbols 0) e))
unfolding cases_words
cases_first b l m w e g c cases R P F =
    let S = w.setting in
    let j = g.judgment in
    let n = length S.pack.symbols in
    let all : keyed (symbol_key S.pack) g.sort 0 n ≡ constructors_of S.sort S.pack.symbols 0 =
    ap (λ (s : ℕ). keyed (symbol_key S.pack) s 0 n) P.given.sort ∙ sym (constructors_keyed S.pack S.sort) in
    record {
      state = e;
      ready = R;
      plain = P;
      done = [];
      numbers = refl;
      constructors = keyed (symbol_key S.pack) g.sort 0 n;
      from = F;
      rest = ap (λ (cs : List ℕ). outcome w.lent (cases_after w j cs [] e)) all ∙ after-all w j (constructors_of S.sort S.pack.symbols 0) e;
    }

module _ (b : Buffers) (l : Places) (t : Standing) (w : World) (g : Inducting) (c at : ℕ) (cases : List ℕ) (whole : Read (Tried (List Case))) (G : CasesLeft b l t w g c at cases whole) where
  abbrev P : Pack
  P = w.setting.pack

  abbrev later : List ℕ
  later = keyed (symbol_key P) g.sort (suc c) (length P.symbols - suc c)

  -- none is left
  pub cases_end : no_number ≤ c → length P.symbols ≤ no_number → CasesTo b l w cases whole (All t at)
  unfolding keyed
  cases_end k few =
      let z : length P.symbols - c ≡ 0 = omega arith in
      let no_more : G.constructors ≡ [] = sym G.from.rest ∙ ap (λ (n : ℕ). keyed (symbol_key P) g.sort c n) z in
      (G.state, G.done, sym G.rest ∙ ap (λ (cs : List ℕ). outcome w.lent (cases_after w g.judgment cs G.done G.state)) no_more ∙ after_none w g.judgment G.done G.state, G.numbers, G.ready.holding)

  module _ (k : c < no_number) where
    turn : G.constructors ≡ c ∷ later
    turn =
        let h = G.from.here k in
        let n = length P.symbols in
        let e : n - c ≡ suc (n - suc c) = omega (arith, h.0) in
        sym G.from.rest ∙ ap (λ (m : ℕ). keyed (symbol_key P) g.sort c m) e ∙ keyed_here (symbol_key P) g.sort c (n - suc c) h.1

    turn-rest : outcome w.lent (cases_after w g.judgment (c ∷ later) G.done G.state) ≡ whole
    turn-rest = sym (ap (λ (cs : List ℕ). outcome w.lent (cases_after w g.judgment cs G.done G.state)) turn) ∙ G.rest

    -- what its case asks
    pub case_given : InCase g c w G.state
    case_given = let h = G.from.here k in record { none = G.plain.none; given = G.plain.given; symbol = h.0; output = h.1 ∙ G.plain.given.sort }

    module _ (b' : Buffers) (cases' : List ℕ) (u : Standing) where
      pub cases_lost : CaseTo b' l w cases cases' at (outcome w.lent (induct_case w.setting (tries w) g.judgment c G.state)) (Fails u) → CasesTo b' l w cases' whole (Fails u)
      cases_lost C = (C.0, sym turn-rest ∙ after-lost w g.judgment c later G.done G.state C.0 C.1, C.2)

      pub cases_refused : (x : Refusal) → outcome w.lent (induct_case w.setting (tries w) g.judgment c G.state) ≡ refuse x → whole ≡ refuse x
      cases_refused x C = sym turn-rest ∙ after-refused w g.judgment c later G.done G.state x C

      -- the next
      pub cases_on : (to c' : ℕ) → CaseTo b' l w cases cases' at (outcome w.lent (induct_case w.setting (tries w) g.judgment c G.state)) (All u to)
          → FromNumber (symbol_key P) (length P.symbols) g.sort c' later → CasesLeft b' l u w g c' to cases' whole
      cases_on to c' C F =
          let S = w.setting in
          let j = g.judgment in
          let Q = G.ready.holding.proper in
          let I = case_given in
          let T : Tried Case = record { result = some C.1; state = C.0 } in
          let O = goes_on w.lent S (λ case e₁. Unit {0}) (induct_case S (tries w) j c) G.state T (case_comes S Q.good Q.few (tries w) (λ hyps q e s H h. prove_comes S Q.good Q.few hyps (deepest - 1) q e s H h) j c G.state I.symbol I.output G.ready.sound G.plain.given.has) C.2 in
          record {
            state = C.0;
            ready = ready_on b b' l t u w G.state (λ case e₁. Unit {0}) T G.ready O C.4;
            plain = plain_on g w G.state C.0 G.plain (has_on S G.state C.0 O.grew prop j G.plain.given.has);
            done = G.done ++ (C.1 ∷ []);
            numbers = C.3 ∙ ap (λ (xs : List ℕ). xs ++ case_words C.1) G.numbers ∙ sym (words-behind G.done C.1);
            constructors = later;
            from = F;
            rest = sym (after_more w j c later G.done C.1 G.state C.0 C.2) ∙ turn-rest;
          }
