-- The loop over constructors in code, and the line behind it, for every state that the buffers held at first.
use Rattle.std.specs.Prelude.{◌≡◌, refl, ℕ, ◌+◌, ◌-◌, ◌*◌, ◌≤◌, ◌<◌, length, take}
use Rattle.std.proofs.Common.{sym, ◌∙◌, arith}
use Rattle.std.proofs.Math.Path.{ap, subst}
use mathlib.Core.List.{List, []}
use Rattle.std.proofs.Math.Option.{some}
use Rattle.definition.specs.Pack.{prop}
use Rattle.definition.specs.Run.{outcome}
use Rattle.definition.specs.declared.Refusal.{Refusal}
use Rattle.emission.specs.Line.{Case, induct_line}
use Rattle.emission.specs.State.{Emitter, Tried, ◌>>=◌, write_step}
use Rattle.emission.specs.Words.{judgment}
use Rattle.emission.specs.Patterns.{constructors_of}
use Rattle.emission.specs.Induct.{deepest, induct_cases, induct}
use Rattle.emit_theory.specs.Search.Proving.{has_on, prove_comes}
use Rattle.emit_theory.specs.Search.Inducting.{cases_come, constructors_given}
use Rattle.emit_chains.specs.Follow.{no_number, most_words, FirstOf, NextOf}
use Rattle.emit_chains.specs.Places.{Within}
use Rattle.emit_lines.specs.Cases.{cases_in, cases_given}
use Rattle.emit_state.specs.Places.{constructors_of as chainsOf}
use Rattle.emit_state.specs.Holding.{Buffers, World, Ready, Asked, Comes, Answers}
use Rattle.emit_state.specs.Frame.{constructors_within}
use Rattle.emit_state.specs.Turns.{then_got, then_lost, then_refused}
use Rattle.emit_state.specs.Onward.{goes_on, ready_on}
use Rattle.emit_state.specs.declared.places.Places.{Places}
use Rattle.emit_state.specs.declared.standing.Standing.{Standing}
use Rattle.emit_state.specs.declared.standing.Proved.{Proved}
use Rattle.emit_state.specs.declared.standing.Proved.TheVariants.{Fails as Unproved, Refused as Short}
use Rattle.emit_search.specs.Asking.{symbols-room}
use Rattle.emit_search.specs.Answering.{grown_then}
use Rattle.emit_words.specs.Stating.{stating}
use Rattle.emit_case.specs.Asked.{AskedFor, AnswersFor}
use Rattle.emit_case.specs.Case.{most_case, tries, InCase, CaseAnswers}
use Rattle.emit_induct.specs.Cases.{room_for_cases, Plain, CasesAnswer}
use Rattle.emit_induct.specs.Cutting.{plain_on}
use Rattle.emit_induct.specs.CasesLeft.{symbol_key, CasesLeft, cases_first, cases_end, case_given, cases_lost, cases_refused, cases_on}
use Rattle.emit_case.specs.declared.goal.Inducting.{Inducting}
use Rattle.emit_case.specs.declared.case.Cases.TheVariants.{All, Fails, Refused}

pub record CasesGo (b₀ b : Buffers) (l : Places) (m t : Standing) (g : Inducting) (c at : ℕ) (cases : List ℕ) : Type 0 where
  pub grown : m.store.len ≤ t.store.len
  pub room : at ≤ most_case * c
  pub most : at ≤ room_for_cases
  pub long : length cases ≡ room_for_cases
  pub left : (w : World) (e : Emitter) → Ready b₀ l m w e → Plain g w e
      → CasesLeft b l t w g c at cases (outcome w.lent (induct_cases w.setting (tries w) g.judgment (constructors_of w.setting.sort w.setting.pack.symbols 0) e))

-- the chains can be read
pub first-asked : (b : Buffers) (l : Places) (m : Standing) (g : Inducting) → AskedFor b l m (Plain g) → g.sort < l.hand.catalog.cap → Within b.work (chainsOf l) × (length b.work ≤ most_words) × (g.sort < (chainsOf l).keys)
first-asked b l m g A h = let L = A.ready.holding.laid in (constructors_within b.work l L, L.small, h)

-- the first
pub cases_go : (b : Buffers) (l : Places) (m : Standing) (g : Inducting) (c : ℕ) (cases : List ℕ) → length cases ≡ room_for_cases → FirstOf b.work (chainsOf l) g.sort c → CasesGo b b l m m g c 0 cases
cases_go b l m g c cases long F = record {
  grown = omega arith;
  room = omega arith;
  most = omega arith;
  long = long;
  left = λ w e R P. cases_first b l m w e g c cases R P (F.first (symbol_key w.setting.pack) (length w.setting.pack.symbols) R.holding.proper.few.symbols R.holding.constructors);
}

module _ (b₀ b : Buffers) (l : Places) (m t : Standing) (g : Inducting) (c at : ℕ) (cases : List ℕ) (G : CasesGo b₀ b l m t g c at cases) where
  -- none is left
  pub cases_done : no_number ≤ c → CasesAnswer b₀ b l m g cases (All t at)
  cases_done k = record { grown = (G.grown, G.most); comes = λ w e R P. cases_end b l t w g c at cases _ (G.left w e R P) k R.holding.proper.few.symbols }

  module _ (k : c < no_number) where
    -- there is room for a case more
    pub case_room : at + most_case ≤ length cases
    case_room = omega (arith, G.room, G.long)

    pub case_asked : AskedFor b₀ l m (Plain g) → AskedFor b l t (InCase g c)
    case_asked A =
        let L = G.left A.world A.state A.ready A.holds in
        record { world = A.world; state = L.state; ready = L.ready; holds = case_given b l t A.world g c at cases _ L k }

    module _ (b' : Buffers) (cases' : List ℕ) where
      pub cases_fail : (u : Standing) → CaseAnswers b b' l t g c cases cases' at (Fails u) → CasesAnswer b₀ b' l m g cases' (Fails u)
      cases_fail u E = record {
        grown = omega (arith, G.grown, E.grown);
        comes = λ w e R P. let L = G.left w e R P in cases_lost b l t w g c at cases _ L k b' cases' u (E.comes w L.state L.ready (case_given b l t w g c at cases _ L k));
      }

      pub cases_short : (x : Refusal) → CaseAnswers b b' l t g c cases cases' at (Refused x) → CasesAnswer b₀ b' l m g cases' (Refused x)
      cases_short x E = record { grown = tt; comes = λ w e R P. let L = G.left w e R P in cases_refused b l t w g c at cases _ L k b' cases' t x (E.comes w L.state L.ready (case_given b l t w g c at cases _ L k)) }

      module _ (u : Standing) (to : ℕ) (E : CaseAnswers b b' l t g c cases cases' at (All u to)) where
        pub next-asked : AskedFor b₀ l m (Plain g) → Within b'.work (chainsOf l) × (length b'.work ≤ most_words) × (c < (chainsOf l).items)
        next-asked A =
            let w = A.world in
            let L = G.left w A.state A.ready A.holds in
            let C = E.comes w L.state L.ready (case_given b l t w g c at cases _ L k) in
            let H = C.4 in
            (constructors_within b'.work l H.laid, H.laid.small, omega (arith, (L.from.here k).0, symbols-room b' l u w C.0 H))

        module _ (c' : ℕ) (N : NextOf b'.work (chainsOf l) c c') where
          pub cases_less : AskedFor b₀ l m (Plain g) → g.sort < l.hand.catalog.cap → no_number - c' < no_number - c
          cases_less A small =
              let w = A.world in
              let L = G.left w A.state A.ready A.holds in
              let h = L.from.here k in
              let C = E.comes w L.state L.ready (case_given b l t w g c at cases _ L k) in
              let n = (N.next _ _ _ C.4.proper.few.symbols small C.4.constructors h.0 h.1).1 in
              omega arith

          pub cases_go_on : AskedFor b₀ l m (Plain g) → g.sort < l.hand.catalog.cap → length cases' ≡ length cases → CasesGo b₀ b' l m u g c' to cases'
          cases_go_on A small same =
              let less = cases_less A small in
              record {
                grown = omega (arith, G.grown, E.grown.0);
                room = omega (arith, G.room, E.grown.2);
                most = omega (arith, G.room, E.grown.2);
                long = same ∙ G.long;
                left = λ w e R P.
                    let L = G.left w e R P in
                    let h = L.from.here k in
                    let C = E.comes w L.state L.ready (case_given b l t w g c at cases _ L k) in
                    cases_on b l t w g c at cases _ L k b' cases' u to c' C (N.next _ _ _ C.4.proper.few.symbols small C.4.constructors h.0 h.1).0;
              }

-- ---- the line
module _ (b b' : Buffers) (l : Places) (m : Standing) (g : Inducting) (cases : List ℕ) where
  abbrev j : ℕ
  j = g.judgment

  pub induct_fails : (t : Standing) → CasesAnswer b b' l m g cases (Fails t) → AnswersFor b b' l m (Plain g) (λ w. induct w.setting (tries w) j) (Unproved t)
  unfolding induct
  induct_fails t F = record { grown = F.grown; comes = λ w e R P. let C = F.comes w e R P in (C.0, then_lost w.lent (induct_cases w.setting (tries w) j (constructors_of w.setting.sort w.setting.pack.symbols 0)) _ e C.0 C.1, C.2) }

  pub induct_short : (x : Refusal) → CasesAnswer b b' l m g cases (Refused x) → AnswersFor b b' l m (Plain g) (λ w. induct w.setting (tries w) j) (Short x)
  unfolding induct
  induct_short x F = record { grown = tt; comes = λ w e R P. then_refused w.lent (induct_cases w.setting (tries w) j (constructors_of w.setting.sort w.setting.pack.symbols 0)) _ e x (F.comes w e R P) }

  module _ (t : Standing) (to : ℕ) (F : CasesAnswer b b' l m g cases (All t to)) where
    -- the state behind the cases
    behind : (w : World) (e : Emitter) (R : Ready b l m w e) (P : Plain g w e) → Ready b' l t w (F.comes w e R P).0 × Plain g w (F.comes w e R P).0
    behind w e R P =
        let S = w.setting in
        let Q = R.holding.proper in
        let C = F.comes w e R P in
        let T : Tried (List Case) = record { result = some C.1; state = C.0 } in
        let cs = constructors_of S.sort S.pack.symbols 0 in
        let O = goes_on w.lent S (λ _ _. Unit {0}) (induct_cases S (tries w) j cs) e T (cases_come S Q.good Q.few (tries w) (λ hyps q x s H h. prove_comes S Q.good Q.few hyps (deepest - 1) q x s H h) j cs e (constructors_given S Q.good Q.few [] S.pack.symbols refl) R.sound P.given.has) C.2 in
        (ready_on b b' l m t w e (λ _ _. Unit {0}) T R O C.4, plain_on g w e C.0 P (has_on S e C.0 O.grew prop j P.given.has))

    pub line-asked : AskedFor b l m (Plain g) → Asked b' l t j
    line-asked A = let B = behind A.world A.state A.ready A.holds in record { world = A.world; state = (F.comes A.world A.state A.ready A.holds).0; ready = B.0; has = B.1.given.has }

    pub induct-line : (b'' : Buffers) (ns : List ℕ) (o : Proved) → Answers b' b'' l t j (stating (λ said. induct_line said (cases_in ns)) j) o → ns ≡ take to cases → AnswersFor b b'' l m (Plain g) (λ w. induct w.setting (tries w) j) o
    unfolding induct
    induct-line b'' ns o E z = record {
      grown = grown_then m t o F.grown.0 E.grown;
      comes = λ w e R P.
          let S = w.setting in
          let C = F.comes w e R P in
          let B = behind w e R P in
          let same : cases_in ns ≡ C.1 = ap cases_in (z ∙ C.3) ∙ cases_given C.1 in
          let q = then_got w.lent (induct_cases S (tries w) j (constructors_of S.sort S.pack.symbols 0)) (λ cases₁. judgment S j >>= λ said. write_step S (induct_line said cases₁)) e C.1 C.0 C.2 in
          let r : outcome w.lent (induct S (tries w) j e) ≡ outcome w.lent (stating (λ said. induct_line said (cases_in ns)) j w C.0) = q ∙ ap (λ (cs : List Case). outcome w.lent ((judgment S j >>= λ said. write_step S (induct_line said cs)) C.0)) (sym same) in
          subst (λ x. Comes b'' l w x o) (sym r) (E.comes w C.0 B.0 B.1.given.has);
    }
