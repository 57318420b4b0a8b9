-- A constructor's case: its variables, then its judgment, then its numbers.
use Rattle.std.specs.Prelude.{Ok, Err}
use Rattle.std.specs.Prelude.{◌≡◌, refl, length, take}
use Rattle.std.proofs.Math.Path.{sym}
use Rattle.std.proofs.Common.{ap, subst, ◌∙◌, arith, length-take}
use mathlib.Core.List.{List, [], ◌∷◌, ◌++◌, map}
use Rattle.std.proofs.Math.Option.{some}
use Prim.Native.Nat.{ℕ, zero, suc, ◌+◌, ◌≤◌}
use Rattle.definition.specs.Store.{nothing}
use Rattle.definition.specs.Pack.{most_arity, symbol_of}
use Rattle.definition.specs.Verdict.{Bound}
use Rattle.definition.specs.Frame.{refuse}
use Rattle.definition.specs.Run.{outcome, first_short}
use Rattle.definition.specs.declared.Refusal.{Refusal}
use Rattle.emission.specs.Line.{Case, tally}
use Rattle.emission.specs.State.{Emitter, Tried, Search, ◌>>=◌, give, interned}
use Rattle.emission.specs.Induct.{case_variables, recursive, put_for_l, suppose, induct_case}
use Rattle.emit_theory.specs.Search.Proving.{HasAll}
use Rattle.emit_theory.specs.Search.Cases.{values, inputs_proper, variables_come}
use Rattle.emit_lines.specs.Cases.{case_words}
use Rattle.emit_state.specs.Holding.{Buffers, World, Ready, got, lost}
use Rattle.emit_state.specs.Turns.{then_got, then_lost, then_refused}
use Rattle.emit_state.specs.Searches.{then_assoc, then_ext}
use Rattle.emit_state.specs.Onward.{goes_on, ready_on}
use Rattle.emit_state.specs.declared.places.Places.{Places}
use Rattle.emit_state.specs.declared.standing.Standing.{Standing}
use Rattle.emit_state.specs.declared.standing.Proved.TheVariants.{Line, Fails, Refused}
use Rattle.emit_case.specs.Asked.{AskedFor, AnswersFor}
use Rattle.emit_case.specs.Runs.{goal_with, supposing_run, over_run}
use Rattle.emit_case.specs.Variables.{numbers_from, MakesVariables}
use Rattle.emit_case.specs.Naming.{variables_are, asked_small}
use Rattle.emit_case.specs.Casing.{over, given_on}
use Rattle.emit_case.specs.Case.{most_case, tries, over_case, InCase, Varied, case_numbers, CaseAnswers}
use Rattle.emit_case.specs.declared.goal.Inducting.{Inducting}
use Rattle.emit_case.specs.declared.case.Cases.TheVariants.{All, Fails as Case-as-Fails, Refused as Case-as-Refused}

-- ---- on plain values
-- so many numbers are so many
numbers_long : (n k : ℕ) → length (numbers_from n k) ≡ n
unfolding numbers_from
numbers_long zero k = refl
numbers_long (suc n) k = let ih = numbers_long n (suc k) in omega arith

-- a case by its last line and its variables
abbrev case_by : List Bound → ℕ → Case
case_by bs last = record { last = last; variables = map (λ (v : Bound). v.variable) bs }

-- its numbers
case_words_law : (bs : List Bound) (last n k : ℕ) → map (λ (v : Bound). v.variable) bs ≡ numbers_from n k → case_numbers last n k ≡ case_words (case_by bs last)
unfolding case_numbers
case_words_law bs last n k q =
    ap (λ (i : ℕ). last ∷ i ∷ numbers_from n k) (sym (ap length q ∙ numbers_long n k)) ∙ ap (λ (ns : List ℕ). last ∷ length (map (λ (v : Bound). v.variable) bs) ∷ ns) (sym q)

module _ (w : World) (j c : ℕ) (e : Emitter) where
  -- the sorts of its inputs
  abbrev inputs : List ℕ
  inputs = (symbol_of w.setting.pack c).inputs

  -- the variables
  abbrev made : Search (List Bound)
  made = case_variables w.setting inputs

  -- the constructor over them, then the case
  abbrev case_over : List Bound → Search Case
  case_over bs = over_case w j c (values bs) >>= λ n. give (case_by bs n)

  -- the whole case
  abbrev whole : Search Case
  whole = induct_case w.setting (tries w) j c

  -- put together another way
  case_then : whole e ≡ (made >>= case_over) e
  unfolding induct_case over_run supposing_run goal_with
  case_then =
      let S = w.setting in
      then_ext made _ case_over e (λ bs e₁.
      let ps = values bs in
      let N = interned (over c ps) in
      let H = suppose S j (recursive S.sort inputs ps) [] in
      let G : ℕ → Search Case = λ n. give (case_by bs n) in
      sym (then_assoc N _ G e₁ ∙ then_ext N _ _ e₁ (λ term e₂. then_assoc H _ G e₂ ∙ then_ext H _ _ e₂ (λ hyps e₃. then_assoc (put_for_l S term j) _ G e₃))))

  -- a buffer is short at the variables
  none_made : (x : Refusal) → outcome w.lent (made e) ≡ refuse x → outcome w.lent (whole e) ≡ refuse x
  none_made x h = ap (outcome w.lent) case_then ∙ then_refused w.lent made case_over e x h

  module _ (bs : List Bound) (e₁ : Emitter) (h : outcome w.lent (made e) ≡ got bs e₁) (ps : List ℕ) (p : values bs ≡ ps) where
    -- they are gone on from
    made_then : outcome w.lent (whole e) ≡ outcome w.lent (case_over bs e₁)
    made_then = ap (outcome w.lent) case_then ∙ then_got w.lent made case_over e bs e₁ h

    -- the judgment has a line
    over-got : (n : ℕ) (e₂ : Emitter) → outcome w.lent (over_case w j c ps e₁) ≡ got n e₂ → outcome w.lent (whole e) ≡ got (case_by bs n) e₂
    unfolding outcome first_short
    over-got n e₂ q = made_then ∙ then_got w.lent (over_case w j c (values bs)) _ e₁ n e₂ (ap (λ (zs : List ℕ). outcome w.lent (over_case w j c zs e₁)) p ∙ q)

    -- it has none
    over-lost : (e₂ : Emitter) → outcome w.lent (over_case w j c ps e₁) ≡ lost e₂ → outcome w.lent (whole e) ≡ lost e₂
    over-lost e₂ q = made_then ∙ then_lost w.lent (over_case w j c (values bs)) _ e₁ e₂ (ap (λ (zs : List ℕ). outcome w.lent (over_case w j c zs e₁)) p ∙ q)

    -- a buffer is short
    over-refused : (x : Refusal) → outcome w.lent (over_case w j c ps e₁) ≡ refuse x → outcome w.lent (whole e) ≡ refuse x
    over-refused x q = made_then ∙ then_refused w.lent (over_case w j c (values bs)) _ e₁ x (ap (λ (zs : List ℕ). outcome w.lent (over_case w j c zs e₁)) p ∙ q)

-- ---- in states that the buffers hold
module _ (b b₁ : Buffers) (l : Places) (m : Standing) (g : Inducting) (c : ℕ) (vs : List ℕ) where
  -- a buffer is short
  pub case_short : (x : Refusal) → MakesVariables b b₁ l m c vs (Err x) → (cases cases' : List ℕ) (at : ℕ) → CaseAnswers b b₁ l m g c cases cases' at (Case-as-Refused x)
  case_short x F cases cases' at = record { grown = tt; comes = λ w e R K. none_made w g.judgment c e x (F.comes w e R (record { symbol = K.symbol })) }

  module _ (t : Standing) (n : ℕ) (F : MakesVariables b b₁ l m c vs (Ok (t, n))) where
    -- few variables, with small numbers
    pub numbers_small : AskedFor b l m (InCase g c) → (n ≤ most_arity) × (m.variables + 1 + most_case ≤ nothing)
    numbers_small A = (F.grown.1, omega (arith, asked_small b l m (InCase g c) A))

    module _ (zs : List ℕ) (z : zs ≡ take n vs) where
      -- the state with the variables
      record WithVariables (w : World) (e : Emitter) : Type 0 where
        bound : List Bound
        state : Emitter
        is_so : outcome w.lent (made w g.judgment c e e) ≡ got bound state
        patterns : values bound ≡ zs
        numbers : map (λ (v : Bound). v.variable) bound ≡ numbers_from n (m.variables + 1)
        ready : Ready b₁ l t w state
        varied : Varied g c zs w state

      -- there is one
      with_variables : (w : World) (e : Emitter) → Ready b l m w e → InCase g c w e → WithVariables w e
      with_variables w e R K =
          let S = w.setting in
          let P = R.holding.proper in
          let sorts = (symbol_of S.pack c).inputs in
          let C = F.comes w e R (record { symbol = K.symbol }) in
          let T : Tried (List Bound) = record { result = some C.0; state = C.1 } in
          let Q : List Bound → Emitter → Type 0 = λ bs e₁. HasAll S e₁ sorts (values bs) in
          let O = goes_on w.lent S Q (case_variables S sorts) e T (variables_come S P.good P.few sorts e R.sound (inputs_proper S P.good P.few c K.symbol)) C.2 in
          let ps : values C.0 ≡ zs = C.4 ∙ sym z in
          let k : suc (tally e.undone.lines).variables ≡ m.variables + 1 = omega (arith, variables_are b l m w e R.holding) in
          record {
            bound = C.0;
            state = C.1;
            is_so = C.2;
            patterns = ps;
            numbers = C.5 ∙ ap (λ (i : ℕ). numbers_from n i) k;
            ready = ready_on b b₁ l m t w e Q T R O C.6;
            varied = record {
              in_case = record { none = K.none; given = given_on g w e C.1 O.grew K.given; symbol = K.symbol; output = K.output };
              few = omega (arith, ap length z, length-take n vs, F.grown.1);
              has_all = subst (λ (ys : List ℕ). HasAll S C.1 sorts ys) ps (O.holds C.0 refl);
            };
          }

      -- the judgment over them is asked for
      pub varied_asked : AskedFor b l m (InCase g c) → AskedFor b₁ l t (Varied g c zs)
      varied_asked A = let N = with_variables A.world A.state A.ready A.holds in record { world = A.world; state = N.state; ready = N.ready; holds = N.varied }

      module _ (b₂ : Buffers) (cases cases' : List ℕ) (at : ℕ) where
        -- the run of the judgment
        abbrev over_them : World → Search ℕ
        over_them w = over_case w g.judgment c zs

        -- it has a line
        pub case_line : (u : Standing) (last : ℕ) → AnswersFor b₁ b₂ l t (Varied g c zs) over_them (Line u last) → take (at + 2 + n) cases' ≡ take at cases ++ case_numbers last n (m.variables + 1)
            → CaseAnswers b b₂ l m g c cases cases' at (All u (at + 2 + n))
        case_line u last E q = record {
          grown = (omega (arith, F.grown.0, E.grown), omega arith, omega (arith, F.grown.1));
          comes = λ w e R K.
              let N = with_variables w e R K in
              let C = E.comes w N.state N.ready N.varied in (
                C.0,
                case_by N.bound last,
                over-got w g.judgment c e N.bound N.state N.is_so zs N.patterns last C.0 C.1,
                q ∙ ap (λ (xs : List ℕ). take at cases ++ xs) (case_words_law N.bound last n (m.variables + 1) N.numbers),
                C.2,
              );
        }

        -- it has none
        pub case_fails : (u : Standing) → AnswersFor b₁ b₂ l t (Varied g c zs) over_them (Fails u) → CaseAnswers b b₂ l m g c cases cases' at (Case-as-Fails u)
        case_fails u E = record {
          grown = omega (arith, F.grown.0, E.grown);
          comes = λ w e R K.
              let N = with_variables w e R K in
              let C = E.comes w N.state N.ready N.varied in
              (C.0, over-lost w g.judgment c e N.bound N.state N.is_so zs N.patterns C.0 C.1, C.2);
        }

        -- a buffer is short
        pub case_refused : (x : Refusal) → AnswersFor b₁ b₂ l t (Varied g c zs) over_them (Refused x) → CaseAnswers b b₂ l m g c cases cases' at (Case-as-Refused x)
        case_refused x E = record {
          grown = tt;
          comes = λ w e R K.
              let N = with_variables w e R K in
              over-refused w g.judgment c e N.bound N.state N.is_so zs N.patterns x (E.comes w N.state N.ready N.varied);
        }
