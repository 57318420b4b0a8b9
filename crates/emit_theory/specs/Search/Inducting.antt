-- Induction on L, and a cut judgment's proof: the state stays sound, and the line that is named states the judgment.
use Rattle.std.specs.Prelude.{◌≡◌, Bool, eqb}
use Rattle.std.proofs.Math.Path.{refl, sym, ap, subst}
use Rattle.std.proofs.Common.{◌∙◌}
use Rattle.std.proofs.Math.Bool.{true, false}
use mathlib.Core.List.{List, [], ◌∷◌, ◌++◌, append_assoc, map}
use Prim.Native.Nat.{ℕ, suc, ◌-◌, ◌<◌}
use native.Mathlib.Omega.{arith}
use borrow.Author.Tests.{eqb-true}
use Rattle.std.proofs.Math.ListN.{length, get_or, length-append}
use Rattle.std.proofs.Math.Seq.{get_or_at}
use Rattle.definition.specs.Test.{is, see, never}
use Rattle.definition.specs.Pack.{prop, Symbol, no_such_symbol, symbol_of}
use Rattle.definition.specs.Good.{Good, Few}
use Rattle.definition.specs.Verdict.{Bound}
use Rattle.definition.specs.Analysis.{pairing}
use Rattle.emission.specs.Line.{Case, hyp_line, induct_line}
use Rattle.emission.specs.State.{Emitter, Setting, Search, ◌>>=◌, give, fail, change, grown_to, interned, write_step, having_proved}
use Rattle.emission.specs.Words.{judgment}
use Rattle.emission.specs.Patterns.{constructors_of, mentions, replace}
use Rattle.emission.specs.Prove.{chain, prove}
use Rattle.emission.specs.Induct.{case_variables, recursive, put_for_l, suppose, induct_case, induct_cases, induct, by_induction, deepest, prove_cut}
use Rattle.theory.specs.Patterns.Interned.{grows_none}
use Rattle.emit_theory.specs.Said.{stating}
use Rattle.emit_theory.specs.Patterns.{Of, AllOf, no_of, of_more}
use Rattle.emit_theory.specs.Sound.{Sound, Grew, grew_then}
use Rattle.emit_theory.specs.Comes.{Comes, gives, fails, changes, then_comes, or_comes, now_comes}
use Rattle.emit_theory.specs.Writes.{each_more, sound_proved, grown_comes}
use Rattle.emit_theory.specs.Search.Stating.{JudgmentIs, judgment_comes, write-step_comes}
use Rattle.emit_theory.specs.Search.Proving.{Has, HasAll, L_sort, States, has_on, has_all_on, states_on, Supposed, supposed_on, L_variable, case_variable, judgment-applied, chain_comes, prove_comes}
use Rattle.emit_theory.specs.Search.Replacing.{Stays, put_all}
use Rattle.emit_theory.specs.Search.Cases.{application_comes, inputs_proper, values, variables_come}

-- patterns of L's sort
pub data LikeL (S : Setting) (e : Emitter) : List ℕ → Type 0 where
  no_like : LikeL S e []
  like_more : (v : ℕ) (vs : List ℕ) → Has S e S.sort v → LikeL S e vs → LikeL S e (v ∷ vs)

module _ (S : Setting) (good : Good S.pack) (few : Few S.pack) where
  -- ---- another pattern for L
  stays : (e : Emitter) → Sound S e → Stays S.pack few S.eigen e.undone.names e.kept.store
  stays e s = record { sorted = s.sorted; L_stored = s.L_stored; cases_stored = λ p k h. (s.names p k h).stored; variables = record { of_L = L_variable S e s; of_cases = case_variable S e s } }

  -- the one pattern of a list of one
  only : (e : Emitter) (so : ℕ) (ps : List ℕ) → HasAll S e (so ∷ []) ps → Has S e so (get_or ps 0 0)
  only e so _ (of_more _ p _ _ O no_of) = O

  pub put_for_L_comes : (so y j : ℕ) (e : Emitter) → Sound S e → Has S e S.sort y → Has S e so j → Comes S (λ p e₁. Has S e₁ so p) (put_for_l S y j) e
  unfolding put_for_l
  put_for_L_comes so y j e s Y O =
      let P = S.pack in
      let x = e.kept.store in
      let Q : ℕ → Emitter → Type 0 = λ p e₁. Has S e₁ so p in
      let R = put_all P few S.eigen e.undone.names y S.sort (suc j) (so ∷ []) (j ∷ []) x (stays e s) (L_sort S e s) Y (of_more so j [] [] O no_of) (omega arith, tt) in
      let put = replace (suc j) S.eigen y (j ∷ []) x in
      now_comes S Q _ e s (then_comes S _ Q (grown_to put.store) _ e (grown_comes S e s put.store R.grows R.sorted)
      (λ _ e₁ g t z. gives S Q (get_or put.numbers 0 0) e₁ t (only e₁ so put.numbers (
      subst (λ u. AllOf P S.eigen u.names e₁.kept.store (so ∷ []) put.numbers) (sym z.1) (subst (λ w. AllOf P S.eigen e.undone.names w (so ∷ []) put.numbers) (sym z.0) R.patterns)))))

  -- ---- hypotheses
  pub like_on : (a b : Emitter) → Grew a b → (vs : List ℕ) → LikeL S a vs → LikeL S b vs
  like_on a b G _ no_like = no_like
  like_on a b G _ (like_more v vs h hs) = like_more v vs (has_on S a b G S.sort v h) (like_on a b G vs hs)

  pub recursive_like : (e : Emitter) (sorts vs : List ℕ) → HasAll S e sorts vs → LikeL S e (recursive S.sort sorts vs)
  unfolding recursive
  recursive_like e [] vs hs = no_like
  recursive_like e (so ∷ sorts) [] hs = no_like
  recursive_like e (so ∷ sorts) (v ∷ vs) (of_more _ _ _ _ h hs) = elim (see (eqb so S.sort)) [
    | is true t ↦ rw (t, recursive) (like_more v (recursive S.sort sorts vs) (subst (λ x. Has S e x v) (eqb-true so S.sort t) h) (recursive_like e sorts vs hs))
    | is false t ↦ rw (t, recursive) (recursive_like e sorts vs hs)
  ]

  -- each is stated by its line
  pub suppose_comes : (j : ℕ) (vs : List ℕ) (hyps : List Bound) (e : Emitter) → Sound S e → Has S e prop j → LikeL S e vs → Supposed hyps e → Comes S Supposed (suppose S j vs hyps) e
  unfolding suppose stating
  suppose_comes j [] hyps e s h ls H = gives S Supposed hyps e s H
  suppose_comes j (v ∷ vs) hyps e s h (like_more _ _ l ls) H =
      then_comes S (λ p e₁. Has S e₁ prop p) Supposed (put_for_l S v j) _ e (put_for_L_comes prop v j e s l h)
      (λ p e₁ g₁ t₁ P₁. then_comes S (JudgmentIs p) Supposed (judgment S p) _ e₁ (judgment_comes S p e₁ t₁ P₁.spoken (judgment-applied S e₁ t₁ p P₁))
      (λ said e₂ g₂ t₂ J. then_comes S (States p) Supposed (write_step S (hyp_line said)) _ e₂ (write-step_comes S (hyp_line said) said p e₂ t₂ (has_on S e₁ e₂ g₂ prop p P₁).stored refl J)
      (λ n e₃ g₃ t₃ T.
      let G = grew_then e e₁ e₃ g₁ (grew_then e₁ e₂ e₃ g₂ g₃) in
      suppose_comes j vs (pairing p n ∷ hyps) e₃ t₃ (has_on S e e₃ G prop j h) (like_on e e₃ G vs ls) (each_more (λ q m. States q m e₃) p n hyps T (supposed_on e e₃ G hyps H)))))

  -- ---- induction
  abbrev pub Deepens : (List Bound → ℕ → Search ℕ) → Type 0
  Deepens deeper = (hyps : List Bound) (q : ℕ) (e : Emitter) → Sound S e → Supposed hyps e → Has S e prop q → Comes S (States q) (deeper hyps q) e

  -- constructors of L's sort
  abbrev pub Constructors : List ℕ → Type 0
  Constructors [] = Unit {0}
  Constructors (c ∷ cs) = (c < length S.pack.symbols) × ((symbol_of S.pack c).output ≡ S.sort) × Constructors cs

  pub constructors_given : (ys zs : List Symbol) → S.pack.symbols ≡ ys ++ zs → Constructors (constructors_of S.sort zs (length ys))
  unfolding constructors_of symbol_of
  constructors_given ys [] q = tt
  constructors_given ys (y ∷ zs) q =
      let k = length-append ys (y ∷ zs) in
      let l = ap length q in
      let m = length-append ys (y ∷ []) in
      let r : S.pack.symbols ≡ (ys ++ (y ∷ [])) ++ zs = q ∙ sym (append_assoc ys (y ∷ []) zs) in
      let next : suc (length ys) ≡ length (ys ++ (y ∷ [])) = omega arith in
      let others = subst (λ i. Constructors (constructors_of S.sort zs i)) (sym next) (constructors_given (ys ++ (y ∷ [])) zs r) in
      elim (see (eqb y.output S.sort)) [
        | is true t ↦
            let at : symbol_of S.pack (length ys) ≡ y = ap (λ x. get_or x (length ys) no_such_symbol) q ∙ get_or_at ys y zs no_such_symbol (length ys) refl in
            rw (t, constructors_of) (omega arith, ap (λ (x : Symbol). x.output) at ∙ eqb-true y.output S.sort t, others)
        | is false t ↦ rw (t, constructors_of) others
      ]

  module _ (deeper : List Bound → ℕ → Search ℕ) (D : Deepens deeper) (j : ℕ) where
    pub case_comes : (c : ℕ) (e : Emitter) → c < length S.pack.symbols → (symbol_of S.pack c).output ≡ S.sort → Sound S e → Has S e prop j → Comes S (λ case e₁. Unit {0}) (induct_case S deeper j c) e
    unfolding induct_case
    case_comes c e l o s h =
        let sorts = (symbol_of S.pack c).inputs in
        let Q : Case → Emitter → Type 0 = λ case e₁. Unit {0} in
        then_comes S (λ vs e₁. HasAll S e₁ sorts (values vs)) Q (case_variables S sorts) _ e (variables_come S good few sorts e s (inputs_proper S good few c l))
        (λ vs e₁ g₁ t₁ hs. then_comes S _ Q (interned (record { head = c; args = values vs })) _ e₁ (application_comes S few e₁.undone.names c (values vs) e₁ t₁ l hs)
        (λ term e₂ g₂ t₂ z. then_comes S Supposed Q (suppose S j (recursive S.sort sorts (values vs)) []) _ e₂
        (suppose_comes j (recursive S.sort sorts (values vs)) [] e₂ t₂ (has_on S e e₂ (grew_then e e₁ e₂ g₁ g₂) prop j h) (recursive_like e₂ sorts (values vs) (has_all_on S e₁ e₂ g₂ sorts (values vs) hs)) (λ p n z. never (cc)))
        (λ hyps e₃ g₃ t₃ H.
        let G = grew_then e e₁ e₃ g₁ (grew_then e₁ e₂ e₃ g₂ g₃) in
        let Y : Has S e₂ (symbol_of S.pack c).output term = subst (λ u. Of S.pack S.eigen u.names e₂.kept.store (symbol_of S.pack c).output term) (sym z.0) z.1 in
        then_comes S (λ p e₄. Has S e₄ prop p) Q (put_for_l S term j) _ e₃ (put_for_L_comes prop term j e₃ t₃ (subst (λ x. Has S e₃ x term) o (has_on S e₂ e₃ g₃ (symbol_of S.pack c).output term Y)) (has_on S e e₃ G prop j h))
        (λ goal e₄ g₄ t₄ K. then_comes S (States goal) Q (chain S (λ q. deeper hyps q) goal) _ e₄ (chain_comes S good few hyps (λ q. deeper hyps q) (D hyps) goal e₄ t₄ (supposed_on e₃ e₄ g₄ hyps H) K)
        (λ n e₅ g₅ t₅ T. gives S Q (record { last = n; variables = map (λ (v : Bound). v.variable) vs }) e₅ t₅ tt)))))

    pub cases_come : (cs : List ℕ) (e : Emitter) → Constructors cs → Sound S e → Has S e prop j → Comes S (λ cases e₁. Unit {0}) (induct_cases S deeper j cs) e
    unfolding induct_cases
    cases_come [] e l s h = gives S _ [] e s tt
    cases_come (c ∷ cs) e l s h =
        then_comes S _ _ (induct_case S deeper j c) _ e (case_comes c e l.0 l.1 s h)
        (λ case e₁ g t _. then_comes S _ _ (induct_cases S deeper j cs) _ e₁ (cases_come cs e₁ l.2 t (has_on S e e₁ g prop j h)) (λ cases e₂ _ u _. gives S _ (case ∷ cases) e₂ u tt))

    -- the induct line states the judgment
    pub induct_comes : (e : Emitter) → Sound S e → Has S e prop j → Comes S (States j) (induct S deeper j) e
    unfolding induct stating
    induct_comes e s h =
        let cs = constructors_of S.sort S.pack.symbols 0 in
        then_comes S _ (States j) (induct_cases S deeper j cs) _ e (cases_come cs e (constructors_given [] S.pack.symbols refl) s h)
        (λ cases e₁ g t _. let K = has_on S e e₁ g prop j h in then_comes S (JudgmentIs j) (States j) (judgment S j) _ e₁ (judgment_comes S j e₁ t K.spoken (judgment-applied S e₁ t j K))
        (λ said e₂ g₂ t₂ J. write-step_comes S (induct_line said cases) said j e₂ t₂ (has_on S e₁ e₂ g₂ prop j K).stored refl J))

    by_induction_comes : (e : Emitter) → Sound S e → Has S e prop j → Comes S (States j) (by_induction S deeper j) e
    unfolding by_induction
    by_induction_comes e s h = now_comes S (States j) _ e s (by (mentions (suc j) e.kept.store S.eigen (j ∷ [])))
      where
        by : (b : Bool) → Comes S (States j) (elim b as (λ _. Search ℕ) [ false ↦ fail | true ↦ induct S deeper j >>= λ n. change (having_proved j n) >>= λ _. give n ]) e
        by false = fails S (States j) e s
        by true =
            then_comes S (States j) (States j) (induct S deeper j) _ e (induct_comes e s h)
            (λ n e₁ g t T. then_comes S _ (States j) (change (having_proved j n)) _ e₁ (changes S (having_proved j n) e₁ (record { lines = grows_none e₁.undone.lines; store = grows_none e₁.kept.store; names = λ p k z. (k, z) }) (sound_proved S e₁ t j n T))
            (λ _ e₂ g₂ u q. gives S (States j) n e₂ u (states_on e₁ e₂ g₂ j n T)))

  -- a cut judgment's line states it
  pub prove-cut_comes : (j : ℕ) (e : Emitter) → Sound S e → Has S e prop j → Comes S (States j) (prove_cut S j) e
  unfolding prove_cut
  prove-cut_comes j e s h =
      or_comes S (States j) (prove (suc deepest) S [] j) _ e (prove_comes S good few [] (suc deepest) j e s (λ p n z. never (cc)) h)
      (λ e₁ g t. by_induction_comes (λ hyps q. prove (deepest - 1) S hyps q) (λ hyps q e₂ u H k. prove_comes S good few hyps (deepest - 1) q e₂ u H k) j e₁ t (has_on S e e₁ g prop j h))
