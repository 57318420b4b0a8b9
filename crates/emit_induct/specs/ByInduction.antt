-- A judgment that mentions L, by induction, and kept as proved.
use Rattle.std.specs.Prelude.{◌≡◌, Bool, true, false, not, List, [], ◌∷◌, ℕ, suc, ◌<◌}
use Rattle.std.proofs.Math.Path.{refl, ap}
use Rattle.std.proofs.Common.{sym, subst, ◌∙◌, arith}
use Rattle.definition.specs.Store.{nothing}
use Rattle.definition.specs.Verdict.{Bound}
use Rattle.definition.specs.Run.{outcome, first_short}
use Rattle.definition.specs.declared.Refusal.{Refusal}
use Rattle.emission.specs.State.{Emitter, Setting, ◌>>=◌, give, change, having_proved}
use Rattle.emission.specs.Patterns.{mentions}
use Rattle.emission.specs.Prove.{keeping}
use Rattle.emission.specs.Induct.{induct, by_induction}
use Rattle.emit_replace.specs.Telling.{Mentionable, Tells}
use Rattle.emit_state.specs.Holding.{Buffers, lends, World, Holding, Ready, got, lost}
use Rattle.emit_state.specs.Frame.{having_work}
use Rattle.emit_state.specs.Turns.{then_got, then_lost, then_refused}
use Rattle.emit_state.specs.Searches.{now_then}
use Rattle.emit_state.specs.declared.places.Places.{Places}
use Rattle.emit_state.specs.declared.standing.Standing.{Standing}
use Rattle.emit_state.specs.declared.standing.Proved.TheVariants.{Line, Fails, Refused}
use Rattle.emit_search.specs.Known.{Remembering, Remembered}
use Rattle.emit_search.specs.Asking.{remembering, asked-room}
use Rattle.emit_case.specs.Asked.{AskedFor, AnswersFor}
use Rattle.emit_case.specs.Case.{tries}
use Rattle.emit_induct.specs.Cases.{Plain}
use Rattle.emit_induct.specs.Cutting.{Untried}
use Rattle.emit_case.specs.declared.goal.Inducting.{Inducting}

-- a test the other way round
pub not_taken : (r : Bool) → not r ≡ true → r ≡ false
not_taken true z = sym z
not_taken false z = refl

pub not_left : (r : Bool) → not r ≡ false → r ≡ true
not_left true z = refl
not_left false z = sym z

-- without hypotheses a judgment is kept
keeping_none : (hyps : List Bound) → hyps ≡ [] → (j n : ℕ) (e : Emitter) → keeping hyps j n e ≡ having_proved j n e
unfolding keeping
keeping_none hyps z j n e = ap (λ (hs : List Bound). keeping hs j n e) z

module _ (w : World) (j : ℕ) (e : Emitter) where
  abbrev S : Setting
  S = w.setting

  -- it does not mention L
  unmentioned : mentions (suc j) e.kept.store S.eigen (j ∷ []) ≡ false → outcome w.lent (by_induction S (tries w) j e) ≡ lost e
  unfolding by_induction outcome first_short
  unmentioned z = ap (outcome w.lent) (now_then _ e) ∙ rw z

  -- it does
  mentioned : mentions (suc j) e.kept.store S.eigen (j ∷ []) ≡ true
      → outcome w.lent (by_induction S (tries w) j e) ≡ outcome w.lent ((induct S (tries w) j >>= λ n. change (having_proved j n) >>= λ _. give n) e)
  unfolding by_induction
  mentioned z = ap (outcome w.lent) (now_then _ e) ∙ rw z

  kept-got : (n : ℕ) (e' : Emitter) → outcome w.lent ((change (having_proved j n) >>= λ _. give n) e') ≡ got n (having_proved j n e')
  unfolding outcome first_short
  kept-got n e' = then_got w.lent (change (having_proved j n)) (λ _. give n) e' tt (having_proved j n e') refl

module _ (pack work words proof : List ℕ) (l : Places) (m : Standing) (g : Inducting) where
  abbrev b : Buffers
  b = lends pack work words proof

  abbrev j : ℕ
  j = g.judgment

  -- what is asked of the patterns
  pub mentions-asked : AskedFor b l m (Untried l g) → Mentionable work words l m g.eigen j
  mentions-asked A = record {
    pack = pack;
    proof = proof;
    world = A.world;
    state = A.state;
    ready = A.ready;
    x_stored = omega (arith, A.holds.plain.given.eigen, A.ready.sound.L_stored);
    j_stored = A.holds.plain.given.has.stored;
  }

  module _ (work₁ : List ℕ) (r : Bool) (M : Tells work work₁ words l m g.eigen j r) where
    abbrev b₁ : Buffers
    b₁ = lends pack work₁ words proof

    told : (w : World) (e : Emitter) → Ready b l m w e → Untried l g w e → (r ≡ mentions (suc j) e.kept.store w.setting.eigen (j ∷ [])) × Holding b₁ l m w e
    told w e R U =
        let T = M pack proof w e R (omega (arith, U.plain.given.eigen, R.sound.L_stored)) U.plain.given.has.stored in
        (T.0 ∙ ap (λ (x : ℕ). mentions (suc j) e.kept.store x (j ∷ [])) U.plain.given.eigen, T.1)

    ready : (w : World) (e : Emitter) → Ready b l m w e → Untried l g w e → Ready b₁ l m w e
    ready w e R U = record { holding = (told w e R U).1; sound = R.sound; supposed = R.supposed }

    -- it is not mentioned
    pub induction_none : r ≡ false → AnswersFor b b₁ l m (Untried l g) (λ w. by_induction w.setting (tries w) j) (Fails m)
    induction_none z = record { grown = omega arith; comes = λ w e R U. let T = told w e R U in (e, unmentioned w j e (sym T.0 ∙ z), T.1) }

    module _ (z : r ≡ true) where
      pub induct-asked : AskedFor b l m (Untried l g) → AskedFor b₁ l m (Plain g)
      induct-asked A = record { world = A.world; state = A.state; ready = ready A.world A.state A.ready A.holds; holds = A.holds.plain }

      -- the run behind the test
      run : (w : World) (e : Emitter) → Ready b l m w e → Untried l g w e → outcome w.lent (by_induction w.setting (tries w) j e) ≡ outcome w.lent ((induct w.setting (tries w) j >>= λ n. change (having_proved j n) >>= λ _. give n) e)
      run w e R U = mentioned w j e (sym (told w e R U).0 ∙ z)

      module _ (b₂ : Buffers) where
        pub induction_fails : (t : Standing) → AnswersFor b₁ b₂ l m (Plain g) (λ w. induct w.setting (tries w) j) (Fails t) → AnswersFor b b₂ l m (Untried l g) (λ w. by_induction w.setting (tries w) j) (Fails t)
        induction_fails t F = record { grown = F.grown; comes = λ w e R U. let C = F.comes w e (ready w e R U) U.plain in (C.0, run w e R U ∙ then_lost w.lent (induct w.setting (tries w) j) _ e C.0 C.1, C.2) }

        pub induction_short : (x : Refusal) → AnswersFor b₁ b₂ l m (Plain g) (λ w. induct w.setting (tries w) j) (Refused x) → AnswersFor b b₂ l m (Untried l g) (λ w. by_induction w.setting (tries w) j) (Refused x)
        induction_short x F = record { grown = tt; comes = λ w e R U. run w e R U ∙ then_refused w.lent (induct w.setting (tries w) j) _ e x (F.comes w e (ready w e R U) U.plain) }

        module _ (t : Standing) (n : ℕ) (F : AnswersFor b₁ b₂ l m (Plain g) (λ w. induct w.setting (tries w) j) (Line t n)) where
          pub keep-asked : AskedFor b l m (Untried l g) → n < nothing → Remembering b₂.work l t × (j < l.room) × (n < nothing)
          keep-asked A small =
              let w = A.world in
              let e = A.state in
              let C = F.comes w e (ready w e A.ready A.holds) A.holds.plain in
              (remembering b₂ l t w C.0 C.2, asked-room b l m w e A.ready j A.holds.plain.given.has, small)

          -- its line is kept
          pub induction_line : (work₃ : List ℕ) (u : Standing) → Remembered b₂.work work₃ l t j n u → AnswersFor b (having_work work₃ b₂) l m (Untried l g) (λ w. by_induction w.setting (tries w) j) (Line u n)
          induction_line work₃ u K = record {
            grown = let s = ap (λ x. x.len) K.store in omega (arith, F.grown);
            comes = λ w e R U.
                let C = F.comes w e (ready w e R U) U.plain in
                let H = K.comes b₂ w C.0 refl U.fresh C.2 in
                let q = run w e R U ∙ then_got w.lent (induct w.setting (tries w) j) (λ k. change (having_proved j k) >>= λ _. give k) e n C.0 C.1 ∙ kept-got w j e n C.0 in
                (having_proved j n C.0, q, subst (λ x. Holding (having_work work₃ b₂) l u w x) (keeping_none w.hyps U.plain.none j n C.0) H);
          }
