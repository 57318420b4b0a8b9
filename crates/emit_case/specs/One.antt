-- One hypothesis: put for L, written, entered.
use Rattle.std.specs.Prelude.{Ok, Err}
use Rattle.std.specs.Prelude.{◌≡◌, refl, List, ◌∷◌, ℕ, ◌<◌}
use Rattle.std.proofs.Math.Path.{sym}
use Rattle.std.proofs.Common.{ap, ◌∙◌, arith}
use Rattle.definition.specs.Pack.{prop}
use Rattle.definition.specs.Good.{Good, Few}
use Rattle.definition.specs.Store.{nothing}
use Rattle.definition.specs.Verdict.{Bound}
use Rattle.definition.specs.Analysis.{pairing}
use Rattle.definition.specs.Frame.{refuse}
use Rattle.definition.specs.Answer.{Lent}
use Rattle.definition.specs.Run.{outcome, first_short}
use Rattle.definition.specs.declared.Refusal.{Refusal}
use Rattle.store.specs.declared.nodes.Store.{Store}
use Rattle.emission.specs.State.{Emitter, Setting, Search, ◌>>=◌, give, write_step}
use Rattle.emission.specs.Line.{hyp_line}
use Rattle.emission.specs.Words.{judgment}
use Rattle.emission.specs.Induct.{put_for_l, suppose}
use Rattle.emit_theory.specs.Said.{stating}
use Rattle.emit_theory.specs.Sound.{Sound}
use Rattle.emit_theory.specs.Comes.{Comes as Kept, gives, then_comes}
use Rattle.emit_theory.specs.Search.Stating.{JudgmentIs, judgment_comes, write-step_comes}
use Rattle.emit_theory.specs.Search.Proving.{Has, States, has_on, judgment-applied}
use Rattle.emit_theory.specs.Search.Inducting.{put_for_L_comes}
use Rattle.emit_state.specs.Holding.{lends, Answers, got}
use Rattle.emit_state.specs.Turns.{then_got, then_refused}
use Rattle.emit_state.specs.Searches.{then_assoc, then_ext, give_then}
use Rattle.emit_state.specs.declared.places.Places.{Places}
use Rattle.emit_state.specs.declared.standing.Standing.{Standing}
use Rattle.emit_state.specs.declared.standing.Proved.TheVariants.{Line, Refused}
use Rattle.emit_case.specs.Leaves.{PutsFor}
use Rattle.emit_case.specs.Asked.{AskedFor, Termed}
use Rattle.emit_case.specs.Runs.{suppose_one, supposed}
use Rattle.emit_case.specs.Supposing.{Entering, Entered, SupposesOne}
use Rattle.emit_case.specs.Putting.{put_on, len_is, len_room}
use Rattle.emit_case.specs.declared.goal.Inducting.{Inducting}

-- ---- on plain values
module _ (l : Lent) (S : Setting) (v j : ℕ) (e : Emitter) where
  -- the judgment made is written, and its line is the hypothesis's
  one-got : (h : ℕ) (e₁ : Emitter) → outcome l (put_for_l S v j e) ≡ got h e₁ → (n : ℕ) (e₂ : Emitter) → outcome l (supposed S h e₁) ≡ got n e₂ → outcome l (suppose_one S v j e) ≡ got (pairing h n) e₂
  unfolding suppose_one outcome first_short
  one-got h e₁ p n e₂ q =
      then_got l (put_for_l S v j) (λ k. judgment S k >>= λ said. write_step S (hyp_line said) >>= λ i. give (pairing k i)) e h e₁ p
      ∙ sym (ap (outcome l) (then_assoc (judgment S h) (λ said. write_step S (hyp_line said)) (λ i. give (pairing h i)) e₁))
      ∙ then_got l (judgment S h >>= λ said. write_step S (hyp_line said)) (λ i. give (pairing h i)) e₁ n e₂ q

  -- there is no room for its line
  one_unwritten : (h : ℕ) (e₁ : Emitter) → outcome l (put_for_l S v j e) ≡ got h e₁ → (x : Refusal) → outcome l (supposed S h e₁) ≡ refuse x → outcome l (suppose_one S v j e) ≡ refuse x
  unfolding suppose_one
  one_unwritten h e₁ p x q =
      then_got l (put_for_l S v j) (λ k. judgment S k >>= λ said. write_step S (hyp_line said) >>= λ i. give (pairing k i)) e h e₁ p
      ∙ sym (ap (outcome l) (then_assoc (judgment S h) (λ said. write_step S (hyp_line said)) (λ i. give (pairing h i)) e₁))
      ∙ then_refused l (judgment S h >>= λ said. write_step S (hyp_line said)) (λ i. give (pairing h i)) e₁ x q

  -- nor for it
  one_unmade : (x : Refusal) → outcome l (put_for_l S v j e) ≡ refuse x → outcome l (suppose_one S v j e) ≡ refuse x
  unfolding suppose_one
  one_unmade x p = then_refused l (put_for_l S v j) _ e x p

  -- one ahead of others
  pub one_of_more : (vs : List ℕ) (hyps : List Bound) → outcome l (suppose S j (v ∷ vs) hyps e) ≡ outcome l ((suppose_one S v j >>= λ x. suppose S j vs (x ∷ hyps)) e)
  unfolding suppose_one suppose
  one_of_more vs hyps =
      let on : Bound → Search (List Bound) = λ x. suppose S j vs (x ∷ hyps) in
      sym (ap (outcome l) (
      then_assoc (put_for_l S v j) (λ h. judgment S h >>= λ said. write_step S (hyp_line said) >>= λ n. give (pairing h n)) on e
      ∙ then_ext (put_for_l S v j) (λ h. (judgment S h >>= λ said. write_step S (hyp_line said) >>= λ n. give (pairing h n)) >>= on) (λ h. judgment S h >>= λ said. write_step S (hyp_line said) >>= λ n. on (pairing h n)) e (λ h e₁.
      then_assoc (judgment S h) (λ said. write_step S (hyp_line said) >>= λ n. give (pairing h n)) on e₁
      ∙ then_ext (judgment S h) (λ said. (write_step S (hyp_line said) >>= λ n. give (pairing h n)) >>= on) (λ said. write_step S (hyp_line said) >>= λ n. on (pairing h n)) e₁ (λ said e₂.
      then_assoc (write_step S (hyp_line said)) (λ n. give (pairing h n)) on e₂
      ∙ then_ext (write_step S (hyp_line said)) (λ n. give (pairing h n) >>= on) (λ n. on (pairing h n)) e₂ (λ n e₃. give_then (pairing h n) on e₃)))))

-- its line states it
pub one_comes : (S : Setting) → Good S.pack → Few S.pack → (v j : ℕ) (e : Emitter) → Sound S e → Has S e S.sort v → Has S e prop j → Kept S (λ (x : Bound) e₁. States x.variable x.value e₁) (suppose_one S v j) e
unfolding suppose_one stating
one_comes S good few v j e s l h =
    let Q : Bound → Emitter → Type 0 = λ x e₁. States x.variable x.value e₁ in
    then_comes S (λ p e₁. Has S e₁ prop p) Q (put_for_l S v j) _ e (put_for_L_comes S good few prop v j e s l h)
    (λ p e₁ g₁ t₁ P₁. then_comes S (JudgmentIs p) Q (judgment S p) _ e₁ (judgment_comes S p e₁ t₁ P₁.spoken (judgment-applied S e₁ t₁ p P₁))
    (λ said e₂ g₂ t₂ J. then_comes S (States p) Q (write_step S (hyp_line said)) _ e₂ (write-step_comes S (hyp_line said) said p e₂ t₂ (has_on S e₁ e₂ g₂ prop p P₁).stored refl J)
    (λ n e₃ g₃ t₃ T. gives S Q (pairing p n) e₃ t₃ T)))

-- ---- the function
module _ (pack work words proof : List ℕ) (l : Places) (m : Standing) (g : Inducting) (v : ℕ) (work₁ words₁ : List ℕ) where
  -- there is no room for the judgment
  pub one_short : (x : Refusal) → PutsFor work work₁ words words₁ l m g.eigen v g.judgment (Err x) → SupposesOne (lends pack work words proof) (lends pack work₁ words₁ proof) l m g v (Err x)
  one_short x F = record {
    grown = tt;
    comes = λ w e R T. one_unmade w.lent w.setting v g.judgment e x (F.comes pack proof w e R T.given.eigen T.of_sort.stored T.given.has.stored);
  }

  module _ (t : Standing) (h : ℕ) (F : PutsFor work work₁ words words₁ l m g.eigen v g.judgment (Ok (t, h))) (work₂ proof₂ : List ℕ) where
    -- nor for its line
    pub one_unheld : (x : Refusal) → Answers (lends pack work₁ words₁ proof) (lends pack work₂ words₁ proof₂) l t h (λ w. supposed w.setting h) (Refused x)
        → SupposesOne (lends pack work words proof) (lends pack work₂ words₁ proof₂) l m g v (Err x)
    one_unheld x E = record {
      grown = tt;
      comes = λ w e R T.
          let P = put_on pack work words proof l m g v work₁ words₁ t h F w e R T in
          one_unwritten w.lent w.setting v g.judgment e h P.state P.is_so x (E.comes w P.state P.ready P.has);
    }

    module _ (u : Standing) (n : ℕ) (E : Answers (lends pack work₁ words₁ proof) (lends pack work₂ words₁ proof₂) l t h (λ w. supposed w.setting h) (Line u n)) where
      -- what entering it asks
      pub entering : AskedFor (lends pack work words proof) l m (Termed g v) → m.hyps < nothing → Entering work₂ l u × (h < l.room)
      entering A few =
          let P = put_on pack work words proof l m g v work₁ words₁ t h F A.world A.state A.ready A.holds in
          let C = E.comes A.world P.state P.ready P.has in
          let H = P.ready.holding in (
            record { laid = C.2.laid; remembers = C.2.remembers; few = omega (arith, few, C.2.supposed, A.ready.holding.supposed) },
            omega (arith, P.has.stored, len_is _ l t A.world P.state H, len_room _ l t A.world P.state H),
          )

      -- it is entered
      pub one_entered : (work₃ : List ℕ) (u' : Standing) → Entered work₂ work₃ l u h n u' → SupposesOne (lends pack work words proof) (lends pack work₃ words₁ proof₂) l m g v (Ok (u', h))
      one_entered work₃ u' N = record {
        grown = omega (arith, F.grown, E.grown, ap (λ (s : Store). s.len) N.store);
        comes = λ w e R T.
            let P = put_on pack work words proof l m g v work₁ words₁ t h F w e R T in
            let C = E.comes w P.state P.ready P.has in
            (n, C.0, one-got w.lent w.setting v g.judgment e h P.state P.is_so n C.0 C.1, N.comes (lends pack work₂ words₁ proof₂) w C.0 refl C.2);
      }
