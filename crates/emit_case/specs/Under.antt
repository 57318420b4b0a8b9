-- A case's goal under hypotheses, which are dropped behind it.
use Rattle.std.specs.Prelude.{Ok, Err}
use Rattle.std.specs.Prelude.{◌≡◌, refl, List, [], ℕ, ◌-◌, ◌≤◌, length, get_or, take}
use Rattle.std.proofs.Common.{sym, ap, subst, ◌∙◌, arith, length-take}
use Rattle.std.proofs.Math.Option.{some}
use Rattle.definition.specs.Pack.{prop}
use Rattle.definition.specs.Verdict.{Bound}
use Rattle.definition.specs.Run.{outcome}
use Rattle.definition.specs.declared.Refusal.{Refusal}
use Rattle.store.specs.declared.nodes.Store.{Store}
use Rattle.emission.specs.State.{Emitter, Tried, Search}
use Rattle.emission.specs.Induct.{suppose}
use Rattle.emit_theory.specs.Search.Proving.{Supposed, has_on}
use Rattle.emit_theory.specs.Search.Inducting.{suppose_comes}
use Rattle.emit_maps.specs.Holds.{Covers}
use Rattle.emit_state.specs.Holding.{Buffers, World, Holding, Ready, got}
use Rattle.emit_state.specs.Frame.{having_work}
use Rattle.emit_state.specs.Turns.{then_got, then_refused}
use Rattle.emit_state.specs.Onward.{goes_on}
use Rattle.emit_state.specs.declared.places.Places.{Places}
use Rattle.emit_state.specs.declared.standing.Standing.{Standing}
use Rattle.emit_state.specs.declared.standing.Proved.TheVariants.{Line, Fails, Refused}
use Rattle.emit_case.specs.Asked.{AskedFor, AnswersFor, Termed, Recursive, Inducted}
use Rattle.emit_case.specs.Runs.{goal_with, goal_run, supposing_run}
use Rattle.emit_case.specs.Supposing.{supposing, Dropping, Dropped, AllBelow, SupposesAll}
use Rattle.emit_case.specs.Putting.{len_is, len_room}
use Rattle.emit_case.specs.declared.goal.Inducting.{Inducting}

-- the front of an array, as it is lent
pub front : (n : ℕ) (hs : List ℕ) → take (n - 0) hs ≡ take n hs
front n hs = let z : n - 0 ≡ n = omega arith in ap (λ (k : ℕ). take k hs) z

-- the state behind the hypotheses, in which they are in scope
pub record Under (b : Buffers) (l : Places) (t : Standing) (w : World) (e : Emitter) (g : Inducting) (term : ℕ) (rs hs : List ℕ) : Type 0 where
  pub hyps : List Bound
  pub state : Emitter
  pub is_so : outcome w.lent (suppose w.setting g.judgment rs [] e) ≡ got hyps state
  pub ready : Ready b l t (supposing hyps w) state
  pub termed : Termed g term (supposing hyps w) state
  pub covers : Covers hs (length hs) hyps
  pub below : AllBelow hs (length state.kept.store)

module _ (b : Buffers) (l : Places) (m : Standing) (g : Inducting) (term : ℕ) (rs : List ℕ) where
  -- the run of all
  abbrev supposing_term : World → Search ℕ
  supposing_term w = supposing_run w.setting term g.judgment rs

  -- the hypotheses are asked for, where there are none
  pub each_asked : AskedFor b l m (Inducted g term rs) → AskedFor b l m (Recursive g rs) × (m.hyps ≡ 0)
  each_asked A = (record { world = A.world; state = A.state; ready = A.ready; holds = A.holds.recursive }, A.ready.holding.supposed ∙ ap length A.holds.none)

  module _ (b₁ : Buffers) (hs : List ℕ) where
    -- a buffer is short
    pub under_short : (x : Refusal) → SupposesAll b b₁ l m g rs hs (Err x) → AnswersFor b b₁ l m (Inducted g term rs) supposing_term (Refused x)
    unfolding supposing_run
    under_short x F = record {
      grown = tt;
      comes = λ w e R I. then_refused w.lent (suppose w.setting g.judgment rs []) (λ hyps. goal_with w.setting hyps term g.judgment) e x (F.comes w e R I.none I.recursive);
    }

    module _ (t : Standing) (F : SupposesAll b b₁ l m g rs hs (Ok t)) where
      -- they are supposed
      under_on : (w : World) (e : Emitter) → Ready b l m w e → Inducted g term rs w e → Under b₁ l t w e g term rs (take (length rs) hs)
      under_on w e R I =
          let S = w.setting in
          let P = R.holding.proper in
          let C = F.comes w e R I.none I.recursive in
          let D : Tried (List Bound) = record { result = some C.0; state = C.1 } in
          let O = goes_on w.lent S Supposed (suppose S g.judgment rs []) e D
          (suppose_comes S P.good P.few g.judgment rs [] e R.sound I.termed.given.has I.recursive.like (subst (λ (zs : List Bound). Supposed zs e) I.none R.supposed)) C.2 in
          record {
            hyps = C.0;
            state = C.1;
            is_so = C.2;
            ready = record { holding = C.5; sound = O.sound; supposed = O.holds C.0 refl };
            termed = record {
              given = record { eigen = I.termed.given.eigen; sort = I.termed.given.sort; has = has_on S e C.1 O.grew prop g.judgment I.termed.given.has };
              of_sort = has_on S e C.1 O.grew S.sort term I.termed.of_sort;
            };
            covers = C.3;
            below = C.4;
          }

      -- the goal is asked for
      pub goal-asked : AskedFor b l m (Inducted g term rs) → AskedFor b₁ l t (Termed g term)
      goal-asked A =
          let U = under_on A.world A.state A.ready A.holds in
          record { world = supposing U.hyps A.world; state = U.state; ready = U.ready; holds = U.termed }

      module _ (b₂ : Buffers) where
        -- what the goal came to is what all came to
        under_so : (w : World) (e : Emitter) (R : Ready b l m w e) (I : Inducted g term rs w e) → let U = under_on w e R I in
            outcome w.lent (supposing_term w e) ≡ outcome w.lent (goal_with w.setting U.hyps term g.judgment U.state)
        unfolding supposing_run
        under_so w e R I =
            let U = under_on w e R I in
            then_got w.lent (suppose w.setting g.judgment rs []) (λ hyps. goal_with w.setting hyps term g.judgment) e U.hyps U.state U.is_so

        -- a buffer is short
        pub under-refused : (x : Refusal) → AnswersFor b₁ b₂ l t (Termed g term) (λ w. goal_run w term g.judgment) (Refused x) → AnswersFor b b₂ l m (Inducted g term rs) supposing_term (Refused x)
        under-refused x E = record { grown = tt; comes = λ w e R I. let U = under_on w e R I in under_so w e R I ∙ E.comes (supposing U.hyps w) U.state U.ready U.termed }

        module _ (zs : List ℕ) (front : zs ≡ take (length rs) hs) (u : Standing) (grown : t.store.len ≤ u.store.len) where
          -- what dropping them asks
          dropping : (w : World) (e : Emitter) (R : Ready b l m w e) (I : Inducted g term rs w e) (e₂ : Emitter) → Holding b₂ l u (supposing (under_on w e R I).hyps w) e₂ → Dropping b₂.work l u zs
          dropping w e R I e₂ H =
              let U = under_on w e R I in
              let W = supposing U.hyps w in
              record {
                laid = H.laid;
                remembers = H.remembers;
                few = omega (arith, ap length front, length-take (length rs) hs, I.recursive.few);
                below = λ i h.
                    let a = U.below i (omega (arith, ap length front)) in
                    omega (arith, ap (λ (ys : List ℕ). get_or ys i 0) front, a, len_is b₁ l t W U.state U.ready.holding, grown, len_room b₂ l u W e₂ H);
              }

          -- none is in scope behind it
          none_left : (w : World) (e : Emitter) (R : Ready b l m w e) (I : Inducted g term rs w e) (e₂ : Emitter) → Holding b₂ l u (supposing (under_on w e R I).hyps w) e₂
              → (work₃ : List ℕ) (u' : Standing) → Dropped b₂.work work₃ l u zs u' → Holding (having_work work₃ b₂) l u' w e₂
          none_left w e R I e₂ H work₃ u' D =
              let U = under_on w e R I in
              let C = subst (λ (ys : List ℕ). Covers ys (length ys) U.hyps) (sym front) U.covers in
              subst (λ (ys : List Bound). Holding (having_work work₃ b₂) l u' (supposing ys w) e₂) (sym I.none) (D.comes b₂ (supposing U.hyps w) e₂ refl C H)

        module _ (zs : List ℕ) (front : zs ≡ take (length rs) hs) (u : Standing) (n : ℕ) (E : AnswersFor b₁ b₂ l t (Termed g term) (λ w. goal_run w term g.judgment) (Line u n)) where
          -- behind a line
          pub line_dropping : AskedFor b l m (Inducted g term rs) → Dropping b₂.work l u zs
          line_dropping A =
              let U = under_on A.world A.state A.ready A.holds in
              let C = E.comes (supposing U.hyps A.world) U.state U.ready U.termed in
              dropping zs front u E.grown A.world A.state A.ready A.holds C.0 C.2

          -- the goal's line is the answer
          pub under-line : (work₃ : List ℕ) (u' : Standing) → Dropped b₂.work work₃ l u zs u' → AnswersFor b (having_work work₃ b₂) l m (Inducted g term rs) supposing_term (Line u' n)
          under-line work₃ u' D = record {
            grown = omega (arith, F.grown, E.grown, ap (λ (s : Store). s.len) D.store);
            comes = λ w e R I.
                let U = under_on w e R I in
                let C = E.comes (supposing U.hyps w) U.state U.ready U.termed in
                (C.0, under_so w e R I ∙ C.1, none_left zs front u E.grown w e R I C.0 C.2 work₃ u' D);
          }

        module _ (zs : List ℕ) (front : zs ≡ take (length rs) hs) (u : Standing) (E : AnswersFor b₁ b₂ l t (Termed g term) (λ w. goal_run w term g.judgment) (Fails u)) where
          -- behind no line
          pub fails_dropping : AskedFor b l m (Inducted g term rs) → Dropping b₂.work l u zs
          fails_dropping A =
              let U = under_on A.world A.state A.ready A.holds in
              let C = E.comes (supposing U.hyps A.world) U.state U.ready U.termed in
              dropping zs front u E.grown A.world A.state A.ready A.holds C.0 C.2

          -- the goal has no line
          pub under_fails : (work₃ : List ℕ) (u' : Standing) → Dropped b₂.work work₃ l u zs u' → AnswersFor b (having_work work₃ b₂) l m (Inducted g term rs) supposing_term (Fails u')
          under_fails work₃ u' D = record {
            grown = omega (arith, F.grown, E.grown, ap (λ (s : Store). s.len) D.store);
            comes = λ w e R I.
                let U = under_on w e R I in
                let C = E.comes (supposing U.hyps w) U.state U.ready U.termed in
                (C.0, under_so w e R I ∙ C.1, none_left zs front u E.grown w e R I C.0 C.2 work₃ u' D);
          }
