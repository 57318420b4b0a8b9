-- The walk from turn to turn, until all arguments of a judgment have words.
use Rattle.std.specs.Prelude.{Option, Some, None}
use Rattle.std.specs.Prelude.{◌≡◌, refl, ℕ}
use Rattle.std.proofs.Common.{sym, ◌∙◌}
use Rattle.std.proofs.Math.Path.{ap, subst}
use mathlib.Core.List.{List, []}
use Rattle.definition.specs.Pack.{prop}
use Rattle.definition.specs.Frame.{refuse}
use Rattle.definition.specs.declared.Refusal.TheVariants.{Short as Refusal-as-Short}
use Rattle.base.specs.Stack.{stacked}
use Rattle.base.specs.declared.stack.Stack.{Stack}
use Rattle.emission.specs.State.{Emitter}
use Rattle.emission.specs.Words.{judgment}
use Rattle.emit_theory.specs.Outcomes.{ran}
use Rattle.emit_theory.specs.Search.Proving.{Has, judgment-applied}
use Rattle.emit_state.specs.Places.{walk_at}
use Rattle.emit_state.specs.Holding.{Buffers, World, Ready, Asked}
use Rattle.emit_state.specs.declared.places.Places.{Places}
use Rattle.emit_state.specs.declared.standing.Standing.{Standing}
use Rattle.emit_words.specs.Pending.{pending}
use Rattle.emit_words.specs.Putting.{Placed, Whole}
use Rattle.emit_words.specs.Walking.{waiting, Walks, Walking, Turned}
use Rattle.emit_words.specs.declared.walk.Turn.{Turn}
use Rattle.emit_words.specs.declared.walk.Turn.TheVariants.{Next, Done}

-- a state later in which all arguments of j have words, and j's words are the same
pub record Prepared (b : Buffers) (l : Places) (t : Standing) (w : World) (e : Emitter) (j : ℕ) : Type 0 where
  pub state : Emitter
  pub ready : Ready b l t w state
  pub has : Has w.setting state prop j
  pub whole : Whole state j
  pub same : ran w.lent (judgment w.setting j) e ≡ ran w.lent (judgment w.setting j) state

-- what the walk answers
abbrev pub Readied : Buffers → Buffers → Places → Standing → ℕ → Option Standing → Type 0
Readied b b' l m j (Some t) = (t.store ≡ m.store) × ((w : World) (e : Emitter) → Ready b l m w e → Has w.setting e prop j → Prepared b' l t w e j)
Readied b b' l m j None = (w : World) (e : Emitter) → Ready b l m w e → Has w.setting e prop j → ran w.lent (judgment w.setting j) e ≡ refuse (Refusal-as-Short 5)

-- what is to do is what was to do at first
pub record Way (b : Buffers) (l : Places) (m : Standing) (w : World) (e : Emitter) (j : ℕ) (s : Stack) : Type 0 where
  pub state : Emitter
  pub walks : Walks b l m w state j s
  pub same : ran w.lent (judgment w.setting j) e ≡ ran w.lent (pending w.setting j (waiting b s)) state

-- so far
pub record Reached (b₀ b : Buffers) (l : Places) (m₀ m : Standing) (j : ℕ) (s : Stack) : Type 0 where
  pub at : s.at ≡ walk_at l
  pub store : m.store ≡ m₀.store
  pub way : (w : World) (e : Emitter) → Ready b₀ l m₀ w e → Has w.setting e prop j → Way b l m w e j s

-- nothing is done yet
pub reached_none : (b : Buffers) (l : Places) (m : Standing) (j : ℕ) (s : Stack) → s.at ≡ walk_at l → s.len ≡ 0 → Reached b b l m m j s
unfolding stacked pending
reached_none b l m j s at z =
    let y : waiting b s ≡ [] = ap (λ (n : ℕ). stacked s.at n b.work) z in
    record {
      at = at;
      store = refl;
      way = λ w e R H. record {
        state = e;
        walks = record { ready = R; has = H; waits = rw y tt };
        same = ap (λ (ps : List ℕ). ran w.lent (pending w.setting j ps) e) (sym y);
      };
    }

module _ (b₀ b : Buffers) (l : Places) (m₀ m : Standing) (j : ℕ) (s : Stack) (A : Asked b₀ l m₀ j) (G : Reached b₀ b l m₀ m j s) where
  -- a turn may be taken
  pub reached_walking : Walking b l m j s
  reached_walking = let y = G.way A.world A.state A.ready A.has in record { world = A.world; state = y.state; walks = y.walks; at = G.at }

  module _ (b' : Buffers) (r : Option Turn) (T : Turned b b' l m j s r) where
    -- a turn more
    pub reached_more : (t : Standing) (u : Stack) → r ≡ Some (Next t u) → Reached b₀ b' l m₀ t j u
    reached_more t u q =
        let N = subst (Turned b b' l m j s) q T in
        record {
          at = N.0.at ∙ G.at;
          store = N.0.store ∙ G.store;
          way = λ w e R H.
              let y = G.way w e R H in
              let n = N.1 w y.state y.walks in
              record { state = n.state; walks = n.walks; same = y.same ∙ n.same };
        }

    -- the last
    pub reached_done : r ≡ Some Done → Readied b₀ b' l m₀ j (Some m)
    unfolding pending
    reached_done q =
        let N = subst (Turned b b' l m j s) q T in (
          G.store,
          λ w e R H.
              let y = G.way w e R H in
              let n = N w y.state y.walks in
              record { state = y.state; ready = n.0; has = y.walks.has; whole = n.1; same = y.same ∙ ap (λ (ps : List ℕ). ran w.lent (pending w.setting j ps) y.state) n.2 },
        )

    -- or the text was short
    pub reached_short : r ≡ None → Readied b₀ b' l m₀ j None
    reached_short q w e R H =
        let y = G.way w e R H in
        y.same ∙ (subst (Turned b b' l m j s) q T) w y.state y.walks

-- the judgment is an application
pub readied_placed : (b b' : Buffers) (l : Places) (m t : Standing) (j : ℕ) → Asked b l m j → (r : Option Standing) → r ≡ Some t → Readied b b' l m j r → Placed b' l t j
readied_placed b b' l m t j A r q N =
    let P = (subst (Readied b b' l m j) q N).1 A.world A.state A.ready A.has in
    record { world = A.world; state = P.state; ready = P.ready; there = P.has.stored; applied = judgment-applied A.world.setting P.state P.ready.sound j P.has }
