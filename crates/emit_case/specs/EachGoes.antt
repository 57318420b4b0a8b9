-- The loop that supposes, for every state that the buffers held at its start.
use Rattle.std.specs.Prelude.{Ok, Err}
use Rattle.std.specs.Prelude.{◌≡◌, refl, List, [], ◌∷◌, ℕ, ◌+◌, ◌*◌, ◌^◌, ◌≤◌, ◌<◌, get_or, set, take}
use Rattle.std.proofs.Math.Path.{sym, subst}
use Rattle.std.proofs.Common.{◌∙◌, arith, length-set}
use Rattle.std.proofs.Math.ListN.{length}
use Rattle.std.proofs.Math.Seq.{get_or-take, length-take-le}
use Rattle.definition.specs.Store.{nothing}
use Rattle.definition.specs.Verdict.{Bound}
use Rattle.definition.specs.Run.{outcome, first_short}
use Rattle.definition.specs.declared.Refusal.{Refusal}
use Rattle.emission.specs.State.{Emitter}
use Rattle.emission.specs.Induct.{suppose}
use Rattle.emit_maps.specs.Holds.{Covers}
use Rattle.emit_state.specs.Holding.{Buffers, World, Ready}
use Rattle.emit_state.specs.declared.places.Places.{Places}
use Rattle.emit_state.specs.declared.standing.Standing.{Standing}
use Rattle.emit_case.specs.Asked.{AskedFor, Termed, Recursive}
use Rattle.emit_case.specs.Supposing.{supposing, SupposesOne, SupposesAll}
use Rattle.emit_case.specs.Each.{SupposedLeft, covers_front, supposed-first, supposed-all, next_termed, supposed-refused, supposed-more}
use Rattle.emit_case.specs.declared.goal.Inducting.{Inducting}

-- no hypotheses, as they are counted
none-counted : (hyps : List Bound) → length hyps ≡ 0 → hyps ≡ []
none-counted [] z = refl
none-counted (h ∷ hs) z = absurd (omega arith)

-- so none is in scope
pub none-supposed : (b : Buffers) (l : Places) (m : Standing) (w : World) (e : Emitter) → Ready b l m w e → m.hyps ≡ 0 → w.hyps ≡ []
none-supposed b l m w e R z = none-counted w.hyps (sym R.holding.supposed ∙ z)

-- the first i are supposed
pub record EachGoes (b₀ b : Buffers) (l : Places) (m t : Standing) (g : Inducting) (rs hs : List ℕ) (i : ℕ) : Type 0 where
  pub grown : m.store.len ≤ t.store.len
  pub within : i ≤ length rs
  pub room : length rs ≤ length hs
  pub left : (w : World) (e : Emitter) → Ready b₀ l m w e → w.hyps ≡ [] → Recursive g rs w e → SupposedLeft b l t w g rs hs i (outcome w.lent (suppose w.setting g.judgment rs [] e))

-- none is
pub each_goes : (b : Buffers) (l : Places) (m : Standing) (g : Inducting) (rs hs : List ℕ) → length rs ≤ length hs → EachGoes b b l m m g rs hs 0
each_goes b l m g rs hs room = record { grown = omega arith; within = omega arith; room = room; left = λ w e R z Q. supposed-first b l m w e g rs hs R z Q }

module _ (b₀ b : Buffers) (l : Places) (m t : Standing) (g : Inducting) (rs hs : List ℕ) (i : ℕ) (G : EachGoes b₀ b l m t g rs hs i) where
  -- all are
  pub each_end : length rs ≤ i → SupposesAll b₀ b l m g rs hs (Ok t)
  unfolding suppose outcome first_short
  each_end h = record {
    grown = G.grown;
    comes = λ w e R z Q.
        let L = G.left w e R z Q in
        let k : i ≡ length rs = omega (arith, G.within) in
        let long = length-take-le (length rs) hs G.room in (
          L.hyps,
          L.state,
          sym (supposed-all b l t w g rs hs i _ L h),
          subst (λ (n : ℕ). Covers (take n hs) (length (take n hs)) L.hyps) k (covers_front hs i L.hyps (omega (arith, G.room)) L.covers),
          λ j a. omega (arith, L.below j (omega (arith, long)), get_or-take (length rs) hs j 0 (omega (arith, long))),
          L.ready.holding,
        );
  }

  module _ (k : i < length rs) where
    -- a place for it
    pub each_place : i < length hs
    each_place = omega (arith, G.room)

    -- a buffer is short
    pub each_short : (b' : Buffers) (x : Refusal) (hs' : List ℕ) → SupposesOne b b' l t g (get_or rs i 0) (Err x) → SupposesAll b₀ b' l m g rs hs' (Err x)
    each_short b' x hs' E = record {
      grown = tt;
      comes = λ w e R z Q.
          let L = G.left w e R z Q in
          supposed-refused b l t w g rs hs i _ L k x (E.comes (supposing L.hyps w) L.state L.ready (next_termed b l t w g rs hs i _ L k));
    }

    -- one more is supposed
    pub each_more : (b' : Buffers) (u : Standing) (p : ℕ) → SupposesOne b b' l t g (get_or rs i 0) (Ok (u, p)) → EachGoes b₀ b' l m u g rs (set hs i p) (i + 1)
    each_more b' u p E = record {
      grown = omega (arith, G.grown, E.grown);
      within = omega arith;
      room = omega (arith, G.room, length-set hs i p);
      left = λ w e R z Q.
          let L = G.left w e R z Q in
          let C = E.comes (supposing L.hyps w) L.state L.ready (next_termed b l t w g rs hs i _ L k) in
          supposed-more b l t w g rs hs i _ L k b' u p C.0 C.1 C.2 C.3 E.grown (omega (arith, G.room));
    }

    module _ (A : AskedFor b₀ l m (Recursive g rs)) (none : m.hyps ≡ 0) where
      -- the next is asked for, and hypotheses are few
      pub next-asked : AskedFor b l t (Termed g (get_or rs i 0)) × (t.hyps < nothing)
      next-asked =
          let L = G.left A.world A.state A.ready (none-supposed b₀ l m A.world A.state A.ready none) A.holds in (
            record { world = supposing L.hyps A.world; state = L.state; ready = L.ready; holds = next_termed b l t A.world g rs hs i _ L k },
            omega (arith, L.ready.holding.supposed, L.many, k, A.holds.few),
          )

      -- places are few
      pub few_bytes : i * 4 < 2 ^ 64
      few_bytes = omega (arith, A.holds.few)

      pub few_more : i + 1 < 2 ^ 64
      few_more = omega (arith, A.holds.few)
