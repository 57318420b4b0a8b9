-- Whether a pattern stands in another, as a state of emission has them.
use Rattle.std.specs.Prelude.{◌≡◌, refl, Bool, true, List, [], ◌∷◌, ℕ, suc, ◌<◌, length, eqb}
use Rattle.std.proofs.Common.{sym, ap, ◌∙◌, arith}
use Rattle.definition.specs.Pack.{Node}
use Rattle.base.specs.Outside.{Outside, outside_then, outside_wider}
use Rattle.memo.specs.Lent.{lent-before}
use Rattle.memo.specs.declared.memo.Memo.{Memo}
use Rattle.store.specs.Stored.{Stored, nodes}
use Rattle.theory.specs.Patterns.Interned.{grows_none}
use Rattle.emission.specs.State.{Emitter}
use Rattle.emission.specs.Patterns.{mentions}
use Rattle.emit_state.specs.Holding.{lends, World, Holding, Ready}
use Rattle.emit_state.specs.Places.{replaced_at, walk_at, values_at, index_end, index_in}
use Rattle.emit_state.specs.Grown.{Apart, holding_apart}
use Rattle.emit_state.specs.declared.places.Places.{Places}
use Rattle.emit_state.specs.declared.standing.Standing.{Standing}
use Rattle.emit_replace.specs.Mentions.{bit, bit-back, mentions_itself, says_first}
use Rattle.emit_replace.specs.Reading.{Begun}
use Rattle.emit_replace.specs.Beginning.{replaced_stamp, begun-pending}
use Rattle.emit_replace.specs.Asking.{alone, Asking, Mentioned}

-- a pattern of a state of emission that the words hold
pub record Mentionable (work words : List ℕ) (l : Places) (m : Standing) (x j : ℕ) : Type 0 where
  pub pack : List ℕ
  pub proof : List ℕ
  pub world : World
  pub state : Emitter
  pub ready : Ready (lends pack work words proof) l m world state
  pub x_stored : x < length state.kept.store
  pub j_stored : j < length state.kept.store

-- whether x stands in j, in every such state
abbrev pub Tells : List ℕ → List ℕ → List ℕ → Places → Standing → ℕ → ℕ → Bool → Type 0
Tells work work' words l m x j r =
    (pack proof : List ℕ) (w : World) (e : Emitter) → Ready (lends pack work words proof) l m w e → x < length e.kept.store → j < length e.kept.store
    → (r ≡ mentions (suc j) e.kept.store x (j ∷ [])) × Holding (lends pack work' words proof) l m w e

-- ---- laws
-- a pattern stands in itself
pub tells_itself : (work words : List ℕ) (l : Places) (m : Standing) (x j : ℕ) → j ≡ x → Tells work work words l m x j true
tells_itself work words l m x j i pack proof w e R a b = (sym (mentions_itself x e.kept.store j j i), R.holding)

-- the walk can begin
module _ (pack proof work words : List ℕ) (l : Places) (m : Standing) (w : World) (e : Emitter) (R : Ready (lends pack work words proof) l m w e) (work₁ : List ℕ) (x j : ℕ) (memo : Memo) (B : Begun work work₁ l x 1 memo)
    (n : j ≡ x → ⊥) (h : j < length e.kept.store) where
  -- with the question of the one pattern
  pub tells_asks : Asking work₁ words l m.store memo j (alone l) x j
  tells_asks = record { pending = begun-pending pack proof work words l m w e R work₁ x 1 memo B j n h; remembers = B.remembers; begun = (1, B.here); says = says_first x (nodes words m.store) j _ B.here B.others }

  -- its answer is emission's
  tells-done : (work₂ : List ℕ) (v : ℕ) → Mentioned work₁ work₂ words l m.store memo j v → (eqb v 1 ≡ mentions (suc j) e.kept.store x (j ∷ [])) × Holding (lends pack work₂ words proof) l m w e
  tells-done work₂ v M =
      let H = R.holding in
      let L = H.laid in
      let A = M.says x j tells_asks in
      let far : Outside (replaced_at l) (values_at l) work work₂ = outside_then (replaced_at l) (values_at l) work work₁ work₂ (outside_wider (replaced_at l) (walk_at l) (replaced_at l) (values_at l) work work₁ (omega arith) (omega arith) B.outside) M.kept.outside in
      let apart : Apart l work work₂ = record { long = far.long; ahead = λ i a z. far.ahead i (omega (arith, L.index)); between = λ i a z. far.ahead i z; behind = λ i a z. far.behind i a } in
      let stored : Stored (index_in work₂ l) words m.store = rw (lent-before (replaced_at l) (values_at l) work work₂ far l.index (index_end l) (omega arith) (omega (arith, L.index)) (omega (arith, L.index, L.within))) H.stored in (
        bit-back v (mentions (suc j) e.kept.store x (j ∷ [])) (A.0 ∙ ap (λ (s : List Node). bit (mentions (suc j) s x (j ∷ []))) H.nodes_are),
        holding_apart (lends pack work words proof) l m w e H work₂ words m.store e.kept.store apart refl stored H.nodes_are (grows_none e.kept.store) (replaced_stamp work₂ l memo (M.kept.stamp ∙ B.stamp) A.1),
      )

-- in every such state
pub tells : (work words : List ℕ) (l : Places) (m : Standing) (work₁ : List ℕ) (x j : ℕ) (memo : Memo) → Begun work work₁ l x 1 memo → (j ≡ x → ⊥) → (work₂ : List ℕ) (v : ℕ) → Mentioned work₁ work₂ words l m.store memo j v → Tells work work₂ words l m x j (eqb v 1)
tells work words l m work₁ x j memo B n work₂ v M pack proof w e R a h = tells-done pack proof work words l m w e R work₁ x j memo B n h work₂ v M
