-- Judgments that were tried in vain.
use Rattle.std.specs.Prelude.{◌≡◌, Bool, true, false, List, ℕ, ◌≤◌, ◌<◌, leb, length}
use Rattle.std.proofs.Common.{sym, ap, subst, ◌∙◌, arith, leb-true}
use Rattle.std.proofs.Math.Option.{some}
use Rattle.std.proofs.Math.Decide.{ℕ_discrete}
use Rattle.definition.specs.Test.{is, see}
use Rattle.memo.specs.Recall.{recall, Remembers, length-recall}
use Rattle.memo.specs.Lent.{recall_at, lent_long, Puts}
use Rattle.memo.specs.declared.memo.Memo.{Memo}
use Rattle.emission.specs.State.{Emitter}
use Rattle.emit_state.specs.Places.{failed_at, replaced_at, failed_in, Laid}
use Rattle.emit_state.specs.Holding.{Buffers, World, Barren, Holding}
use Rattle.emit_state.specs.Frame.{having_work}
use Rattle.emit_state.specs.Writes.{holding_failed}
use Rattle.emit_state.specs.declared.places.Places.{Places}
use Rattle.emit_state.specs.declared.standing.Standing.{Standing}

-- the failures stand in work, and j has a word there
pub record Failing (work : List ℕ) (l : Places) (failed : Memo) (j : ℕ) : Type 0 where
  pub laid : Laid work l
  pub remembers : Remembers (failed_in work l) failed
  pub below : j < l.room

-- the depth is below the last level, or a failure at this depth or a lesser one is remembered
pub data Given (work : List ℕ) (l : Places) (failed : Memo) (j depth : ℕ) : Type 0 where
  deep : 4096 < depth → Given work l failed j depth
  tried : (k : ℕ) → recall_at (failed_at l) (replaced_at l) work failed j ≡ some k → k ≤ depth → Given work l failed j depth

abbrev pub GivenUp : List ℕ → Places → Memo → ℕ → ℕ → Bool → Type 0
GivenUp work l failed j depth true = Given work l failed j depth
GivenUp work l failed j depth false = depth ≤ 4096

-- the failure is remembered, if the text ends where it did
pub record Noted (work work' : List ℕ) (l : Places) (text : ℕ) (m : Standing) (j depth : ℕ) : Type 0 where
  pub comes : (b : Buffers) (w : World) (e : Emitter) → b.work ≡ work → (m.text ≡ text → Barren w.setting w.hyps e j depth) → Holding b l m w e → Holding (having_work work' b) l m w e

-- ---- laws
-- each pattern has a word among the failures
pub failed_many : (work : List ℕ) (l : Places) (failed : Memo) → Laid work l → length (recall (failed_in work l) failed) ≡ l.room
failed_many work l failed L = omega (arith, length-recall (failed_in work l) failed, lent_long (failed_at l) (replaced_at l) work (omega arith) (omega (arith, L.within)))

-- what is remembered decides
pub given-up : (work : List ℕ) (l : Places) (failed : Memo) (j depth k : ℕ) → depth ≤ 4096 → recall_at (failed_at l) (replaced_at l) work failed j ≡ some k → GivenUp work l failed j depth (leb k depth)
given-up work l failed j depth k h e = elim (see (leb k depth)) [
  | is true p ↦ rw p (tried k e (leb-true k depth p))
  | is false p ↦ rw p h
]

-- nothing is remembered of a try with a line
pub noted-none : (work : List ℕ) (l : Places) (text : ℕ) (m : Standing) (j depth : ℕ) → Noted work work l text m j depth
noted-none work l text m j depth = record { comes = λ b w e is n H. subst (λ (ws : List ℕ). Holding (having_work ws b) l m w e) is H }

-- the failure is remembered
pub noted-put : (work work' : List ℕ) (l : Places) (text : ℕ) (m : Standing) (j depth : ℕ) → m.text ≡ text → Puts work work' (failed_at l) (replaced_at l) m.failed j depth → Noted work work' l text m j depth
noted-put work work' l text m j depth t P = record {
  comes = λ b w e is n H.
      let Q : Puts b.work work' (failed_at l) (replaced_at l) m.failed j depth = subst (λ (ws : List ℕ). Puts ws work' (failed_at l) (replaced_at l) m.failed j depth) (sym is) P in
      holding_failed b l m w e H work' m.failed Q.outside Q.remembers (λ q k f.
      elim (ℕ_discrete j q) [
        | yes i ↦
            let g : some depth ≡ some k = sym Q.here ∙ ap (recall_at (failed_at l) (replaced_at l) work' m.failed) i ∙ f in
            let d : depth ≡ k = cc in
            subst (λ (x : ℕ). Barren w.setting w.hyps e x k) i (subst (λ (x : ℕ). Barren w.setting w.hyps e j x) d (n t))
        | no d ↦ H.barren q k (sym (Q.others q d) ∙ f)
      ]);
}
