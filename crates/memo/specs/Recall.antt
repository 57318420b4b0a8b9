-- What a memo's table of stamps and values has for each key.
use Rattle.std.specs.Prelude.{Option as Optional, Some, None}
use Rattle.std.specs.Prelude.{◌≡◌, refl, true, false, List, [], ◌∷◌, ℕ, zero, suc, ◌+◌, ◌*◌, ◌/◌, ◌≤◌, ◌<◌, eqb, length, get_or, set, replicate}
use Rattle.std.proofs.Common.{sym, ap, ap₂, ◌∙◌, arith, eq-eqb, ne_eqb, get_or-set_same, get_or-set_other}
use Rattle.std.proofs.Math.Option.{Option, none, some}
use Rattle.std.proofs.Math.Decide.{ℕ_discrete}
use Rattle.std.proofs.lemmas.List.{length-replicate}
use Rattle.base.specs.Listed.{only_at}
use Rattle.memo.specs.declared.memo.Memo.{Memo}

-- a value counts where its stamp is the one in force
unfoldable pub entry : ℕ → ℕ → ℕ → Option ℕ
entry force stamp value = elim (eqb stamp force) [ true ↦ some value | false ↦ none ]

unfoldable pub recalled : ℕ → List ℕ → List (Option ℕ)
unfolding entry
recalled force [] = []
recalled force (s ∷ []) = []
recalled force (s ∷ v ∷ ws) = entry force s v ∷ recalled force ws

-- the map that a memo is
unfoldable pub recall : List ℕ → Memo → List (Option ℕ)
unfolding recalled
recall table m = recalled m.stamp table

abbrev pub known : Optional ℕ → Option ℕ
known (Some v) = some v
known None = none

-- no stamp is later than the memo's
pub record Remembers (table : List ℕ) (m : Memo) : Type 0 where
  pub begun : 0 < m.stamp
  pub past : (i : ℕ) → get_or table (2 * i) 0 ≤ m.stamp

entry_some : (force s v : ℕ) → s ≡ force → entry force s v ≡ some v
unfolding entry
entry_some force s v e = rw (eq-eqb s force e, entry)

entry-none : (force s v : ℕ) → (s ≡ force → ⊥) → entry force s v ≡ none
unfolding entry
entry-none force s v n = rw (ne_eqb s force n, entry)

double : (k : ℕ) → 2 * suc k ≡ suc (suc (2 * k))
double k = omega arith

pub length-recalled : (force : ℕ) (ws : List ℕ) → length (recalled force ws) ≡ length ws / 2
unfolding recalled
length-recalled force [] = refl
length-recalled force (s ∷ []) = refl
length-recalled force (s ∷ v ∷ ws) = omega (arith, length-recalled force ws)

pub length-recall : (ws : List ℕ) (m : Memo) → length (recall ws m) ≡ length ws / 2
unfolding recall
length-recall ws m = length-recalled m.stamp ws

pub recalled-at : (force : ℕ) (ws : List ℕ) (k : ℕ) → 2 * k + 1 < length ws → get_or (recalled force ws) k none ≡ entry force (get_or ws (2 * k) 0) (get_or ws (2 * k + 1) 0)
unfolding recalled
recalled-at force [] k h = absurd (omega arith)
recalled-at force (s ∷ []) k h = absurd (omega arith)
recalled-at force (s ∷ v ∷ ws) zero h = refl
recalled-at force (s ∷ v ∷ ws) (suc k) h =
    let e = double k in
    let f : 2 * suc k + 1 ≡ suc (suc (2 * k + 1)) = omega arith in
    rw (f, e) (recalled-at force ws k (omega arith))

-- where no stamp is the one in force there is nothing
pub recalled-none : (force : ℕ) (ws : List ℕ) → ((i : ℕ) → get_or ws (2 * i) 0 < force) → recalled force ws ≡ replicate (length ws / 2) none
unfolding recalled
recalled-none force [] h = refl
recalled-none force (s ∷ []) h = refl
recalled-none force (s ∷ v ∷ ws) h =
    let n : suc (suc (length ws)) / 2 ≡ suc (length ws / 2) = omega arith in
    let l : s < force = h 0 in
    let d : s ≡ force → ⊥ = λ e. omega arith in
    rw n (ap₂ (λ (o : Option ℕ) (l : List (Option ℕ)). o ∷ l) (entry-none force s v d) (recalled-none force ws (λ i. rw (double i) at (h (suc i)))))

-- one entry is stored
pub recalled-set : (force : ℕ) (ws : List ℕ) (k v : ℕ) → 2 * k + 1 < length ws → recalled force (set (set ws (2 * k) force) (2 * k + 1) v) ≡ set (recalled force ws) k (some v)
unfolding recalled
recalled-set force [] k v h = absurd (omega arith)
recalled-set force (s ∷ []) k v h = absurd (omega arith)
recalled-set force (s ∷ w ∷ ws) zero v h = ap (λ (o : Option ℕ). o ∷ recalled force ws) (entry_some force force v refl)
recalled-set force (s ∷ w ∷ ws) (suc k) v h =
    let e = double k in
    let f : 2 * suc k + 1 ≡ suc (suc (2 * k + 1)) = omega arith in
    rw (f, e) (ap (λ (l : List (Option ℕ)). entry force s w ∷ l) (recalled-set force ws k v (omega arith)))

-- ---- what the memo's functions leave
pub begun-new : (ws : List ℕ) (n : ℕ) (m : Memo) → ws ≡ replicate n 0 → m.stamp ≡ 1 → Remembers ws m × (recall ws m ≡ replicate (n / 2) none)
unfolding recall
begun-new ws n m e f =
    let zeros : (i : ℕ) → ◌≡◌ {A = ℕ} (get_or ws i 0) 0 = λ i. ap (λ (l : List ℕ). get_or l i 0) e ∙ only_at 0 n i in
    let one : 1 ≡ m.stamp = sym f in (
      record { begun = omega arith; past = λ i. omega (arith, zeros (2 * i)) },
      recalled-none m.stamp ws (λ i. omega (arith, zeros (2 * i))) ∙ ap (λ (k : ℕ). replicate (k / 2) none) (ap length e ∙ length-replicate n 0),
    )

pub cleared : (ws : List ℕ) (m m' : Memo) → Remembers ws m → m'.stamp ≡ m.stamp + 1 → Remembers ws m' × (recall ws m' ≡ replicate (length (recall ws m)) none)
unfolding recall
cleared ws m m' R e = (
  record { begun = omega arith; past = λ i. omega (arith, R.past i) },
  recalled-none m'.stamp ws (λ i. omega (arith, R.past i)) ∙ ap (λ (k : ℕ). replicate k none) (sym (length-recalled m.stamp ws)),
)

pub inserted : (ws : List ℕ) (m : Memo) (k v : ℕ) → Remembers ws m → 2 * k + 1 < length ws
    → Remembers (set (set ws (2 * k) m.stamp) (2 * k + 1) v) m × (recall (set (set ws (2 * k) m.stamp) (2 * k + 1) v) m ≡ set (recall ws m) k (some v))
unfolding recall
inserted ws m k v R h = (record { begun = R.begun; past = λ i. past_at i (ℕ_discrete i k) }, recalled-set m.stamp ws k v h)
  where
    past_at : (i : ℕ) → Dec (i ≡ k) → get_or (set (set ws (2 * k) m.stamp) (2 * k + 1) v) (2 * i) 0 ≤ m.stamp
    past_at i (yes e) =
        let q : get_or (set (set ws (2 * k) m.stamp) (2 * k + 1) v) (2 * i) 0 ≡ m.stamp =
        get_or-set_other (set ws (2 * k) m.stamp) (2 * k + 1) (2 * i) v 0 (omega arith)
        ∙ ap (λ (j : ℕ). get_or (set ws (2 * k) m.stamp) (2 * j) 0) e ∙ get_or-set_same ws (2 * k) m.stamp 0 (omega arith) in
        omega arith
    past_at i (no d) =
        let q : get_or (set (set ws (2 * k) m.stamp) (2 * k + 1) v) (2 * i) 0 ≡ get_or ws (2 * i) 0 =
        get_or-set_other (set ws (2 * k) m.stamp) (2 * k + 1) (2 * i) v 0 (omega arith) ∙ get_or-set_other ws (2 * k) (2 * i) m.stamp 0 (omega arith) in
        omega (arith, R.past i)

pub got-value : (ws : List ℕ) (m : Memo) (k : ℕ) → 2 * k + 1 < length ws → get_or ws (2 * k) 0 ≡ m.stamp → some (get_or ws (2 * k + 1) 0) ≡ get_or (recall ws m) k none
unfolding recall
got-value ws m k h e = sym (recalled-at m.stamp ws k h ∙ entry_some m.stamp (get_or ws (2 * k) 0) (get_or ws (2 * k + 1) 0) e)

pub got-nothing : (ws : List ℕ) (m : Memo) (k : ℕ) → 2 * k + 1 < length ws → (get_or ws (2 * k) 0 ≡ m.stamp → ⊥) → none ≡ get_or (recall ws m) k none
unfolding recall
got-nothing ws m k h e = sym (recalled-at m.stamp ws k h ∙ entry-none m.stamp (get_or ws (2 * k) 0) (get_or ws (2 * k + 1) 0) e)
