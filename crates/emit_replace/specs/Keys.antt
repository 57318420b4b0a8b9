-- The words of a pattern over its arguments' values, written one by one.
use Rattle.std.specs.Prelude.{◌≡◌, List, ◌∷◌, map, ℕ, zero, suc, ◌+◌, ◌≤◌, ◌<◌, length, get_or, set, take}
use Rattle.std.proofs.Common.{sym, ap, ◌∙◌, arith, length-set, get_or-set_same, get_or-set_other, get_or-take, length-take-le, ext_get_or}
use Rattle.std.proofs.Math.Decide.{ℕ_discrete}
use Rattle.std.proofs.lemmas.List.{length-map}
use Rattle.definition.proofs.Laws.Grow.{map_at}
use Rattle.emit_replace.specs.Known.{Values, value_of}

-- the head and the first i values stand there
pub record Keying (μ : Values) (head : ℕ) (args : List ℕ) (i : ℕ) (key : List ℕ) : Type 0 where
  pub long : length key ≡ 17
  pub first : get_or key 0 0 ≡ head
  pub values : (h : ℕ) → h < i → get_or key (h + 1) 0 ≡ value_of μ (get_or args h 0)

module _ (μ : Values) (head : ℕ) (args : List ℕ) where
  -- the head
  pub keying_first : (key : List ℕ) (v : ℕ) → length key ≡ 17 → v ≡ head → Keying μ head args 0 (set key 0 v)
  keying_first key v l e = record { long = length-set key 0 v ∙ l; first = get_or-set_same key 0 v 0 (omega arith) ∙ e; values = λ h z. absurd (omega arith) }

  -- one value more
  pub keying_more : (i : ℕ) (key : List ℕ) (v : ℕ) → Keying μ head args i key → i < 16 → v ≡ value_of μ (get_or args i 0) → Keying μ head args (i + 1) (set key (i + 1) v)
  keying_more i key v K b e = record {
    long = length-set key (i + 1) v ∙ K.long;
    first = get_or-set_other key (i + 1) 0 v 0 (omega arith) ∙ K.first;
    values = λ h z. elim (ℕ_discrete h i) [
      | yes q ↦ ap (λ (n : ℕ). get_or (set key (i + 1) v) (n + 1) 0) q ∙ get_or-set_same key (i + 1) v 0 (omega (arith, K.long)) ∙ e ∙ ap (λ (n : ℕ). value_of μ (get_or args n 0)) (sym q)
      | no n ↦ get_or-set_other key (i + 1) (h + 1) v 0 (λ q. n (omega arith)) ∙ K.values h (omega arith)
    ];
  }

  -- all of them
  pub keying_all : (i : ℕ) (key : List ℕ) → Keying μ head args i key → i ≡ length args → i ≤ 16 → take (i + 1) key ≡ head ∷ map (value_of μ) args
  keying_all i key K e b =
      let l = length-take-le {A = ℕ} (i + 1) key (omega (arith, K.long)) in
      ext_get_or 0 (take (i + 1) key) (head ∷ map (value_of μ) args) (l ∙ omega (arith, length-map args (value_of μ)))
      (λ h z. get_or-take (i + 1) key h 0 (omega arith) ∙ at h (omega arith))
    where
      at : (h : ℕ) → h < i + 1 → get_or key h 0 ≡ get_or (head ∷ map (value_of μ) args) h 0
      at zero z = K.first
      at (suc h) z = ap (λ (n : ℕ). get_or key n 0) (omega arith) ∙ K.values h (omega arith) ∙ sym (map_at (value_of μ) args h (omega arith))
