-- The key of an output's judgment with a candidate for the open argument, as it is laid.
use Rattle.std.specs.Prelude.{◌≡◌, refl, true, false, List, [], ◌∷◌, ◌++◌, ℕ, suc, ◌+◌, ◌*◌, ◌^◌, ◌≤◌, ◌<◌, eqb, length, get_or, set, take, drop}
use Rattle.std.proofs.Common.{sym, ap, ◌∙◌, append_assoc, append-nil, arith, eq-eqb, ne_eqb, length-set, drop_of_length-le, drop-cons, take-suc-set}
use Rattle.definition.specs.Test.{is, see}
use Rattle.definition.specs.Pack.{most_arity}
use Rattle.emission.specs.Choose.{filled}
use Rattle.emit_case.specs.Case.{most_key}
use Rattle.emit_induct.specs.Candidates.{no_pattern, arguments_in, fill_one, filling}

-- ---- on plain values
-- an open argument is the candidate
pub fill_open : (c a : ℕ) → a ≡ no_pattern → c ≡ fill_one c a
unfolding fill_one
fill_open c a h = sym (rw (eq-eqb a no_pattern h, fill_one))

-- another is itself
pub fill_given : (c a : ℕ) → (a ≡ no_pattern → ⊥) → a ≡ fill_one c a
unfolding fill_one
fill_given c a h = sym (rw (ne_eqb a no_pattern h, fill_one))

-- the arguments are filled one by one
each_filled : (c a : ℕ) (xs : List ℕ) → filling (a ∷ xs) c ≡ fill_one c a ∷ filling xs c
unfolding filled arguments_in fill_one
each_filled c a xs = elim (see (eqb a no_pattern)) [
  | is true t ↦ rw (t, arguments_in, fill_one, filled) refl
  | is false t ↦ rw (t, arguments_in, fill_one, filled) refl
]

-- of none there is none
none_filled : (c : ℕ) → filling [] c ≡ []
unfolding filled arguments_in
none_filled c = refl

-- ---- the loop
-- the first i arguments stand behind the predicate, and what is left to do gives what the whole gives
pub record FillGo (p c : ℕ) (args key : List ℕ) (i : ℕ) : Type 0 where
  pub upto : i ≤ length args
  pub few : length args ≤ most_arity
  pub long : length key ≡ most_key
  pub left : take (suc i) key ++ filling (drop i args) c ≡ p ∷ filling args c

-- none stands yet
pub fill_go : (p c : ℕ) (args key : List ℕ) → length args ≤ most_arity → length key ≡ most_key → FillGo p c args (set key 0 p) 0
fill_go p c args [] few long = absurd (omega arith)
fill_go p c args (k ∷ key) few long = record { upto = omega arith; few = few; long = long; left = refl }

module _ (p c : ℕ) (args key : List ℕ) (i : ℕ) (G : FillGo p c args key i) where
  module _ (h : i < length args) where
    -- the next one's place
    pub fill_below : i + 1 < length key
    fill_below = omega (arith, G.few, G.long)

    -- its bytes' place is small
    pub fill_bytes : i * 4 < 2 ^ 64
    fill_bytes = omega (arith, G.few)

    -- so is the place behind it
    pub fill_next : i + 1 < 2 ^ 64
    fill_next = omega (arith, G.few)

    -- the next one stands
    pub fill_more : (v : ℕ) → v ≡ fill_one c (get_or args i 0) → FillGo p c args (set key (i + 1) v) (i + 1)
    fill_more v z =
        let j : i + 1 ≡ suc i = omega arith in
        let below = fill_below in
        let rest = filling (drop (suc i) args) c in
        record {
          upto = omega arith;
          few = G.few;
          long = length-set key (i + 1) v ∙ G.long;
          left = ap (λ (k : ℕ). take (suc (i + 1)) (set key (i + 1) v) ++ filling (drop k args) c) j
              ∙ ap (λ (zs : List ℕ). zs ++ rest) (take-suc-set key (i + 1) v below)
              ∙ ap (λ (k : ℕ). (take k key ++ (v ∷ [])) ++ rest) j
              ∙ append_assoc (take (suc i) key) (v ∷ []) rest
              ∙ ap (λ (a : ℕ). take (suc i) key ++ (a ∷ rest)) z
              ∙ ap (λ (zs : List ℕ). take (suc i) key ++ zs) (sym (each_filled c (get_or args i 0) (drop (suc i) args)))
              ∙ ap (λ (zs : List ℕ). take (suc i) key ++ filling zs c) (sym (drop-cons args i 0 h))
              ∙ G.left;
        }

  -- all stand
  pub fill_end : length args ≤ i → take (length args + 1) key ≡ p ∷ filling args c
  fill_end h =
      let j : length args + 1 ≡ suc i = omega (arith, G.upto) in
      ap (λ (k : ℕ). take k key) j
      ∙ sym (append-nil (take (suc i) key))
      ∙ ap (λ (zs : List ℕ). take (suc i) key ++ zs) (sym (ap (λ (zs : List ℕ). filling zs c) (drop_of_length-le args h) ∙ none_filled c))
      ∙ G.left

  -- so many words a key has at most
  pub fill_small : length args + 1 < 2 ^ 64
  fill_small = omega (arith, G.few)
