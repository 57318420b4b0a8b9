-- The key of a constructor over its variables, and a case's numbers, as they are laid.
use Rattle.std.specs.Prelude.{◌≡◌, refl, List, [], ◌∷◌, ◌++◌, ℕ, suc, ◌+◌, ◌-◌, ◌≤◌, ◌<◌, length, set, take, drop}
use Rattle.std.proofs.Common.{sym, ap, ◌∙◌, append_assoc, append-nil, arith, length-set, take-suc-set}
use Rattle.std.proofs.Math.Seq.{take-append_seam}
use Rattle.definition.specs.Pack.{most_arity}
use Rattle.base.specs.Part.{put, length-put}
use Rattle.emit_case.specs.Variables.{numbers_from}
use Rattle.emit_case.specs.VariablesLeft.{numbers_more}
use Rattle.emit_case.specs.Case.{most_key, most_case, case_numbers}

-- ---- a key
-- there is room for it
pub key-room : (c : ℕ) (vs key : List ℕ) → length vs ≤ most_arity → length key ≡ most_key → length vs + 1 ≤ length (set key 0 c)
key-room c vs key few long = omega (arith, length-set key 0 c)

-- a symbol in front of its arguments
pub key_laid : (c : ℕ) (vs key ys : List ℕ) → ys ≡ vs → length key ≡ most_key → take (length vs + 1) (put 1 (length vs + 1 - 1) ys (set key 0 c)) ≡ c ∷ vs
key_laid c vs [] ys q h = absurd (omega arith)
key_laid c vs (x ∷ key) ys q h =
    let k = length vs + 1 - 1 in
    let n : length vs + 1 ≡ suc (length ys) = omega (arith, ap length q) in
    ap (λ (i : ℕ). take i (put 1 k ys (c ∷ key))) n ∙ ap (λ (zs : List ℕ). c ∷ zs) (take-append_seam ys (drop k key) ∙ q)

-- the words are as many as they were
pub key_long : (c : ℕ) (vs key ys : List ℕ) → ys ≡ vs → length vs ≤ most_arity → length key ≡ most_key → length (put 1 (length vs + 1 - 1) ys (set key 0 c)) ≡ length key
key_long c vs key ys q few long =
    length-put 1 (length vs + 1 - 1) (set key 0 c) (omega (arith, key-room c vs key few long)) ys (omega (arith, ap length q)) ∙ length-set key 0 c

-- ---- a case
-- the words at first: the case's last line, and how many variables it has
abbrev pub begun : List ℕ → ℕ → ℕ → ℕ → List ℕ
begun xs at last n = set (set xs at last) (at + 1) n

-- so many variables stand behind what was there
pub record CaseGo (cases₀ cases : List ℕ) (at first n i : ℕ) : Type 0 where
  pub upto : i ≤ n
  pub few : n ≤ most_arity
  pub room : at + most_case ≤ length cases
  pub long : length cases ≡ length cases₀
  pub laid : take (at + 2 + i) cases ≡ take (at + 2) cases₀ ++ numbers_from i first

-- none does
pub case_go : (xs : List ℕ) (at first n : ℕ) → n ≤ most_arity → at + most_case ≤ length xs → CaseGo xs xs at first n 0
unfolding numbers_from
case_go xs at first n few room =
    let z : at + 2 + 0 ≡ at + 2 = omega arith in
    record { upto = omega arith; few = few; room = room; long = refl; laid = ap (λ (k : ℕ). take k xs) z ∙ sym (append-nil (take (at + 2) xs)) }

module _ (cases₀ cases : List ℕ) (at first n i : ℕ) (G : CaseGo cases₀ cases at first n i) where
  -- the next one's place
  pub next-below : i < n → at + 2 + i < length cases
  next-below h = omega (arith, G.few, G.room)

  -- the next one
  pub case_more : i < n → CaseGo cases₀ (set cases (at + 2 + i) (first + i)) at first n (i + 1)
  case_more h =
      let v = first + i in
      let z : at + 2 + (i + 1) ≡ suc (at + 2 + i) = omega arith in
      let k : suc i ≡ i + 1 = omega arith in
      record {
        upto = omega arith;
        few = G.few;
        room = omega (arith, G.room, length-set cases (at + 2 + i) v);
        long = length-set cases (at + 2 + i) v ∙ G.long;
        laid = ap (λ (j : ℕ). take j (set cases (at + 2 + i) v)) z
            ∙ take-suc-set cases (at + 2 + i) v (next-below h)
            ∙ ap (λ (zs : List ℕ). zs ++ (v ∷ [])) G.laid
            ∙ append_assoc (take (at + 2) cases₀) (numbers_from i first) (v ∷ [])
            ∙ ap (λ (zs : List ℕ). take (at + 2) cases₀ ++ zs) (numbers_more i first ∙ ap (λ (j : ℕ). numbers_from j first) k);
      }

-- what stands first
begun_front : (xs : List ℕ) (at last n : ℕ) → at + most_case ≤ length xs → take (at + 2) (begun xs at last n) ≡ take at xs ++ (last ∷ n ∷ [])
begun_front xs at last n room =
    let ys = set xs at last in
    let z : at + 2 ≡ suc (at + 1) = omega arith in
    let s : at + 1 ≡ suc at = omega arith in
    ap (λ (k : ℕ). take k (set ys (at + 1) n)) z
    ∙ take-suc-set ys (at + 1) n (omega (arith, length-set xs at last))
    ∙ ap (λ (k : ℕ). take k ys ++ (n ∷ [])) s
    ∙ ap (λ (zs : List ℕ). zs ++ (n ∷ [])) (take-suc-set xs at last (omega arith))
    ∙ append_assoc (take at xs) (last ∷ []) (n ∷ [])

-- as long as it was
pub begun_long : (xs : List ℕ) (at last n : ℕ) → length (begun xs at last n) ≡ length xs
begun_long xs at last n = length-set (set xs at last) (at + 1) n ∙ length-set xs at last

-- all stand
pub case_end : (xs cases : List ℕ) (at last first n i : ℕ) → at + most_case ≤ length xs → CaseGo (begun xs at last n) cases at first n i → n ≤ i → take (at + 2 + n) cases ≡ take at xs ++ case_numbers last n first
unfolding case_numbers
case_end xs cases at last first n i room G h =
    let z : n ≡ i = omega (arith, G.upto) in
    ap (λ (k : ℕ). take (at + 2 + k) cases) z
    ∙ G.laid
    ∙ ap (λ (k : ℕ). take (at + 2) (begun xs at last n) ++ numbers_from k first) (sym z)
    ∙ ap (λ (zs : List ℕ). zs ++ numbers_from n first) (begun_front xs at last n room)
    ∙ append_assoc (take at xs) (last ∷ n ∷ []) (numbers_from n first)
