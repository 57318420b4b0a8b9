-- The cases of an induct line as numbers.
use Rattle.std.specs.Prelude.{◌≡◌, refl, List, [], ◌∷◌, ◌++◌, ℕ, zero, suc, ◌+◌, ◌≤◌, ◌<◌, length, get_or, take, drop}
use Rattle.std.proofs.Common.{sym, ap, ap₂, ◌∙◌, append_assoc, append-nil, arith, length-drop}
use Rattle.std.proofs.Math.Seq.{take-append_seam, drop-append_seam}
use Rattle.emission.specs.Line.{Case}

-- the case that numbers begin with: its last line's number, its number of variables, and these as far as there are any
abbrev pub case_in : List ℕ → Case
case_in xs = record { last = get_or xs 0 0; variables = take (get_or xs 1 0) (drop 2 xs) }

-- cases one after the other, at most so many
unfoldable pub cases_from : ℕ → List ℕ → List Case
cases_from zero xs = []
cases_from (suc f) [] = []
cases_from (suc f) (x ∷ xs) = case_in (x ∷ xs) ∷ cases_from f (drop (suc (get_or xs 0 0)) xs)

-- all cases
unfoldable pub cases_in : List ℕ → List Case
unfolding cases_from
cases_in xs = cases_from (length xs) xs

-- there are no more of them than numbers
cases_enough : (f g : ℕ) (xs : List ℕ) → length xs ≤ f → length xs ≤ g → cases_from f xs ≡ cases_from g xs
unfolding cases_from
cases_enough zero zero [] a b = refl
cases_enough zero (suc g) [] a b = refl
cases_enough (suc f) zero [] a b = refl
cases_enough (suc f) (suc g) [] a b = refl
cases_enough zero g (x ∷ xs) a b = absurd (omega arith)
cases_enough (suc f) zero (x ∷ xs) a b = absurd (omega arith)
cases_enough (suc f) (suc g) (x ∷ xs) a b =
    let l = length-drop (suc (get_or xs 0 0)) xs in
    ap (λ (cs : List Case). case_in (x ∷ xs) ∷ cs) (cases_enough f g (drop (suc (get_or xs 0 0)) xs) (omega (arith, a, l)) (omega (arith, b, l)))

-- the first of them, and those behind it
pub cases_next : (xs : List ℕ) → 0 < length xs → cases_in xs ≡ case_in xs ∷ cases_in (drop (2 + get_or xs 1 0) xs)
unfolding cases_in cases_from
cases_next [] h = absurd (omega arith)
cases_next (x ∷ xs) h =
    let n = get_or xs 0 0 in
    let e : suc (suc n) ≡ 2 + n = omega arith in
    ap (λ (cs : List Case). case_in (x ∷ xs) ∷ cs) (cases_enough (length xs) (length (drop (suc n) xs)) (drop (suc n) xs) (omega (arith, length-drop (suc n) xs)) (omega arith) ∙ ap (λ (m : ℕ). cases_in (drop m (x ∷ xs))) e)

-- no numbers, no cases
pub cases_none : (xs : List ℕ) → length xs ≤ 0 → cases_in xs ≡ []
unfolding cases_in cases_from
cases_none [] h = refl
cases_none (x ∷ xs) h = absurd (omega arith)

-- ---- cases as they are handed over
-- the numbers of a case
abbrev pub case_words : Case → List ℕ
case_words c = c.last ∷ length c.variables ∷ c.variables

-- of cases
unfoldable pub cases_words : List Case → List ℕ
cases_words [] = []
cases_words (c ∷ cs) = case_words c ++ cases_words cs

-- one more
pub words-behind : (cs : List Case) (c : Case) → cases_words (cs ++ (c ∷ [])) ≡ cases_words cs ++ case_words c
unfolding cases_words
words-behind [] c = append-nil (case_words c)
words-behind (d ∷ cs) c = ap (λ (xs : List ℕ). case_words d ++ xs) (words-behind cs c) ∙ sym (append_assoc (case_words d) (cases_words cs) (case_words c))

-- they give the cases back
pub cases_given : (cs : List Case) → cases_in (cases_words cs) ≡ cs
unfolding cases_words
cases_given [] = cases_none [] (omega arith)
cases_given (c ∷ cs) =
    let ks = c.variables in
    let rest = cases_words cs in
    let e : 2 + length ks ≡ suc (suc (length ks)) = omega arith in
    cases_next (case_words c ++ rest) (omega arith)
    ∙ ap₂ (λ (js xs : List ℕ). record { last = c.last; variables = js } ∷ cases_in xs) (take-append_seam ks rest) (ap (λ (n : ℕ). drop n (case_words c ++ rest)) e ∙ drop-append_seam ks rest)
    ∙ ap (λ (ds : List Case). c ∷ ds) (cases_given cs)
