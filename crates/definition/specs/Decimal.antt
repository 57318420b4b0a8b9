-- Numbers as decimal text.
use Rattle.std.specs.Prelude.{true, false, ◌≡◌, refl, List, [], ◌∷◌, ◌++◌, ℕ, zero, suc, ◌+◌, ◌*◌, ◌-◌, ◌/◌, ◌%◌, ◌<◌, ◌≤◌, ltb, length, get_or}
use Rattle.std.proofs.Common.{ap, ◌∙◌, arith, lt-ltb, le-ltb, length-append}
use Rattle.std.proofs.Math.Decide.{dec_lt}
use Rattle.std.proofs.Math.ListN.{get_or-append}

-- the digits of n, highest first, where there are at most f
unfoldable pub digits_in : ℕ → ℕ → List ℕ
digits_in zero n = []
digits_in (suc f) n = elim (ltb n 10) [ true ↦ (48 + n) ∷ [] | false ↦ digits_in f (n / 10) ++ ((48 + n % 10) ∷ []) ]

-- n as text: a byte for each digit, highest first
unfoldable pub decimal : ℕ → List ℕ
unfolding digits_in
decimal n = digits_in (suc n) n

-- the number that a text of digits gives, read after the number a
unfoldable pub value_after : ℕ → List ℕ → ℕ
value_after a [] = a
value_after a (d ∷ ds) = value_after (10 * a + (d - 48)) ds

-- the number that a text of digits gives
unfoldable pub value : List ℕ → ℕ
unfolding value_after
value ds = value_after 0 ds

-- any number of digits above n is enough
enough : (f g n : ℕ) → n < f → n < g → digits_in f n ≡ digits_in g n
unfolding digits_in
enough zero g n a b = absurd (omega arith)
enough (suc f) zero n a b = absurd (omega arith)
enough (suc f) (suc g) n a b = elim (dec_lt n 10) [
  | yes h ↦ rw (lt-ltb n 10 h, digits_in)
  | no h ↦ rw (le-ltb n 10 (omega arith), digits_in, enough f g (n / 10) (omega arith) (omega arith))
]

-- below ten, one digit
pub decimal_few : (n : ℕ) → n < 10 → decimal n ≡ (48 + n) ∷ []
unfolding decimal
decimal_few n h = rw (lt-ltb n 10 h, digits_in)

-- from ten on, the tenth's text and one digit more
pub decimal-more : (n : ℕ) → 10 ≤ n → decimal n ≡ decimal (n / 10) ++ ((48 + n % 10) ∷ [])
unfolding decimal
decimal-more n h = rw (le-ltb n 10 h, digits_in, enough n (suc (n / 10)) (n / 10) (omega arith) (omega arith))

-- what holds of one digit, and of a number if it holds of its tenth, holds of each number and its text
by_digits_in : (P : ℕ → List ℕ → Type 0) → ((n : ℕ) → n < 10 → P n ((48 + n) ∷ []))
    → ((n : ℕ) (ds : List ℕ) → 10 ≤ n → P (n / 10) ds → P n (ds ++ ((48 + n % 10) ∷ [])))
    → (f n : ℕ) → n < f → P n (decimal n)
by_digits_in P few more zero n h = absurd (omega arith)
by_digits_in P few more (suc f) n h = elim (dec_lt n 10) [
  | yes l ↦ rw (decimal_few n l) (few n l)
  | no l ↦ rw (decimal-more n (omega arith)) (more n (decimal (n / 10)) (omega arith) (by_digits_in P few more f (n / 10) (omega arith)))
]

by_digits : (P : ℕ → List ℕ → Type 0) → ((n : ℕ) → n < 10 → P n ((48 + n) ∷ []))
    → ((n : ℕ) (ds : List ℕ) → 10 ≤ n → P (n / 10) ds → P n (ds ++ ((48 + n % 10) ∷ []))) → (n : ℕ) → P n (decimal n)
by_digits P few more n = by_digits_in P few more (suc n) n (omega arith)

-- one digit more is read as ten times the number, and the digit
value-last : (a : ℕ) (ds : List ℕ) (d : ℕ) → value_after a (ds ++ (d ∷ [])) ≡ 10 * value_after a ds + (d - 48)
unfolding value_after
value-last a [] d = refl
value-last a (e ∷ ds) d = value-last (10 * a + (e - 48)) ds d

-- the text of n, read back, gives n
pub decimal-value : (n : ℕ) → value (decimal n) ≡ n
unfolding value
decimal-value n =
    by_digits (λ m ds. value ds ≡ m) (λ m h. omega arith) (λ m ds h e. omega (arith, value-last 0 ds (48 + m % 10))) n

-- each byte is that of a digit, 48 to 57
abbrev pub Digits : List ℕ → Type 0
Digits [] = Unit {0}
Digits (d ∷ ds) = (48 ≤ d) × (d ≤ 57) × Digits ds

-- digits, and one behind them
digits_last : (ds : List ℕ) (d : ℕ) → Digits ds → 48 ≤ d → d ≤ 57 → Digits (ds ++ (d ∷ []))
digits_last [] d h a b = (a, b, tt)
digits_last (e ∷ ds) d h a b = (h.0, h.1, digits_last ds d h.2 a b)

-- the text of n has digits alone
pub decimal_digits : (n : ℕ) → Digits (decimal n)
decimal_digits n =
    by_digits (λ m ds. Digits ds) (λ m h. (omega arith, omega arith, tt)) (λ m ds h d. digits_last ds (48 + m % 10) d (omega arith) (omega arith)) n

-- there is a first digit, and it is 0 for the number 0 alone
pub decimal-first : (n : ℕ) → (0 < length (decimal n)) × (get_or (decimal n) 0 0 ≡ 48 → n ≡ 0)
decimal-first n =
    by_digits (λ m ds. (0 < length ds) × (get_or ds 0 0 ≡ 48 → m ≡ 0)) (λ m h. (omega arith, λ e. omega arith))
    (λ m ds h d. (simp length-append (omega arith), λ e. absurd (let z = d.1 (rw (get_or-append ds ((48 + m % 10) ∷ []) 0 0 d.0) at e) in omega arith))) n

-- a digit more than the tenth has
pub length_more : (n : ℕ) → 10 ≤ n → length (decimal n) ≡ length (decimal (n / 10)) + 1
length_more n h = ap length (decimal-more n h) ∙ length-append (decimal (n / 10)) ((48 + n % 10) ∷ [])

-- four texts: of 0, of one digit, of two, and of the greatest number of 64 bits
zero_text : decimal 0 ≡ 48 ∷ []
unfolding decimal
zero_text = refl

seven_text : decimal 7 ≡ 55 ∷ []
unfolding decimal
seven_text = refl

ten_text : decimal 10 ≡ 49 ∷ 48 ∷ []
unfolding decimal
ten_text = refl

most_text : decimal 18446744073709551615 ≡ 49 ∷ 56 ∷ 52 ∷ 52 ∷ 54 ∷ 55 ∷ 52 ∷ 52 ∷ 48 ∷ 55 ∷ 51 ∷ 55 ∷ 48 ∷ 57 ∷ 53 ∷ 53 ∷ 49 ∷ 54 ∷ 49 ∷ 53 ∷ []
unfolding decimal
most_text = refl
