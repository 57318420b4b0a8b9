-- Words up to a place that are as they were.
use Rattle.std.specs.Prelude.{◌≡◌, refl, List, ℕ, ◌≤◌, ◌<◌, length, get_or}
use Rattle.std.proofs.Common.{sym, ◌∙◌, arith}
use Rattle.base.specs.Outside.{Outside}

-- the words up to e are as they were
pub record Upto (e : ℕ) (xs ys : List ℕ) : Type 0 where
  pub long : length ys ≡ length xs
  pub words : (i : ℕ) → i < e → get_or ys i 0 ≡ get_or xs i 0

-- nothing was written
pub upto_none : (e : ℕ) (xs : List ℕ) → Upto e xs xs
upto_none e xs = record { long = refl; words = λ i l. refl }

-- one after the other
pub upto_then : (e : ℕ) (xs ys zs : List ℕ) → Upto e xs ys → Upto e ys zs → Upto e xs zs
upto_then e xs ys zs A B = record { long = B.long ∙ A.long; words = λ i l. B.words i l ∙ A.words i l }

-- words behind it were written
pub upto_outside : (e a b : ℕ) (xs ys : List ℕ) → e ≤ a → Outside a b xs ys → Upto e xs ys
upto_outside e a b xs ys h A = record { long = A.long; words = λ i l. A.ahead i (omega arith) }

-- the other way
pub upto_back : (e : ℕ) (xs ys : List ℕ) → Upto e xs ys → Upto e ys xs
upto_back e xs ys A = record { long = sym A.long; words = λ i l. sym (A.words i l) }
