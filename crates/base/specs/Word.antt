-- A word for a number that may be there.
use Rattle.std.proofs.Math.Option.{Option, none, some}
use Rattle.std.specs.Prelude.{ℕ, suc}

-- 0, or the number and one
abbrev pub word_of : Option ℕ → ℕ
word_of none = 0
word_of (some n) = suc n
