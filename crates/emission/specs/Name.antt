-- "The name is `L` with underscores until `L…` is no symbol."
use Rattle.std.specs.Prelude.{Bool, true, false, List, ◌∷◌, ℕ, zero, suc, replicate}
use Rattle.definition.specs.Test.{any, same}
use Rattle.definition.specs.Pack.{most_name, Symbol, Pack}

-- L with so many underscores
unfoldable pub name_with : ℕ → List ℕ
name_with n = 76 ∷ replicate n 95

-- a symbol that keeps L from a name: the symbol of that name
unfoldable pub taken : List ℕ → Symbol → Bool
unfolding same
taken name y = same name y.name

-- the first name that no symbol takes, from n underscores on, tried so many times
unfoldable pub first_free : ℕ → List Symbol → ℕ → List ℕ
unfolding any taken name_with
first_free zero ys n = name_with n
first_free (suc tries) ys n = elim (any (taken (name_with n)) ys) [ true ↦ first_free tries ys (suc n) | false ↦ name_with n ]

-- L with as many underscores as a symbol has bytes at most is too long for a symbol
unfoldable pub name_of : Pack → List ℕ
unfolding first_free
name_of P = first_free most_name P.symbols 0
