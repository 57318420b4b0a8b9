-- Document 01, record 9, "constructor, a position below its arity": the variables that it opens in a conclusion, from `at`.
use Rattle.std.specs.Prelude.{Bool, false, ◌||◌, ℕ, zero, suc, eqb}
use Rattle.definition.specs.Test.{◌and◌}
use Rattle.definition.specs.Pack.{Term, Terms, var, app, nil, cons}

-- the i-th of these terms is variable k
unfoldable pub argument_is : ℕ → ℕ → Terms → Bool
argument_is i k nil = false
argument_is zero k (cons (var j) ts) = eqb j k
argument_is zero k (cons (app h us) ts) = false
argument_is (suc i) k (cons t ts) = argument_is i k ts

-- variable k stands somewhere in a term as argument i of constructor c
unfoldable mutual
  unfolding ◌and◌ argument_is

  pub at : ℕ → ℕ → ℕ → Term → Bool
  at c i k (var j) = false
  at c i k (app h ts) = (eqb h c and argument_is i k ts) || at_any c i k ts

  pub at_any : ℕ → ℕ → ℕ → Terms → Bool
  at_any c i k nil = false
  at_any c i k (cons t ts) = at c i k t || at_any c i k ts
