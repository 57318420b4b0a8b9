-- A term in full: as `show` has it, without a budget. Laws/Written has that a budget that suffices gives the same.
use Rattle.std.specs.Prelude.{List, [], ◌∷◌, ◌++◌, ℕ}
use Rattle.definition.specs.Pack.{Term, Terms, var, app, nil, cons, Pack}
use Rattle.definition.specs.Shown.{headed}

-- a term by a name for each variable; a part that stands in two places is written twice
unfoldable mutual
  unfolding headed

  pub written : Pack → (ℕ → List ℕ) → Term → List ℕ
  written P name (var k) = name k
  written P name (app h ts) = headed P h ts (written_all P name ts)

  pub written_all : Pack → (ℕ → List ℕ) → Terms → List ℕ
  written_all P name nil = []
  written_all P name (cons t ts) = (32 ∷ written P name t) ++ written_all P name ts

-- a term whose only variable is L, with L's number in lines
unfoldable mutual
  pub only_l : Term → Term
  only_l (var k) = var 0
  only_l (app h ts) = app h (only_lall ts)

  pub only_lall : Terms → Terms
  only_lall nil = nil
  only_lall (cons t ts) = cons (only_l t) (only_lall ts)
