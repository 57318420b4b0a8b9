-- Texts side by side.
use Rattle.std.specs.Prelude.{List, [], ◌∷◌, ◌++◌, ℕ}

-- a blank ahead of each
unfoldable pub blanked : List (List ℕ) → List ℕ
blanked [] = []
blanked (t ∷ ts) = (32 ∷ t) ++ blanked ts

-- a blank between each two
unfoldable pub joined : List (List ℕ) → List ℕ
unfolding blanked
joined [] = []
joined (t ∷ ts) = t ++ blanked ts
