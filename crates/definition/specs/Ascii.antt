-- Fixed words of document 01's texts as bytes.
use Rattle.std.specs.Prelude.{List, [], ◌∷◌, ℕ}
use Prim.Native.Char.{code}
use Prim.Native.String.{String, [] as ε, ◌∷◌ as ◌⊳◌}

-- the bytes of a text of ASCII
unfoldable pub bytes : String → List ℕ
bytes ε = []
bytes (c ⊳ s) = code c ∷ bytes s
