-- Packs for worked examples, written so that they can be read.
use Rattle.std.specs.Prelude.{◌≡◌, refl, List, [], ◌∷◌, ◌++◌, ℕ, zero, suc, ◌-◌, length, replicate}
use Prim.Native.String.{String}
use Rattle.definition.specs.Ascii.{bytes}
use Rattle.definition.specs.Encode.{put, put_words, put_record_of}
use Rattle.definition.specs.Theory.{variable}

unfoldable pub sort : String → List ℕ
unfolding put_record_of bytes
sort name = put_record_of 1 (bytes name)

unfoldable pub symbol : ℕ → List ℕ → String → List ℕ
unfolding put_record_of put put_words bytes
symbol output inputs name = put_record_of 2 (put 4 output ++ (put 2 (length inputs) ++ (put_words inputs ++ bytes name)))

-- the variables' sorts, the number of premises, the prefix words
unfoldable pub rule : List ℕ → ℕ → List ℕ → String → List ℕ
unfolding put_record_of put put_words bytes
rule vars premises terms name = put_record_of 3 (put 2 (length vars) ++ (put 2 premises ++ (put_words vars ++ (put_words terms ++ bytes name))))

unfoldable pub node : List ℕ → List ℕ
unfolding put_record_of put_words
node words = put_record_of 4 (put_words words)

unfoldable pub step : List ℕ → List ℕ
unfolding put_record_of put_words
step words = put_record_of 5 (put_words words)

unfoldable pub goal : ℕ → String → List ℕ
unfolding put_record_of put bytes
goal judgment name = put_record_of 6 (put 4 judgment ++ bytes name)

unfoldable pub result : ℕ → String → List ℕ
unfolding put_record_of put bytes
result step name = put_record_of 7 (put 4 step ++ bytes name)

-- document 01's own record: result `g` at step 2
g_at_2 : result 2 "g" ≡ 5 ∷ 0 ∷ 0 ∷ 0 ∷ 7 ∷ 0 ∷ 2 ∷ 0 ∷ 0 ∷ 0 ∷ 103 ∷ []
unfolding result
g_at_2 = refl

unfoldable pub cut : List ℕ → List ℕ
unfolding put_record_of put_words
cut words = put_record_of 8 (put_words words)

unfoldable pub abstract : List ℕ → List ℕ
unfolding put_record_of put_words
abstract words = put_record_of 9 (put_words words)

-- a variable's prefix word
abbrev pub X : ℕ
X = variable

-- a rule without variables whose one judgment has n words: the predicate 2, the constructor 1 nested, these words last
unfoldable pub nested : ℕ → List ℕ → String → List ℕ
unfolding rule
nested n last name = rule [] 0 (2 ∷ (replicate (n - 1 - length last) 1 ++ last)) name

-- a list n times
unfoldable pub times : ℕ → List ℕ → List ℕ
times zero xs = []
times (suc n) xs = xs ++ times n xs
