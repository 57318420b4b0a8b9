-- The words of a line as numbers, and what the writers of words promise.
use Rattle.std.specs.Prelude.{◌≡◌, refl, true, false, List, [], ◌∷◌, ◌++◌, map, ℕ, zero, suc, ◌+◌, ◌-◌, ◌≤◌, ◌<◌, ltb}
use Rattle.std.proofs.Common.{sym, arith}
use Rattle.std.proofs.Math.Path.{ap}
use borrow.Author.Tests.{lt-ltb, le-ltb}
use Rattle.definition.specs.Decimal.{decimal}
use Rattle.definition.specs.Pack.{Pack, symbol_of}
use Rattle.emission.specs.Name.{name_with}
use Rattle.emission.specs.Line.{Word, constant, defined, variable, Judgment}
use Rattle.emission.specs.Render.{definition_text, variable_text, word_text}
use Rattle.text_write.specs.Source.{OfRead}
use Rattle.text_write.specs.Written.{Adds}
use Rattle.emit_lines.specs.declared.word.Hand.{Hand}

-- a word by its number
unfoldable pub word_in : ℕ → Word
word_in w = elim (ltb w 1073741824) [ true ↦ constant w | false ↦ elim (ltb w 2147483648) [ true ↦ defined (w - 1073741824) | false ↦ variable (w - 2147483648) ] ]

-- constants, definitions and variables as they are handed over
pub word_constant : (h : ℕ) → h < 1073741824 → word_in h ≡ constant h
unfolding word_in
word_constant h l = rw (lt-ltb h 1073741824 l, word_in)

pub word_defined : (n : ℕ) → n < 1073741824 → word_in (1073741824 + n) ≡ defined n
unfolding word_in
word_defined n l =
    let e : 1073741824 + n - 1073741824 ≡ n = omega arith in
    rw (le-ltb (1073741824 + n) 1073741824 (omega arith), lt-ltb (1073741824 + n) 2147483648 (omega arith), word_in) (ap defined e)

pub word-variable : (k : ℕ) → word_in (2147483648 + k) ≡ variable k
unfolding word_in
word-variable k =
    let e : 2147483648 + k - 2147483648 ≡ k = omega arith in
    rw (le-ltb (2147483648 + k) 1073741824 (omega arith), le-ltb (2147483648 + k) 2147483648 (omega arith), word_in) (ap variable e)

-- a word's text by where its number stands
module _ (P : Pack) (L : List ℕ) (w : ℕ) where
  pub text_constant : w < 1073741824 → (symbol_of P w).name ≡ word_text P L (word_in w)
  unfolding word_text
  text_constant h = ap (word_text P L) (sym (word_constant w h))

  pub text_defined : 1073741824 ≤ w → w < 2147483648 → definition_text (w - 1073741824) ≡ word_text P L (word_in w)
  unfolding word_in word_text
  text_defined h k = let e : word_in w ≡ defined (w - 1073741824) = rw (le-ltb w 1073741824 h, lt-ltb w 2147483648 k, word_in) in ap (word_text P L) (sym e)

  pub text_variable : 1073741824 ≤ w → 2147483648 ≤ w → variable_text L (w - 2147483648) ≡ word_text P L (word_in w)
  unfolding word_in word_text
  text_variable h k = let e : word_in w ≡ variable (w - 2147483648) = rw (le-ltb w 1073741824 h, le-ltb w 2147483648 k, word_in) in ap (word_text P L) (sym e)

-- a variable is L itself, or has a number
pub variable-first : (L : List ℕ) (k : ℕ) → k ≡ 0 → L ≡ variable_text L k
unfolding variable_text
variable-first L k e = ap (variable_text L) (sym e)

pub variable-later : (L : List ℕ) (k : ℕ) → 0 < k → L ++ decimal (k - 1) ≡ variable_text L k
unfolding variable_text
variable-later L zero h = absurd (omega arith)
variable-later L (suc k) h = let e : suc k - 1 ≡ k = omega arith in ap (λ (n : ℕ). L ++ decimal n) e

-- a judgment by its predicate and the numbers of its words
abbrev pub judgment_in : ℕ → List ℕ → Judgment
judgment_in p words = record { predicate = p; words = map word_in words }

-- a text is added that goes by the pack and the name of L
abbrev pub Puts : (bytes work text text' : List ℕ) (s : Hand) (at : ℕ) → (Pack → List ℕ → List ℕ) → ℕ → Type 0
Puts bytes work text text' s at F r = OfRead bytes work s.catalog (λ P. Adds text text' at (F P (name_with s.name)) r)

-- words one by one are words
pub words_each : (f : Word → List ℕ) (words : List ℕ) → map f (map word_in words) ≡ map (λ w. f (word_in w)) words
words_each f [] = refl
words_each f (w ∷ words) = ap (λ (l : List (List ℕ)). f (word_in w) ∷ l) (words_each f words)
