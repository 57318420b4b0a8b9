-- Patterns that lines can speak of: L and the named case variables are the only variables in them.
use Rattle.std.specs.Prelude.{◌≡◌, false, List, [], ◌∷◌, ℕ, ◌<◌, length, get_or}
use Rattle.std.proofs.Math.Option.{some}
use Rattle.std.proofs.Common.{arith}
use Rattle.definition.specs.Pack.{Node, no_node}
use Rattle.definition.specs.Verdict.{Bound, value_of}
use Rattle.definition.specs.Store.{is_variable}
use Rattle.theory.specs.Patterns.Interned.{Grows, grows_long, grows_at}

-- L's pattern, the names and the store; of a pattern, of patterns
mutual
  pub data Spoken (L : ℕ) (names : List Bound) (s : List Node) : ℕ → Type 0 where
    is_L : (p : ℕ) → p ≡ L → Spoken L names s p
    named : (p k : ℕ) → value_of p names ≡ some k → Spoken L names s p
    over : (p : ℕ) → p < length s → is_variable (get_or s p no_node) ≡ false → (args : List ℕ) → (get_or s p no_node).args ≡ args → SpokenAll L names s args → Spoken L names s p

  pub data SpokenAll (L : ℕ) (names : List Bound) (s : List Node) : List ℕ → Type 0 where
    none : SpokenAll L names s []
    more : (p : ℕ) (ps : List ℕ) → Spoken L names s p → SpokenAll L names s ps → SpokenAll L names s (p ∷ ps)

-- what has a name keeps one
abbrev pub Named : List Bound → List Bound → Type 0
Named names names' = (p k : ℕ) → value_of p names ≡ some k → (k' : ℕ) × (value_of p names' ≡ some k')

-- as the store and the names grow, what can be spoken of stays so
mutual
  pub spoken_grows : (L : ℕ) (names names' : List Bound) (s t : List Node) → Named names names' → Grows s t → (p : ℕ) → Spoken L names s p → Spoken L names' t p
  spoken_grows L names names' s t N G _ (is_L p e) = is_L p e
  spoken_grows L names names' s t N G _ (named p k e) = let n = N p k e in named p n.0 n.1
  spoken_grows L names names' s t N G _ (over p l v args a S) =
      let g = grows_long s t G in
      let e = grows_at s t no_node p G l in
      over p (omega arith) (rw e v) args (rw e a) (spokens_grow L names names' s t N G args S)

  pub spokens_grow : (L : ℕ) (names names' : List Bound) (s t : List Node) → Named names names' → Grows s t → (ps : List ℕ) → SpokenAll L names s ps → SpokenAll L names' t ps
  spokens_grow L names names' s t N G _ none = none
  spokens_grow L names names' s t N G _ (more p ps S Ss) = more p ps (spoken_grows L names names' s t N G p S) (spokens_grow L names names' s t N G ps Ss)
