-- The numbered variables get a colour one by one.
use Rattle.std.specs.Prelude.{◌≡◌, refl, true, false, ℕ, ◌+◌, ◌≤◌, ◌<◌, eqb, length, set}
use Rattle.std.proofs.Math.Path.{sym, ap}
use Rattle.std.proofs.Common.{◌∙◌, subst, arith, eq-eqb, ne_eqb}
use mathlib.Core.List.{List, [], ◌∷◌, ◌++◌}
use Rattle.std.proofs.Math.Decide.{ℕ_discrete}
use Rattle.std.proofs.Math.ListN.{get_or, length-set}
use Rattle.std.proofs.Math.Seq.{get_or-set_same, get_or-set_other}
use Rattle.definition.specs.Test.{is, see, any}
use Rattle.definition.specs.Classes.{mark}
use Rattle.base.specs.Part.{part, part-more}
use Rattle.graph.specs.Places as places
use Rattle.term_readback.specs.Words.{values_at, numbers_at, table_end, table_in}
use Rattle.term_readback.specs.Moved.{table_at}
use Rattle.term_readback.specs.declared.table.Table.{Table}

-- where the colours start
abbrev pub colours_at : List ℕ → ℕ
colours_at cells = places.colours_at (length cells)

-- the first n numbered variables
abbrev pub numbers_in : List ℕ → List ℕ → Table → ℕ → List ℕ
numbers_in work cells t n = part (t.at + numbers_at cells) n work

-- a node's colour
abbrev pub colour_in : List ℕ → List ℕ → Table → ℕ → ℕ
colour_in work cells t x = get_or work (t.at + (colours_at cells + x)) 0

-- what is asked: so many numbers that have a word for a colour
pub record MarkAsked (work cells : List ℕ) (t : Table) (n : ℕ) : Type 0 where
  pub room : t.at + table_end cells ≤ t.end
  pub fits : t.end ≤ length work
  pub few : n ≤ length cells
  pub inside : (i : ℕ) → i < n → get_or work (t.at + numbers_at cells + i) 0 < length cells

-- what is answered: one that had no colour has the colour 1 just where it is among them
pub record Marks (work work' cells : List ℕ) (t : Table) (n : ℕ) : Type 0 where
  pub long : length work' ≡ length work
  pub ahead : (i : ℕ) → i < t.at + colours_at cells → get_or work' i 0 ≡ get_or work i 0
  pub behind : (i : ℕ) → t.at + values_at cells ≤ i → get_or work' i 0 ≡ get_or work i 0
  pub colours : (x : ℕ) → x < length cells → colour_in work cells t x ≡ 0 → colour_in work' cells t x ≡ mark (any (eqb x) (numbers_in work cells t n))

-- one more at the end
pub any_in : (x y : ℕ) (xs : List ℕ) → x ≡ y → any (eqb x) (xs ++ (y ∷ [])) ≡ true
unfolding any
any_in x y [] e = rw (eq-eqb x y e)
any_in x y (z ∷ xs) e = elim (see (eqb x z)) [
  | is true p ↦ rw p
  | is false p ↦ rw p (any_in x y xs e)
]

-- another one
pub any_out : (x y : ℕ) (xs : List ℕ) → (x ≡ y → ⊥) → any (eqb x) (xs ++ (y ∷ [])) ≡ any (eqb x) xs
unfolding any
any_out x y [] d = rw (ne_eqb x y d)
any_out x y (z ∷ xs) d = elim (see (eqb x z)) [
  | is true p ↦ rw p
  | is false p ↦ rw p (any_out x y xs d)
]

-- none has one yet
pub marks-none : (work cells : List ℕ) (t : Table) → Marks work work cells t 0
unfolding part any mark
marks-none work cells t = record { long = refl; ahead = λ i h. refl; behind = λ i h. refl; colours = λ x h z. z }

module _ (work₀ work cells : List ℕ) (t : Table) (n i : ℕ) (K : MarkAsked work₀ cells t n) (M : Marks work₀ work cells t i) (more : i < n) where
  -- the next number stands there
  pub marks_there : (t.at + (numbers_at cells + i) < t.end) × (t.end ≤ length work)
  marks_there = (omega (arith, K.room, K.few), omega (arith, K.fits, M.long))

  module _ (y : ℕ) (e : y ≡ get_or (table_in t work) (numbers_at cells + i) 0) where
    pub next_is : y ≡ get_or work₀ (t.at + numbers_at cells + i) 0
    next_is =
        let q : t.at + (numbers_at cells + i) ≡ t.at + numbers_at cells + i = omega arith in
        e ∙ table_at t work (numbers_at cells + i) (omega (arith, K.room, K.few)) ∙ ap (λ (j : ℕ). get_or work j 0) q ∙ M.behind (t.at + numbers_at cells + i) (omega arith)

    -- it has a word for a colour
    pub next_inside : y < length cells
    next_inside = omega (arith, next_is, K.inside i more)

    -- which stands in the table
    pub next_there : (t.at + (colours_at cells + y) < t.end) × (t.end ≤ length work)
    next_there = (omega (arith, next_inside, K.room), omega (arith, K.fits, M.long))

    -- it gets its colour
    pub marks_on : Marks work₀ (set work (t.at + (colours_at cells + y)) 1) cells t (i + 1)
    unfolding mark
    marks_on = record {
      long = length-set work (t.at + (colours_at cells + y)) 1 ∙ M.long;
      ahead = λ j h. get_or-set_other work (t.at + (colours_at cells + y)) j 1 0 (λ q. omega (arith, q)) ∙ M.ahead j h;
      behind = λ j h. get_or-set_other work (t.at + (colours_at cells + y)) j 1 0 (λ q. omega (arith, q, next_inside)) ∙ M.behind j h;
      colours = λ x h u.
          let list : numbers_in work₀ cells t (i + 1) ≡ numbers_in work₀ cells t i ++ (y ∷ []) = part-more (t.at + numbers_at cells) i work₀ (omega (arith, K.room, K.few, K.fits)) ∙ ap (λ (z : ℕ). numbers_in work₀ cells t i ++ (z ∷ [])) (sym next_is) in
          let whole : mark (any (eqb x) (numbers_in work₀ cells t (i + 1))) ≡ mark (any (eqb x) (numbers_in work₀ cells t i ++ (y ∷ []))) = ap (λ (xs : List ℕ). mark (any (eqb x) xs)) list in
          elim (ℕ_discrete x y) [
            | yes q ↦
                ap (λ (z : ℕ). get_or (set work (t.at + (colours_at cells + y)) 1) (t.at + (colours_at cells + z)) 0) q
                ∙ get_or-set_same work (t.at + (colours_at cells + y)) 1 0 (omega (arith, next_there.0, next_there.1))
                ∙ sym (whole ∙ ap mark (any_in x y (numbers_in work₀ cells t i) q))
            | no d ↦
                get_or-set_other work (t.at + (colours_at cells + y)) (t.at + (colours_at cells + x)) 1 0 (λ q. d (omega (arith, q)))
                ∙ M.colours x h u
                ∙ sym (whole ∙ ap mark (any_out x y (numbers_in work₀ cells t i) d))
          ];
    }

-- all have theirs
pub marks-all : (work₀ work cells : List ℕ) (t : Table) (n i : ℕ) → i ≡ n → Marks work₀ work cells t i → Marks work₀ work cells t n
marks-all work₀ work cells t n i e M = subst (λ (j : ℕ). Marks work₀ work cells t j) e M
