-- A node's arguments put on the stack one by one, the last one first: what stands on it after each.
use Rattle.std.specs.Prelude.{◌≡◌, refl, List, ◌∷◌, ◌++◌, ℕ, suc, ◌+◌, ◌-◌, ◌≤◌, ◌<◌, length, get_or, set, drop}
use Rattle.std.proofs.Common.{sym, ap, subst, ◌∙◌, arith, drop_of_length-le, drop-cons}
use Rattle.base.specs.Stack.{stacked}
use Rattle.base.specs.Outside.{Outside, outside_none, outside_then, outside_set}
use Rattle.base.specs.declared.stack.Stack.{Stack}

-- what stands on a stack
abbrev pub waiting : List ℕ → Stack → List ℕ
waiting work s = stacked s.at s.len work

-- the arguments that a key has behind its head stand on the stack, the first on top
pub record ArgumentsOn (work work' key : List ℕ) (s s' : Stack) : Type 0 where
  pub base : s'.at ≡ s.at
  pub words : waiting work' s' ≡ drop 1 key ++ waiting work s
  pub outside : Outside (s.at + s.len) (s.at + s.len + (length key - 1)) work work'

-- those behind the i-th do
pub record ArgumentsFrom (work work' key : List ℕ) (s s' : Stack) (i : ℕ) : Type 0 where
  pub base : s'.at ≡ s.at
  pub left : i < length key
  pub many : s'.len + i ≡ s.len + (length key - 1)
  pub words : waiting work' s' ≡ drop (suc i) key ++ waiting work s
  pub outside : Outside (s.at + s.len) (s.at + s.len + (length key - 1)) work work'

module _ (work key : List ℕ) (s : Stack) where
  -- none yet
  pub arguments_none : 0 < length key → ArgumentsFrom work work key s s (length key - 1)
  arguments_none l = record {
    base = refl;
    left = omega arith;
    many = refl;
    words = ap (λ (xs : List ℕ). xs ++ waiting work s) (sym (drop_of_length-le key {i = suc (length key - 1)} (omega arith)));
    outside = outside_none (s.at + s.len) (s.at + s.len + (length key - 1)) work;
  }

  module _ (work' : List ℕ) (s' : Stack) (i : ℕ) (A : ArgumentsFrom work work' key s s' i) where
    -- there is room for one more
    pub arguments_room : s.at + s.len + length key ≤ length work + 1 → 0 < i → s'.at + s'.len < length work'
    arguments_room l p = omega (arith, A.base, A.many, A.left, A.outside.long)

    -- one more
    pub arguments_more : 0 < i → (work'' : List ℕ) (s'' : Stack) → (s''.at ≡ s'.at) × (s''.len ≡ s'.len + 1) × (stacked s''.at s''.len work'' ≡ get_or key i 0 ∷ stacked s'.at s'.len work')
        → work'' ≡ set work' (s'.at + s'.len) (get_or key i 0) → ArgumentsFrom work work'' key s s'' (i - 1)
    arguments_more p work'' s'' u w =
        let a : ℕ = s.at + s.len in
        let e : ℕ = s.at + s.len + (length key - 1) in
        let back : suc (i - 1) ≡ i = omega arith in
        record {
          base = u.0 ∙ A.base;
          left = omega (arith, A.left);
          many = omega (arith, A.many, u.1);
          words =
              u.2
              ∙ ap (λ (xs : List ℕ). get_or key i 0 ∷ xs) A.words
              ∙ ap (λ (xs : List ℕ). xs ++ waiting work s) (sym (drop-cons key i 0 A.left) ∙ ap (λ (k : ℕ). drop k key) (sym back));
          outside =
              outside_then a e work work' work'' A.outside
              (subst (λ (xs : List ℕ). Outside a e work' xs) (sym w) (outside_set a e work' (s'.at + s'.len) (get_or key i 0) (omega (arith, A.base, A.many, A.left)) (omega (arith, A.base, A.many, A.left))));
        }

    -- all of them
    pub arguments_all : i ≤ 0 → ArgumentsOn work work' key s s'
    arguments_all z =
        let e : suc i ≡ 1 = omega arith in
        record { base = A.base; words = A.words ∙ ap (λ (k : ℕ). drop k key ++ waiting work s) e; outside = A.outside }
