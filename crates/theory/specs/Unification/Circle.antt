-- A graph with a solution has no circle: along arguments trees get smaller, so a term ends within as many levels as there are nodes.
use Rattle.std.specs.Prelude.{◌≡◌, refl, Bool, true, false, List, [], ◌∷◌, ◌++◌, ℕ, zero, suc, ◌+◌, ◌<◌, ◌≤◌, eqb, ltb, length}
use Rattle.std.proofs.Common.{sym, ap, ◌∙◌, arith, lt-ltb, le-ltb, ltb-true, eqb-true, eq-eqb, length-append}
use Rattle.std.proofs.lemmas.Bool.{not-false}
use Rattle.definition.specs.Test.{is, see, never, tests, all, any, ◌and◌, and_parts}
use Rattle.definition.specs.Pack.{Pack}
use Rattle.definition.specs.Tree.{Tree, Trees, tree, no_trees, tree_then}
use Rattle.definition.specs.Good.{Below}
use Rattle.definition.specs.Graph.{Graph, vertex, root, is_var, ends, up_to, circular}
use Rattle.definition.specs.Classes.{count_of}
use Rattle.theory.specs.Unification.Solve.{trees_at, Solves, Formed}
use Rattle.theory.specs.Keys.Needed.{Among, among_left, among_right, among_here, among_side, on_left, on_right, among_one}
use Rattle.theory.specs.Unification.Acyclic.{solves_root, Ending}

-- the number of symbols in a tree
unfoldable mutual
  pub size : Tree → ℕ
  size (tree h ts) = suc (sizes ts)

  pub sizes : Trees → ℕ
  sizes no_trees = 0
  sizes (tree_then t ts) = size t + sizes ts

-- where f passes g does: no more pass f than g
count-le : (f g : ℕ → Bool) (xs : List ℕ) → ((x : ℕ) → f x ≡ true → g x ≡ true) → count_of f xs ≤ count_of g xs
unfolding count_of
count-le f g [] h = omega arith
count-le f g (x ∷ xs) h = elim (see (f x)) [
  | is true p ↦ rw (p, h x p, count_of) (let i = count-le f g xs h in omega arith)
  | is false p ↦ elim (see (g x)) [
    | is true q ↦ rw (p, q, count_of) (let i = count-le f g xs h in omega arith)
    | is false q ↦ rw (p, q, count_of) (count-le f g xs h)
  ]
]

-- and fewer, if some element passes g alone
count_lt : (f g : ℕ → Bool) (xs : List ℕ) (y : ℕ) → ((x : ℕ) → f x ≡ true → g x ≡ true) → Among y xs → f y ≡ false → g y ≡ true → count_of f xs < count_of g xs
unfolding count_of any
count_lt f g [] y h a p q = never (let z : false ≡ true = a in cc)
count_lt f g (x ∷ xs) y h a p q = elim (see (eqb y x)) [
  | is true e ↦
      let k = eqb-true y x e in
      let p2 : f x ≡ false = ap f (sym k) ∙ p in
      let q2 : g x ≡ true = ap g (sym k) ∙ q in
      rw (p2, q2, count_of) (let i = count-le f g xs h in omega arith)
  | is false e ↦
      let b : Among y xs = rest e in
      let i = count_lt f g xs y h b p q in
      elim (see (f x)) [
        | is true r ↦ rw (r, h x r, count_of) (omega arith)
        | is false r ↦ elim (see (g x)) [
          | is true t ↦ rw (r, t, count_of) (omega arith)
          | is false t ↦ rw (r, t, count_of) i
        ]
      ]
] where
  rest : eqb y x ≡ false → Among y xs
  rest e = elim (among_side y (x ∷ []) xs a) [ on_left l ↦ never (let z : true ≡ false = sym (eq-eqb y x (among_one y x l)) ∙ e in cc) | on_right r ↦ r ]

-- no more than there are
pub count_most : {A : Type 0} (f : A → Bool) (xs : List A) → count_of f xs ≤ length xs
unfolding count_of
count_most f [] = omega arith
count_most f (x ∷ xs) = elim (see (f x)) [
  | is true p ↦ rw (p, count_of) (let i = count_most f xs in omega arith)
  | is false p ↦ rw (p, count_of) (let i = count_most f xs in omega arith)
]

pub length_up_to : (n : ℕ) → length (up_to n) ≡ n
unfolding up_to
length_up_to zero = refl
length_up_to (suc n) = let i = length_up_to n in let l = length-append (up_to n) (n ∷ []) in omega arith

pub count-below : (f : ℕ → Bool) (n : ℕ) → count_of f (up_to n) ≤ n
count-below f n = let c = count_most f (up_to n) in let l = length_up_to n in omega arith

pub up_to_all : (n x : ℕ) → x < n → Among x (up_to n)
unfolding up_to
up_to_all zero x h = absurd (omega arith)
up_to_all (suc n) x h = elim (see (eqb x n)) [
  | is true p ↦ among_right x (up_to n) (n ∷ []) (let e = eqb-true x n p in rw e (among_here n []))
  | is false p ↦ among_left x (up_to n) (n ∷ []) (up_to_all n x (omega tests))
]

-- what each element passes, one of them does
each : (f : ℕ → Bool) (xs : List ℕ) (x : ℕ) → all f xs ≡ true → Among x xs → f x ≡ true
unfolding all any
each f [] x e a = never (let z : false ≡ true = a in cc)
each f (y ∷ xs) x e a =
    let p = and_parts (f y) (all f xs) e in
    elim (among_side x (y ∷ []) xs a) [ on_left l ↦ ap f (among_one x y l) ∙ p.0 | on_right r ↦ each f xs x p.1 r ]

-- how many nodes have smaller trees
unfoldable pub rank : (ℕ → Tree) → Graph → ℕ → ℕ
unfolding count_of up_to size
rank θ g x = count_of (λ z. ltb (size (θ z)) (size (θ x))) (up_to (length g))

-- a node with a smaller tree has a lower rank
rank_falls : (θ : ℕ → Tree) (g : Graph) (y x : ℕ) → y < length g → size (θ y) < size (θ x) → rank θ g y < rank θ g x
unfolding rank
rank_falls θ g y x h l =
    count_lt (λ z. ltb (size (θ z)) (size (θ y))) (λ z. ltb (size (θ z)) (size (θ x))) (up_to (length g)) y
    (λ z p. let q = ltb-true (size (θ z)) (size (θ y)) p in lt-ltb (size (θ z)) (size (θ x)) (omega arith)) (up_to_all (length g) y h) (le-ltb (size (θ y)) (size (θ y)) (omega arith)) (lt-ltb (size (θ y)) (size (θ x)) l)

-- arguments' trees are smaller
arg_smaller : (θ : ℕ → Tree) (n : ℕ) (t : Tree) (xs : List ℕ) → Below n xs → sizes (trees_at θ xs) < size t
    → (f : ℕ → Bool) → ((y : ℕ) → y < n → size (θ y) < size t → f y ≡ true) → all f xs ≡ true
unfolding trees_at size all ◌and◌
arg_smaller θ n t [] b l f h = refl
arg_smaller θ n t (x ∷ xs) b l f h = rw (h x b.0 (omega arith), ◌and◌) (arg_smaller θ n t xs b.1 (omega arith) f h)

-- with a solution each term ends
pub solved-ends : (θ : ℕ → Tree) (P : Pack) (g : Graph) → Formed P g → Solves θ g → (k x : ℕ) → x < length g → rank θ g x < k → ends k g x ≡ true
unfolding ends size
solved-ends θ P g F S zero x h l = absurd (omega arith)
solved-ends θ P g F S (suc k) x h l =
    let r = root g x in
    let f = F x h in
    let e = solves_root θ P g F S x h in
    elim (see (is_var (vertex g r))) [
      | is true v ↦ rw (v, ends)
      | is false v ↦
          let a = e ∙ S.apps r f.within f.rooted v in
          let s : size (θ x) ≡ suc (sizes (trees_at θ (vertex g r).args)) = ap size a in
          rw (v, ends) (arg_smaller θ (length g) (θ x) (vertex g r).args (F r f.within).below (omega arith) (λ y. ends k g y)
          (λ y b c. solved-ends θ P g F S k y b (let d = rank_falls θ g y x b c in omega arith)))
    ]

all_join : (f : ℕ → Bool) (xs ys : List ℕ) → all f xs ≡ true → all f ys ≡ true → all f (xs ++ ys) ≡ true
unfolding all ◌and◌
all_join f [] ys h k = k
all_join f (x ∷ xs) ys h k = let p = and_parts (f x) (all f xs) h in rw (p.0, ◌and◌) (all_join f xs ys p.1 k)

all_one : (f : ℕ → Bool) (x : ℕ) → f x ≡ true → all f (x ∷ []) ≡ true
unfolding all ◌and◌
all_one f x h = rw (h, ◌and◌)

-- each of the first n passes
pub all_up_to : (f : ℕ → Bool) (n : ℕ) → ((x : ℕ) → x < n → f x ≡ true) → all f (up_to n) ≡ true
unfolding up_to all
all_up_to f zero h = refl
all_up_to f (suc n) h = all_join f (up_to n) (n ∷ []) (all_up_to f n (λ x l. h x (omega arith))) (all_one f n (h n (omega arith)))

pub up_to_each : (f : ℕ → Bool) (n : ℕ) → all f (up_to n) ≡ true → (x : ℕ) → x < n → f x ≡ true
up_to_each f n e x h = each f (up_to n) x e (up_to_all n x h)

-- "a circle has none": what has a solution is not circular
pub solved_acyclic : (θ : ℕ → Tree) (P : Pack) (g : Graph) → Formed P g → Solves θ g → circular g ≡ false
unfolding circular rank
solved_acyclic θ P g F S =
    let n = length g in
    let most : (x : ℕ) → rank θ g x ≤ n = λ x. count-below (λ z. ltb (size (θ z)) (size (θ x))) n in
    rw (all_up_to (λ x. ends (suc n) g x) n (λ x h. solved-ends θ P g F S (suc n) x h (let m = most x in omega arith)))

-- what is not circular ends everywhere
pub acyclic_ends : (g : Graph) → circular g ≡ false → Ending (suc (length g)) g
unfolding circular
acyclic_ends g e x h = up_to_each (λ x. ends (suc (length g)) g x) (length g) (not-false _ e) x h
