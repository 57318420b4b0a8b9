-- The verdict: what is computed is what is stated, in both directions.
use Rattle.std.specs.Prelude.{◌≡◌, refl, true, false, List, [], ◌∷◌, ℕ, ◌<◌, eqb, length}
use Rattle.std.proofs.Common.{sym, ap, ap₂, ◌∙◌, subst, arith, eqb-true, eq-eqb, ne_eqb}
use Rattle.std.proofs.Math.Option.{Option, none, some}
use Rattle.definition.specs.Test.{is, see, never}
use Rattle.definition.specs.Pack.{Term, Terms, var, app, nil, cons, Pack, node_of}
use Rattle.definition.specs.Tree.{Tree, Trees, tree, tree_then, pick, trees, tree_of, turn, turns}
use Rattle.definition.proofs.Laws.Tree.{args-below, tree_node, tree_once}
use Rattle.definition.proofs.Laws.Grow.{below_more}
use Rattle.definition.specs.Good.{Below, Good, Once}
use Rattle.definition.specs.Verdict.{Bound, value_of, bound, provided, onwards, matches, match_all}

-- an assignment that gives each variable the tree of its value
abbrev pub Agrees : Pack → (ℕ → Tree) → List Bound → Type 0
Agrees P ν bs = (k m : ℕ) → value_of k bs ≡ some m → ν k ≡ tree_of P m

-- values that stay
abbrev pub Extends : List Bound → List Bound → Type 0
Extends bs cs = (k m : ℕ) → value_of k bs ≡ some m → value_of k cs ≡ some m

-- values that are nodes
abbrev pub Given : Pack → List Bound → Type 0
Given P bs = (k m : ℕ) → value_of k bs ≡ some m → m < length P.nodes

abbrev pair : ℕ → ℕ → Bound
pair k n = record { variable = k; value = n }

value_same : (k n : ℕ) (bs : List Bound) → value_of k (pair k n ∷ bs) ≡ some n
unfolding value_of
value_same k n bs = rw (eq-eqb k k refl, value_of)

value-other : (k j n : ℕ) (bs : List Bound) → (k ≡ j → ⊥) → value_of j (pair k n ∷ bs) ≡ value_of j bs
unfolding value_of
value-other k j n bs h = rw (ne_eqb k j h, value_of)

some_eq : {a b : ℕ} → some a ≡ some b → a ≡ b
some_eq e = cc

some_list : {a b : List Bound} → some a ≡ some b → a ≡ b
some_list e = cc

-- what a variable's match leaves: its value is the node, and the others stay
record Bound-to (k n : ℕ) (bs cs : List Bound) : Type 0 where
  here : value_of k cs ≡ some n
  others : (j : ℕ) → (k ≡ j → ⊥) → value_of j cs ≡ value_of j bs
  stays : Extends bs cs

bound-to : (k n : ℕ) (bs cs : List Bound) → bound k n bs (value_of k bs) ≡ some cs → Bound-to k n bs cs
unfolding bound
bound-to k n bs cs e = elim (see (value_of k bs)) [
  | is none p ↦
      let q : pair k n ∷ bs ≡ cs = some_list (rw (p, bound) at e) in
      let kept : (j m : ℕ) → value_of j bs ≡ some m → value_of j (pair k n ∷ bs) ≡ some m =
      λ j m v. value-other k j n bs (λ (r : k ≡ j). never (let z : none ≡ some m = sym p ∙ ap (λ (i : ℕ). value_of i bs) r ∙ v in cc)) ∙ v in
      let b : Bound-to k n bs (pair k n ∷ bs) = record { here = value_same k n bs; others = λ j h. value-other k j n bs h; stays = kept } in
      rw q at b
  | is (some m) p ↦ elim (see (eqb m n)) [
    | is true t ↦
        let q : bs ≡ cs = some_list (rw (p, t, bound) at e) in
        let r : value_of k bs ≡ some n = p ∙ ap some (eqb-true m n t) in
        subst (λ (xs : List Bound). Bound-to k n bs xs) q (record { here = r; others = λ j h. refl; stays = λ j i v. v })
    | is false t ↦ never (let z : none ≡ some cs = rw (p, t, bound) at e in cc)
  ]
]

-- a match says that the assignment turns the term into the node's tree
mutual
  unfolding matches turn pick tree_of

  pub sound : (P : Pack) → Good P → (ν : ℕ → Tree) (t : Term) (n : ℕ) (bs cs : List Bound) → n < length P.nodes → matches P t n bs ≡ some cs
      → Extends bs cs × (Agrees P ν cs → turn ν t ≡ tree_of P n)
  sound P G ν (var k) n bs cs h e = let b = bound-to k n bs cs e in (b.stays, λ a. a k n b.here)
  sound P G ν (app f ts) n bs cs h e = elim (see (eqb (node_of P n).head f)) [
    | is true t ↦
        let b = below_more n (length P.nodes) (node_of P n).args (omega arith) (args-below P G n h) in
        let r = sound_all P G ν ts (node_of P n).args bs cs b (rw (t, provided) at e) in
        let p : (node_of P n).head ≡ f = eqb-true _ _ t in
        (r.0, λ a. ap₂ tree (sym p) (r.1 a) ∙ sym (tree_node P G n h))
    | is false t ↦ never (let z : none ≡ some cs = rw (t, provided) at e in cc)
  ]

  pub sound_all : (P : Pack) → Good P → (ν : ℕ → Tree) (ts : Terms) (ns : List ℕ) (bs cs : List Bound) → Below (length P.nodes) ns → match_all P ts ns bs ≡ some cs
      → Extends bs cs × (Agrees P ν cs → turns ν ts ≡ pick (trees P) ns)
  sound_all P G ν nil [] bs cs h e = let q : bs ≡ cs = some_list e in (subst (Extends bs) q (λ k m v. v), λ a. refl)
  sound_all P G ν nil (n ∷ ns) bs cs h e = never (cc)
  sound_all P G ν (cons t ts) [] bs cs h e = never (cc)
  sound_all P G ν (cons t ts) (n ∷ ns) bs cs h e = elim (see (matches P t n bs)) [
    | is none p ↦ never (let z : none ≡ some cs = rw (p, onwards) at e in cc)
    | is (some ds) p ↦
        let r = sound P G ν t n bs ds h.0 p in
        let s = sound_all P G ν ts ns ds cs h.1 (rw (p, onwards) at e) in
        (λ k m v. s.0 k m (r.0 k m v), λ a. ap₂ tree_then (r.1 (λ k m v. a k m (s.0 k m v))) (s.1 a))
  ]

-- the values of a match, and what is known of them
pub record Found (P : Pack) (ν : ℕ → Tree) (r : Option (List Bound)) : Type 0 where
  pub values : List Bound
  pub found : r ≡ some values
  pub agrees : Agrees P ν values
  pub given : Given P values

found_var : (P : Pack) → Good P → Once P → (ν : ℕ → Tree) (k n : ℕ) (bs : List Bound) → n < length P.nodes → Agrees P ν bs → Given P bs
    → ν k ≡ tree_of P n → Found P ν (bound k n bs (value_of k bs))
unfolding bound value_of
found_var P G O ν k n bs h a g e = elim (see (value_of k bs)) [
  | is none p ↦
      let agrees : Agrees P ν (pair k n ∷ bs) = λ j m v. elim (see (eqb k j)) [
        | is true t ↦ let q : n ≡ m = some_eq (rw (t, value_of) at v) in let r : k ≡ j = eqb-true k j t in ap ν (sym r) ∙ e ∙ ap (tree_of P) q
        | is false t ↦ a j m (rw (t, value_of) at v)
      ] in
      let given : Given P (pair k n ∷ bs) = λ j m v. elim (see (eqb k j)) [
        | is true t ↦ let q : n ≡ m = some_eq (rw (t, value_of) at v) in omega arith
        | is false t ↦ g j m (rw (t, value_of) at v)
      ] in
      record { values = pair k n ∷ bs; found = rw (p, bound); agrees = agrees; given = given }
  | is (some m) p ↦
      let q : m ≡ n = tree_once P G O m n (g k m p) h (sym (a k m p) ∙ e) in
      record { values = bs; found = rw (p, eq-eqb m n q, bound); agrees = a; given = g }
]

-- the parts of equal trees
pub tree_parts : {h k : ℕ} {ts us : Trees} → tree h ts ≡ tree k us → (h ≡ k) × (ts ≡ us)
tree_parts e = (cc, cc)

pub then_parts : {t u : Tree} {ts us : Trees} → tree_then t ts ≡ tree_then u us → (t ≡ u) × (ts ≡ us)
then_parts e = (cc, cc)

-- an assignment that turns the term into the node's tree is found
mutual
  unfolding matches turn pick tree_of

  pub complete : (P : Pack) → Good P → Once P → (ν : ℕ → Tree) (t : Term) (n : ℕ) (bs : List Bound) → n < length P.nodes → Agrees P ν bs → Given P bs
      → turn ν t ≡ tree_of P n → Found P ν (matches P t n bs)
  complete P G O ν (var k) n bs h a g e = found_var P G O ν k n bs h a g e
  complete P G O ν (app f ts) n bs h a g e =
      let q = tree_parts (e ∙ tree_node P G n h) in
      let b = below_more n (length P.nodes) (node_of P n).args (omega arith) (args-below P G n h) in
      rw (eq-eqb (node_of P n).head f (sym q.0), provided) (complete_all P G O ν ts (node_of P n).args bs b a g q.1)

  pub complete_all : (P : Pack) → Good P → Once P → (ν : ℕ → Tree) (ts : Terms) (ns : List ℕ) (bs : List Bound) → Below (length P.nodes) ns → Agrees P ν bs → Given P bs
      → turns ν ts ≡ pick (trees P) ns → Found P ν (match_all P ts ns bs)
  complete_all P G O ν nil [] bs h a g e = record { values = bs; found = refl; agrees = a; given = g }
  complete_all P G O ν nil (n ∷ ns) bs h a g e = never (cc)
  complete_all P G O ν (cons t ts) [] bs h a g e = never (cc)
  complete_all P G O ν (cons t ts) (n ∷ ns) bs h a g e =
      let q = then_parts e in
      let r = complete P G O ν t n bs h.0 a g q.0 in
      rw (r.found, onwards) (complete_all P G O ν ts ns r.values h.1 r.agrees r.given q.1)
