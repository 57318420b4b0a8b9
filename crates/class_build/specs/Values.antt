-- The values of a match are nodes of the pack.
use Rattle.std.specs.Prelude.{◌≡◌, true, false, List, [], ◌∷◌, ℕ, ◌<◌, eqb, length}
use Rattle.std.proofs.Common.{subst, arith}
use Rattle.std.proofs.Math.Option.{none, some}
use Rattle.definition.specs.Test.{is, see, never}
use Rattle.definition.specs.Pack.{Term, Terms, var, app, nil, cons, Pack, node_of}
use Rattle.definition.specs.Good.{Below, Good}
use Rattle.definition.specs.Verdict.{Bound, value_of, bound, provided, onwards, matches, match_all}
use Rattle.definition.proofs.Laws.Tree.{args-below}
use Rattle.definition.proofs.Laws.Grow.{below_more}
use Rattle.definition.proofs.Laws.Matches.{Given}

abbrev pair : ℕ → ℕ → Bound
pair k n = record { variable = k; value = n }

some_node : {a b : ℕ} → some a ≡ some b → a ≡ b
some_node e = cc

some_values : {a b : List Bound} → some a ≡ some b → a ≡ b
some_values e = cc

-- no value
pub given-none : (P : Pack) → Given P []
unfolding value_of
given-none P j m v = never (cc)

-- one value more
given-more : (P : Pack) (k n : ℕ) (bs : List Bound) → n < length P.nodes → Given P bs → Given P (pair k n ∷ bs)
unfolding value_of
given-more P k n bs h g j m v = elim (see (eqb k j)) [
  | is true t ↦ let q : n ≡ m = some_node (rw (t, value_of) at v) in omega arith
  | is false t ↦ g j m (rw (t, value_of) at v)
]

-- a variable's match
given-bound : (P : Pack) (k n : ℕ) (bs cs : List Bound) → n < length P.nodes → Given P bs → bound k n bs (value_of k bs) ≡ some cs → Given P cs
unfolding bound
given-bound P k n bs cs h g e = elim (see (value_of k bs)) [
  | is none p ↦ let q : pair k n ∷ bs ≡ cs = some_values (rw (p, bound) at e) in subst (λ (xs : List Bound). Given P xs) q (given-more P k n bs h g)
  | is (some m) p ↦ elim (see (eqb m n)) [
    | is true t ↦ let q : bs ≡ cs = some_values (rw (p, t, bound) at e) in subst (λ (xs : List Bound). Given P xs) q g
    | is false t ↦ never (let z : none ≡ some cs = rw (p, t, bound) at e in cc)
  ]
]

-- a term's, and those of arguments
mutual
  unfolding matches

  pub given_match : (P : Pack) → Good P → (t : Term) (n : ℕ) (bs cs : List Bound) → n < length P.nodes → Given P bs → matches P t n bs ≡ some cs → Given P cs
  given_match P G (var k) n bs cs h g e = given-bound P k n bs cs h g e
  given_match P G (app f ts) n bs cs h g e = elim (see (eqb (node_of P n).head f)) [
    | is true t ↦ given-all P G ts (node_of P n).args bs cs (below_more n (length P.nodes) (node_of P n).args (omega arith) (args-below P G n h)) g (rw (t, provided) at e)
    | is false t ↦ never (let z : none ≡ some cs = rw (t, provided) at e in cc)
  ]

  pub given-all : (P : Pack) → Good P → (ts : Terms) (ns : List ℕ) (bs cs : List Bound) → Below (length P.nodes) ns → Given P bs → match_all P ts ns bs ≡ some cs → Given P cs
  given-all P G nil [] bs cs h g e = let q : bs ≡ cs = some_values e in subst (λ (xs : List Bound). Given P xs) q g
  given-all P G nil (n ∷ ns) bs cs h g e = never (cc)
  given-all P G (cons t ts) [] bs cs h g e = never (cc)
  given-all P G (cons t ts) (n ∷ ns) bs cs h g e = elim (see (matches P t n bs)) [
    | is none p ↦ never (let z : none ≡ some cs = rw (p, onwards) at e in cc)
    | is (some ds) p ↦ given-all P G ts ns ds cs h.1 (given_match P G t n bs ds h.0 g p) (rw (p, onwards) at e)
  ]
