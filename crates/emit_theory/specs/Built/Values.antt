-- A term that matches a ground node of a good pack is well sorted, its variables having the sorts of their values, which are ground nodes.
use Rattle.std.specs.Prelude.{◌≡◌, refl, true, false, List, [], ◌∷◌, ℕ, ◌<◌, eqb, length}
use Rattle.std.proofs.Common.{ap, subst, ◌∙◌, arith, eqb-true}
use Rattle.std.proofs.Math.Option.{none, some}
use Rattle.definition.specs.Test.{is, see, never}
use Rattle.definition.specs.Pack.{Term, Terms, var, app, nil, cons, Pack, symbol_of, node_of, sort_of}
use Rattle.definition.specs.Good.{Arguments, Good}
use Rattle.definition.specs.Verdict.{Bound, value_of, bound, matches, match_all}
use Rattle.definition.proofs.Laws.Agreement.{onwards_some}
use Rattle.definition.proofs.Laws.Matches.{Extends}
use Rattle.definition.specs.Analysis.{pairing}
use Rattle.theory.specs.Copies.Copying.{value_of_new, value_of_old, value_apart}
use Rattle.theory.specs.Making.Values.{Grounded, provided-parts}
use Rattle.emit_theory.specs.Graph.Terms.{TermOf, TermsOf}

-- sorts of variables that are their values'
abbrev pub Fits : Pack → (ℕ → ℕ) → List Bound → Type 0
Fits P sorts bs = (k n : ℕ) → value_of k bs ≡ some n → sorts k ≡ sort_of P n

-- what matching a variable leaves: it has the node for its value, earlier values stay, and the values are ground nodes still
record Binds (P : Pack) (k n : ℕ) (bs cs : List Bound) : Type 0 where
  here : value_of k cs ≡ some n
  stay : Extends bs cs
  grounded : n < length P.nodes → Grounded P bs → Grounded P cs

-- equal values that are there
pub some_eq : {bs cs : List Bound} → some bs ≡ some cs → bs ≡ cs
some_eq e = cc

binds : (P : Pack) (k n : ℕ) (bs cs : List Bound) → bound k n bs (value_of k bs) ≡ some cs → Binds P k n bs cs
unfolding bound
binds P k n bs cs e = elim (see (value_of k bs)) [
  | is none p ↦
      let q : some (pairing k n ∷ bs) ≡ some cs = rw (p, bound) at e in
      subst (Binds P k n bs) (some_eq q) (record { here = value_of_new k n bs; stay = λ j m v. value_of_old k n bs j (value_apart bs j k m v p) ∙ v; grounded = λ l B. (l, B) })
  | is (some m) p ↦ elim (see (eqb m n)) [
    | is true t ↦
        let q : some bs ≡ some cs = rw (p, t, bound) at e in
        subst (Binds P k n bs) (some_eq q) (record { here = p ∙ ap some (eqb-true m n t); stay = λ j i v. v; grounded = λ l B. B })
    | is false t ↦ never (let z : none ≡ some cs = rw (p, t, bound) at e in cc)
  ]
]

-- what a match says: earlier values stay, the values are ground nodes, and the term has the node's sort, each variable having its value's
record Matched (P : Pack) (t : Term) (so : ℕ) (bs cs : List Bound) : Type 0 where
  stay : Extends bs cs
  grounded : Grounded P bs → Grounded P cs
  sorted : (sorts : ℕ → ℕ) → Fits P sorts cs → TermOf P sorts t so

record MatchedAll (P : Pack) (ts : Terms) (ss : List ℕ) (bs cs : List Bound) : Type 0 where
  stay : Extends bs cs
  grounded : Grounded P bs → Grounded P cs
  sorted : (sorts : ℕ → ℕ) → Fits P sorts cs → TermsOf P sorts ts ss

mutual
  unfolding matches sort_of

  match_says : (P : Pack) → Good P → (t : Term) (n : ℕ) (bs cs : List Bound) → n < length P.nodes → matches P t n bs ≡ some cs → Matched P t (sort_of P n) bs cs
  match_says P good (var k) n bs cs l e =
      let B = binds P k n bs cs e in
      record { stay = B.stay; grounded = B.grounded l; sorted = λ sorts x. x k n B.here }
  match_says P good (app h ts) n bs cs l e =
      let p = provided-parts (eqb (node_of P n).head h) (match_all P ts (node_of P n).args bs) cs e in
      let q : (node_of P n).head ≡ h = eqb-true (node_of P n).head h p.0 in
      let N = good.nodes n l in
      let A = match_all_says P good ts n (symbol_of P (node_of P n).head).inputs (node_of P n).args bs cs l N.args p.1 in
      record { stay = A.stay; grounded = A.grounded; sorted = λ sorts x. rw (← q) (N.head, refl, A.sorted sorts x) }

  match_all_says : (P : Pack) → Good P → (ts : Terms) (i : ℕ) (ss ns : List ℕ) (bs cs : List Bound) → i < length P.nodes → Arguments P i ss ns → match_all P ts ns bs ≡ some cs → MatchedAll P ts ss bs cs
  match_all_says P good nil i [] [] bs cs l a e = subst (MatchedAll P nil [] bs) (some_eq e) (record { stay = λ k m v. v; grounded = λ B. B; sorted = λ sorts x. tt })
  match_all_says P good nil i (so ∷ ss) [] bs cs l a e = absurd a
  match_all_says P good nil i ss (n ∷ ns) bs cs l a e = never (cc)
  match_all_says P good (cons t ts) i ss [] bs cs l a e = never (cc)
  match_all_says P good (cons t ts) i [] (n ∷ ns) bs cs l a e = absurd a
  match_all_says P good (cons t ts) i (so ∷ ss) (n ∷ ns) bs cs l a e =
      let o = onwards_some (matches P t n bs) (λ ds. match_all P ts ns ds) cs e in
      let F = match_says P good t n bs o.0 (omega (arith, a.0)) o.1 in
      let R = match_all_says P good ts i ss ns o.0 cs l a.2 o.2 in
      record {
        stay = λ k m v. R.stay k m (F.stay k m v);
        grounded = λ B. R.grounded (F.grounded B);
        sorted = λ sorts x. (subst (TermOf P sorts t) a.1 (F.sorted sorts (λ k m v. x k m (R.stay k m v))), R.sorted sorts x);
      }

-- a term that matches a ground node has its sort, each variable having its value's
pub matched_term : (P : Pack) → Good P → (t : Term) (n : ℕ) (bs : List Bound) → n < length P.nodes → matches P t n [] ≡ some bs → (sorts : ℕ → ℕ) → Fits P sorts bs → TermOf P sorts t (sort_of P n)
matched_term P good t n bs l e sorts x = (match_says P good t n [] bs l e).sorted sorts x

-- each value is a ground node
pub matched-values : (P : Pack) → Good P → (t : Term) (n : ℕ) (bs : List Bound) → n < length P.nodes → matches P t n [] ≡ some bs → Grounded P bs
matched-values P good t n bs l e = (match_says P good t n [] bs l e).grounded tt
