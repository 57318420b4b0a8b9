-- What the goals leave open: the open variables have one sort, which is no judgment's, and no goal is on a cut predicate.
use Rattle.std.specs.Prelude.{◌≡◌, eqb, length, get_or}
use Rattle.std.proofs.Math.Path.{sym, subst}
use Rattle.std.proofs.Common.{ap, ◌∙◌, arith}
use Rattle.std.proofs.Math.Bool.{true, false}
use mathlib.Core.List.{List, [], ◌∷◌, ◌++◌}
use Rattle.std.proofs.Math.Option.{none, some}
use Prim.Native.Nat.{ℕ, zero, suc, ◌<◌}
use borrow.Author.Tests.{eqb-true}
use Rattle.definition.specs.Test.{is, see, never, any, all, and_parts}
use Rattle.definition.specs.Pack.{prop, Term, Terms, var, app, nil, cons, Pack, symbol_of, node_of, sort_of}
use Rattle.definition.specs.Good.{Below, Arguments, Good, Few}
use Rattle.definition.specs.Verdict.{Bound, value_of, bound, matches, match_all}
use Rattle.definition.proofs.Laws.Agreement.{onwards_some}
use Rattle.definition.specs.Analysis.{pairing}
use Rattle.definition.specs.Keys.{is_a_cut}
use Rattle.definition.specs.Goals.{Root}
use Rattle.definition.specs.Calls.{Classed}
use Rattle.emission.specs.Begin.{is_open, sorts_among, open_sorts, cut_goal}
use Rattle.emission.specs.Emit.{no_root}
use Rattle.theory.specs.Keys.Needed.{Among, among_here, among_there, among_left, among_right}
use Rattle.theory.specs.Making.Values.{provided-parts}
use Rattle.emit_theory.specs.Search.Cases.{Proper}

-- ---- values below a judgment are no judgments
module _ (P : Pack) (good : Good P) (few : Few P) where
  -- no value is a judgment
  abbrev pub ValuesProper : List Bound → Type 0
  ValuesProper [] = Unit {0}
  ValuesProper (b ∷ bs) = (sort_of P b.value ≡ prop → ⊥) × ValuesProper bs

  bound_proper : (k n : ℕ) (bs cs : List Bound) → (sort_of P n ≡ prop → ⊥) → ValuesProper bs → bound k n bs (value_of k bs) ≡ some cs → ValuesProper cs
  unfolding bound
  bound_proper k n bs cs h p e = elim (see (value_of k bs)) [
    | is none q ↦ let z : pairing k n ∷ bs ≡ cs = (let y : some (pairing k n ∷ bs) ≡ some cs = rw (q, bound) at e in cc) in subst ValuesProper z (h, p)
    | is (some m) q ↦ elim (see (eqb m n)) [
      | is true t ↦ let z : bs ≡ cs = (let y : some bs ≡ some cs = rw (q, t, bound) at e in cc) in subst ValuesProper z p
      | is false t ↦ never (let z : none ≡ some cs = rw (q, t, bound) at e in cc)
    ]
  ]

  low_proper : (so : ℕ) → so < length P.sorts → so ≡ prop → ⊥
  low_proper so l e = let f = few.sorts in absurd (omega arith)

  mutual
    unfolding matches

    match_proper : (t : Term) (n : ℕ) (bs cs : List Bound) → n < length P.nodes → (sort_of P n ≡ prop → ⊥) → ValuesProper bs → matches P t n bs ≡ some cs → ValuesProper cs
    match_proper (var k) n bs cs l h p e = bound_proper k n bs cs h p e
    match_proper (app f ts) n bs cs l h p e =
        let q = provided-parts (eqb (node_of P n).head f) (match_all P ts (node_of P n).args bs) cs e in
        let N = good.nodes n l in
        match_all_proper ts n (symbol_of P (node_of P n).head).inputs (node_of P n).args bs cs l (good.symbols (node_of P n).head N.head).inputs N.args p q.1

    match_all_proper : (ts : Terms) (i : ℕ) (ss ns : List ℕ) (bs cs : List Bound) → i < length P.nodes → Below (length P.sorts) ss → Arguments P i ss ns → ValuesProper bs → match_all P ts ns bs ≡ some cs → ValuesProper cs
    match_all_proper nil i [] [] bs cs l b a p e = let z : bs ≡ cs = (let y : some bs ≡ some cs = e in cc) in subst ValuesProper z p
    match_all_proper nil i (so ∷ ss) [] bs cs l b a p e = absurd a
    match_all_proper nil i ss (n ∷ ns) bs cs l b a p e = never (cc)
    match_all_proper (cons t ts) i ss [] bs cs l b a p e = never (cc)
    match_all_proper (cons t ts) i [] (n ∷ ns) bs cs l b a p e = absurd a
    match_all_proper (cons t ts) i (so ∷ ss) (n ∷ ns) bs cs l b a p e =
        let o = onwards_some (matches P t n bs) (λ ds. match_all P ts ns ds) cs e in
        let F = match_proper t n bs o.0 (omega (arith, a.0)) (λ z. low_proper so b.0 (sym a.1 ∙ z)) p o.1 in
        match_all_proper ts i ss ns o.0 cs l b.1 a.2 F o.2

  -- below a head; the node itself may be a judgment
  pub match_below : (f : ℕ) (ts : Terms) (n : ℕ) (bs cs : List Bound) → n < length P.nodes → ValuesProper bs → matches P (app f ts) n bs ≡ some cs → ValuesProper cs
  unfolding matches
  match_below f ts n bs cs l p e =
      let q = provided-parts (eqb (node_of P n).head f) (match_all P ts (node_of P n).args bs) cs e in
      let N = good.nodes n l in
      match_all_proper ts n (symbol_of P (node_of P n).head).inputs (node_of P n).args bs cs l (good.symbols (node_of P n).head N.head).inputs N.args p q.1

-- ---- open variables have one sort
module _ (c : Classed) where
  pub open_among : (r : Root) (bs : List Bound) (k v : ℕ) → value_of k bs ≡ some v → is_open c r k ≡ true → Among (sort_of c.pack v) (sorts_among c r bs)
  unfolding sorts_among value_of
  open_among r [] k v e o = never (cc)
  open_among r (b ∷ bs) k v e o = elim (see (eqb b.variable k)) [
    | is true t ↦
        let i : b.variable ≡ k = eqb-true b.variable k t in
        let w : b.value ≡ v = (let y : some b.value ≡ some v = rw (t, value_of) at e in cc) in
        rw (ap (is_open c r) i ∙ o, sorts_among, w) (among_here (sort_of c.pack v) (sorts_among c r bs))
    | is false t ↦
        let A = open_among r bs k v (rw (t, value_of) at e) o in
        elim (see (is_open c r b.variable)) [
          | is true q ↦ rw (q, sorts_among) (among_there (sort_of c.pack v) (sort_of c.pack b.value) (sorts_among c r bs) A)
          | is false q ↦ rw (q, sorts_among) A
        ]
  ]

  pub root_among : (x : ℕ) (rs : List Root) (i : ℕ) → i < length rs → Among x (sorts_among c (get_or rs i no_root) (get_or rs i no_root).values) → Among x (open_sorts c rs)
  unfolding open_sorts
  root_among x [] i l A = absurd (omega arith)
  root_among x (r ∷ rs) zero l A = among_left x (sorts_among c r r.values) (open_sorts c rs) A
  root_among x (r ∷ rs) (suc i) l A = among_right x (sorts_among c r r.values) (open_sorts c rs) (root_among x rs i (omega arith) A)

  pub all_among : (s x : ℕ) (xs : List ℕ) → all (eqb s) xs ≡ true → Among x xs → s ≡ x
  unfolding all any
  all_among s x [] a A = never (cc)
  all_among s x (y ∷ xs) a A =
      let p = and_parts (eqb s y) (all (eqb s) xs) a in
      elim (see (eqb x y)) [
        | is true t ↦ eqb-true s y p.0 ∙ sym (eqb-true x y t)
        | is false t ↦ all_among s x xs p.1 (rw t at A)
      ]

  pub proper_both : (xs ys : List ℕ) → Proper xs → Proper ys → Proper (xs ++ ys)
  proper_both [] ys p q = q
  proper_both (x ∷ xs) ys p q = (p.0, proper_both xs ys p.1 q)

  pub among_proper : (r : Root) (bs : List Bound) → (P : Pack) (good : Good P) (few : Few P) → c.pack ≡ P → ValuesProper P good few bs → Proper (sorts_among c r bs)
  unfolding sorts_among
  among_proper r [] P good few e p = tt
  among_proper r (b ∷ bs) P good few e p = elim (see (is_open c r b.variable)) [
    | is true q ↦ rw (q, sorts_among) (λ z. p.0 (ap (λ x. sort_of x b.value) (sym e) ∙ z), among_proper r bs P good few e p.1)
    | is false q ↦ rw (q, sorts_among) (among_proper r bs P good few e p.1)
  ]

  pub first_proper : (sorts : List ℕ) → Proper sorts → get_or sorts 0 0 ≡ prop → ⊥
  first_proper [] p e = absurd (omega arith)
  first_proper (so ∷ sorts) p e = p.0 e

  pub no_cut : (rs : List Root) (j : ℕ) → cut_goal c.pack rs j ≡ none → (i : ℕ) → i < length rs → is_a_cut c.pack (node_of c.pack (get_or rs i no_root).goal.judgment).head ≡ false
  unfolding cut_goal
  no_cut [] j e i l = absurd (omega arith)
  no_cut (r ∷ rs) j e zero l = elim (see (is_a_cut c.pack (node_of c.pack r.goal.judgment).head)) [
    | is true t ↦ never (let z : some j ≡ none = rw (t, cut_goal) at e in cc)
    | is false t ↦ t
  ]
  no_cut (r ∷ rs) j e (suc i) l = elim (see (is_a_cut c.pack (node_of c.pack r.goal.judgment).head)) [
    | is true t ↦ never (let z : some j ≡ none = rw (t, cut_goal) at e in cc)
    | is false t ↦ no_cut rs (suc j) (rw (t, cut_goal) at e) i (omega arith)
  ]
