-- The steps of an accepted pack are derivations: each needed step's judgment has one of its class's shape.
use Rattle.std.specs.Prelude.{◌≡◌, refl, true, false, List, [], ◌∷◌, map, ℕ, zero, suc, ◌<◌, length, get_or}
use Rattle.std.proofs.Common.{sym, ap, subst, arith}
use Rattle.std.proofs.Math.Decide.{dec_lt}
use Rattle.std.proofs.Math.ListN.{get_or-eq_default}
use Rattle.definition.specs.Test.{is, see, never, any}
use Rattle.definition.specs.Pack.{prop, Term, Terms, var, app, nil, cons, Step, Result, Pack, no_step, symbol_of, rule_of, node_of, step_of, sort_of}
use Rattle.definition.specs.Tree.{Tree, Trees, tree, no_trees, tree_then, pick, trees, tree_of, turn, turns}
use Rattle.definition.specs.Good.{Below, Sorted, SortedAll, Judgments, Arguments, Good}
use Rattle.definition.proofs.Laws.Grow.{below_more}
use Rattle.definition.proofs.Laws.Tree.{tree_node}
use Rattle.definition.specs.Verdict.{judgments, Accepted}
use Rattle.definition.specs.Keys.{first_of, predicate_of, is_a_cut, needs, needed, keyed}
use Rattle.theory.specs.Derive.{SortedTree, SortedTrees, Judgment, Fits, FitsAll, Derivation, leaf, by, Derivations, none, more, StepOf, Shape, Shapes}
use Rattle.theory.specs.Keys.Needed.{Among, among_here, among_there, among_side, on_left, on_right, among_one, first-earlier, first-judgment, needs-needed}

-- a derivation of a judgment in a class's shape
abbrev pub Concludes : Pack → List ℕ → ℕ → Tree → Type 0
Concludes P words c t = (d : Derivation P t) × Shape P words d c

abbrev pub ConcludesAll : Pack → List ℕ → List ℕ → Trees → Type 0
ConcludesAll P words cs ts = (ds : Derivations P ts) × Shapes P words ds cs

-- the tree of a good node has the node's sort
node_sorted_below : (P : Pack) → Good P → (k n : ℕ) → n < k → n < length P.nodes → SortedTree P (tree_of P n) (sort_of P n)
unfolding sort_of pick tree_of
node_sorted_below P G zero n h l = absurd (omega arith)
node_sorted_below P G (suc k) n h l =
    let g = G.nodes n l in
    subst (λ (t : Tree). SortedTree P t (sort_of P n)) (sym (tree_node P G n l)) (g.head, refl, args (symbol_of P (node_of P n).head).inputs (node_of P n).args g.args (λ a b. node_sorted_below P G k a (omega arith) (omega arith)))
  where
    args : (ss as2 : List ℕ) → Arguments P n ss as2 → ((a : ℕ) → a < n → SortedTree P (tree_of P a) (sort_of P a)) → SortedTrees P (pick (trees P) as2) ss
    args [] [] q ih = tt
    args [] (a ∷ bs) q ih = absurd q
    args (s ∷ ss) [] q ih = absurd q
    args (s ∷ ss) (a ∷ bs) q ih = (subst (SortedTree P (tree_of P a)) q.1 (ih a q.0), args ss bs q.2 ih)

pub node_sorted : (P : Pack) → Good P → (n : ℕ) → n < length P.nodes → SortedTree P (tree_of P n) (sort_of P n)
node_sorted P G n = node_sorted_below P G (suc n) n (omega arith)

-- where a well-sorted term becomes a well-sorted tree its variables have trees of their sorts, and the other way round
mutual
  unfolding turn

  pub fits_of : (P : Pack) (vars : List ℕ) (ν : ℕ → Tree) (t : Term) (s : ℕ) → Sorted P vars t s → SortedTree P (turn ν t) s → Fits P vars ν t
  fits_of P vars ν (var k) s h q = subst (SortedTree P (ν k)) (sym h.1) q
  fits_of P vars ν (app f ts) s h q = fits-all_of P vars ν ts (symbol_of P f).inputs h.2 q.2

  pub fits-all_of : (P : Pack) (vars : List ℕ) (ν : ℕ → Tree) (ts : Terms) (ss : List ℕ) → SortedAll P vars ts ss → SortedTrees P (turns ν ts) ss → FitsAll P vars ν ts
  fits-all_of P vars ν nil [] h q = tt
  fits-all_of P vars ν nil (s ∷ ss) h q = tt
  fits-all_of P vars ν (cons t ts) [] h q = absurd h
  fits-all_of P vars ν (cons t ts) (s ∷ ss) h q = (fits_of P vars ν t s h.0 q.0, fits-all_of P vars ν ts ss h.1 q.1)

mutual
  unfolding turn

  pub turn_sorted : (P : Pack) (vars : List ℕ) (ν : ℕ → Tree) (t : Term) (s : ℕ) → Sorted P vars t s → Fits P vars ν t → SortedTree P (turn ν t) s
  turn_sorted P vars ν (var k) s h q = subst (SortedTree P (ν k)) h.1 q
  turn_sorted P vars ν (app f ts) s h q = (h.0, h.1, turns_sorted P vars ν ts (symbol_of P f).inputs h.2 q)

  pub turns_sorted : (P : Pack) (vars : List ℕ) (ν : ℕ → Tree) (ts : Terms) (ss : List ℕ) → SortedAll P vars ts ss → FitsAll P vars ν ts → SortedTrees P (turns ν ts) ss
  turns_sorted P vars ν nil [] h q = tt
  turns_sorted P vars ν nil (s ∷ ss) h q = absurd h
  turns_sorted P vars ν (cons t ts) [] h q = absurd h
  turns_sorted P vars ν (cons t ts) (s ∷ ss) h q = (turn_sorted P vars ν t s h.0 q.0, turns_sorted P vars ν ts ss h.1 q.1)

-- trees that are judgments
abbrev pub AllJudged : Pack → Trees → Type 0
AllJudged P no_trees = Unit {0}
AllJudged P (tree_then t ts) = Judgment P t × AllJudged P ts

pub fits-judgments : (P : Pack) (vars : List ℕ) (ν : ℕ → Tree) (ts : Terms) → Judgments P vars ts → AllJudged P (turns ν ts) → FitsAll P vars ν ts
unfolding turn
fits-judgments P vars ν nil h q = tt
fits-judgments P vars ν (cons t ts) h q = (fits_of P vars ν t prop h.0 q.0, fits-judgments P vars ν ts h.1 q.1)

-- steps' judgments are judgments
pub step-judged : (P : Pack) → Good P → (s : ℕ) → s < length P.steps → Judgment P (tree_of P (step_of P s).judgment)
step-judged P G s h = let j = (G.steps s h).judgment in subst (SortedTree P (tree_of P (step_of P s).judgment)) j.predicate (node_sorted P G (step_of P s).judgment j.given)

pub refs-judged : (P : Pack) → Good P → (refs : List ℕ) → Below (length P.steps) refs → AllJudged P (judgments P refs)
unfolding judgments
refs-judged P G [] b = tt
refs-judged P G (r ∷ refs) b = (step-judged P G r b.0, refs-judged P G refs b.1)

-- what a step needs comes before it
needs_early : (P : Pack) → Good P → (t r : ℕ) → t < length P.steps → Among r (needs P t) → r < t
unfolding needs any
needs_early P G t r l h = elim (see (is_a_cut P (predicate_of P t))) [
  | is true c ↦ never (let z : false ≡ true = rw (c, needs) at h in cc)
  | is false c ↦ among (step_of P t).refs (G.steps t l).earlier (rw (c, needs) at h)
] where
  among : (refs : List ℕ) → Below t refs → Among r (map (first_of P) refs) → r < t
  among [] b a = never (let z : false ≡ true = a in cc)
  among (q ∷ refs) b a = elim (among_side r (first_of P q ∷ []) (map (first_of P) refs) a) [
    | on_left x ↦ let e = among_one r (first_of P q) x in let f = first-earlier P q (omega (arith, b.0)) in omega (arith, b.0)
    | on_right x ↦ among refs b.1 x
  ]

-- past the last step nothing is needed
pub needs-before : (P : Pack) → Good P → (t r : ℕ) → Among r (needs P t) → r < t
unfolding needs any step_of
needs-before P G t r h = elim (dec_lt t (length P.steps)) [
  | yes l ↦ needs_early P G t r l h
  | no l ↦
      let e : step_of P t ≡ no_step = get_or-eq_default P.steps no_step (omega arith) in
      let q : map (first_of P) (step_of P t).refs ≡ [] = ap (λ (s : Step). map (first_of P) s.refs) e in
      elim (see (is_a_cut P (predicate_of P t))) [
        | is true c ↦ never (let z : false ≡ true = rw (c, needs) at h in cc)
        | is false c ↦ let z : Among r (map (first_of P) (step_of P t).refs) = rw (c, needs) at h in never (let y : false ≡ true = rw q at z in cc)
      ]
]

-- what a needed step that is not cut refers to is needed
pub refs-needed : (P : Pack) → Good P → (s : ℕ) → Among s (needed P) → is_a_cut P (predicate_of P s) ≡ false → (r : ℕ) → Among r (map (first_of P) (step_of P s).refs) → Among r (needed P)
unfolding needed needs
refs-needed P G s n c r a =
    let w : Among r (needs P s) = rw (c, needs) a in
    needs-needed P (needs-before P G) (length P.steps) (map (λ (q : Result). first_of P q.step) P.results) s r n w

-- each needed step's judgment has a derivation of its class's shape
derived_below : (P : Pack) → Good P → Accepted P → (k s : ℕ) → s < k → s < length P.steps → Among s (needed P) → Concludes P (keyed P).words (get_or (keyed P).words s 0) (tree_of P (step_of P s).judgment)
unfolding predicate_of turn judgments
derived_below P G A zero s h l n = absurd (omega arith)
derived_below P G A (suc k) s h l n =
    let words = (keyed P).words in
    let g = G.steps s l in
    let j = (step_of P s).judgment in
    elim (see (is_a_cut P (predicate_of P s))) [
      | is true c ↦
          let e = tree_node P G j g.judgment.given in
          let ts = pick (trees P) (node_of P j).args in
          let judged : Judgment P (tree (predicate_of P s) ts) = subst (Judgment P) e (step-judged P G s l) in
          let own : StepOf P words (get_or words s 0) s = record { given = l; word = refl } in
          subst (Concludes P words (get_or words s 0)) (sym e) (leaf (predicate_of P s) ts judged c, (s, own, refl))
      | is false c ↦
          let rule = rule_of P (step_of P s).rule in
          let R = G.rules (step_of P s).rule g.rule in
          let p = A.steps s l in
          let ν = p.assignment in
          let below = below_more s (length P.steps) (step_of P s).refs (omega arith) g.earlier in
          let fp = fits-judgments P rule.vars ν rule.premises R.premises (subst (AllJudged P) (sym p.premises) (refs-judged P G (step_of P s).refs below)) in
          let fc = fits_of P rule.vars ν rule.conclusion prop R.conclusion (subst (Judgment P) (sym p.conclusion) (step-judged P G s l)) in
          let ds = refs_derived (step_of P s).refs g.earlier (λ r a. refs-needed P G s n c r a) (λ r o m. derived_below P G A k r (omega arith) (omega arith) m) in
          let es = subst (ConcludesAll P words (map (λ q. get_or words (first_of P q) 0) (step_of P s).refs)) (sym p.premises) ds in
          let own : StepOf P words (get_or words s 0) s = record { given = l; word = refl } in
          subst (Concludes P words (get_or words s 0)) p.conclusion (by (step_of P s).rule ν g.rule fp fc refl refl es.0, (s, own, c, refl, es.1))
    ]
  where
    refs_derived : (refs : List ℕ) → Below s refs → ((r : ℕ) → Among r (map (first_of P) refs) → Among r (needed P))
        → ((r : ℕ) → r < s → Among r (needed P) → Concludes P (keyed P).words (get_or (keyed P).words r 0) (tree_of P (step_of P r).judgment))
        → ConcludesAll P (keyed P).words (map (λ q. get_or (keyed P).words (first_of P q) 0) refs) (judgments P refs)
    refs_derived [] b m ih = (none, tt)
    refs_derived (q ∷ refs) b m ih =
        let f = first-earlier P q (omega (arith, b.0, l)) in
        let d = ih (first_of P q) (omega (arith, b.0)) (m (first_of P q) (among_here (first_of P q) (map (first_of P) refs))) in
        let e = subst (λ (i : ℕ). Concludes P (keyed P).words (get_or (keyed P).words (first_of P q) 0) (tree_of P i)) (first-judgment P q (omega (arith, b.0, l))) d in
        let es = refs_derived refs b.1 (λ r a. m r (among_there r (first_of P q) (map (first_of P) refs) a)) ih in
        (more e.0 es.0, (e.1, es.1))

pub step_derived : (P : Pack) → Good P → Accepted P → (s : ℕ) → s < length P.steps → Among s (needed P) → Concludes P (keyed P).words (get_or (keyed P).words s 0) (tree_of P (step_of P s).judgment)
step_derived P G A s = derived_below P G A (suc s) s (omega arith)
