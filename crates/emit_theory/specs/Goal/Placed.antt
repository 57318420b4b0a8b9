-- What stands in a goal's graph: the conclusions of the steps laid so far and the uses of cut judgments, each a node of a judgment's sort.
use Rattle.std.specs.Prelude.{◌≡◌, refl, true, false, List, [], ◌∷◌, ◌++◌, map, ℕ, ◌<◌, eqb, length}
use Rattle.std.proofs.Common.{sym, ◌∙◌, arith, eqb-true, eq-eqb}
use Rattle.std.proofs.Math.Option.{Option, none, some}
use Rattle.definition.specs.Test.{is, see, never, any}
use Rattle.definition.specs.Pack.{prop, Pack, node_of, sort_of}
use Rattle.definition.specs.Graph.{Graph, vertex, is_var}
use Rattle.emission.specs.Lay.{Use, Placed, conclusion_of}
use Rattle.theory.specs.Unification.Solve.{sort_at}
use Rattle.theory.specs.Keys.Needed.{Among, among_there}
use Rattle.emit_theory.specs.Graphs.{SortedGraph}
use Rattle.emit_theory.specs.Graph.Kept.{Keeps, keeps_sort, keeps_var}
use Rattle.emit_theory.specs.Goal.Heads.{Headed}

-- a well-sorted graph whose applications are joined to their own head only
pub record Shaped (P : Pack) (g : Graph) : Type 0 where
  pub sorted : SortedGraph P g
  pub headed : Headed g

-- a use: an application of its ground judgment's predicate
pub record UseIn (P : Pack) (g : Graph) (u : Use) : Type 0 where
  pub inside : u.node < length g
  pub sort : sort_at P g u.node ≡ prop
  pub applied : is_var (vertex g u.node) ≡ false
  pub head : (vertex g u.node).head ≡ (node_of P u.judgment).head
  pub given : u.judgment < length P.nodes
  pub predicate : sort_of P u.judgment ≡ prop

-- the uses beside a step's premises
abbrev pub UsesIn : Pack → Graph → List (Option Use) → Type 0
UsesIn P g [] = Unit {0}
UsesIn P g (none ∷ us) = UsesIn P g us
UsesIn P g (some u ∷ us) = UseIn P g u × UsesIn P g us

-- a step that was laid
pub record PlacedIn (P : Pack) (g : Graph) (p : Placed) : Type 0 where
  pub given : p.step < length P.steps
  pub inside : p.conclusion < length g
  pub sort : sort_at P g p.conclusion ≡ prop
  pub uses : UsesIn P g p.uses

-- the steps that were laid
abbrev pub AllPlaced : Pack → Graph → List Placed → Type 0
AllPlaced P g [] = Unit {0}
AllPlaced P g (p ∷ ps) = PlacedIn P g p × AllPlaced P g ps

-- ---- they are so in a graph that keeps the nodes
module _ (P : Pack) (g h : Graph) (k : Keeps g h) where
  -- a use
  pub use_kept : (u : Use) → UseIn P g u → UseIn P h u
  use_kept u U = record {
    inside = omega (arith, U.inside, k.longer);
    sort = keeps_sort P g h k u.node U.inside ∙ U.sort;
    applied = keeps_var g h k u.node U.inside ∙ U.applied;
    head = k.heads u.node U.inside ∙ U.head;
    given = U.given;
    predicate = U.predicate;
  }

  -- the uses beside premises
  pub uses_kept : (us : List (Option Use)) → UsesIn P g us → UsesIn P h us
  uses_kept [] U = tt
  uses_kept (none ∷ us) U = uses_kept us U
  uses_kept (some u ∷ us) U = (use_kept u U.0, uses_kept us U.1)

  -- steps that were laid
  pub placed-kept : (ps : List Placed) → AllPlaced P g ps → AllPlaced P h ps
  placed-kept [] A = tt
  placed-kept (p ∷ ps) A = (
    record { given = A.0.given; inside = omega (arith, A.0.inside, k.longer); sort = keeps_sort P g h k p.conclusion A.0.inside ∙ A.0.sort; uses = uses_kept p.uses A.0.uses },
    placed-kept ps A.1,
  )

-- ---- one more
-- a premise without a use more
pub uses_none : (P : Pack) (g : Graph) (us : List (Option Use)) → UsesIn P g us → UsesIn P g (us ++ (none ∷ []))
uses_none P g [] U = tt
uses_none P g (none ∷ us) U = uses_none P g us U
uses_none P g (some u ∷ us) U = (U.0, uses_none P g us U.1)

-- a use more
pub uses_some : (P : Pack) (g : Graph) (us : List (Option Use)) (u : Use) → UsesIn P g us → UseIn P g u → UsesIn P g (us ++ (some u ∷ []))
uses_some P g [] u U N = (N, tt)
uses_some P g (none ∷ us) u U N = uses_some P g us u U N
uses_some P g (some v ∷ us) u U N = (U.0, uses_some P g us u U.1 N)

-- a step more
pub placed-more : (P : Pack) (g : Graph) (ps : List Placed) (p : Placed) → AllPlaced P g ps → PlacedIn P g p → AllPlaced P g (ps ++ (p ∷ []))
placed-more P g [] p A N = (N, tt)
placed-more P g (q ∷ ps) p A N = (A.0, placed-more P g ps p A.1 N)

-- ---- by their steps
abbrev pub steps_of : List Placed → List ℕ
steps_of ps = map (λ (p : Placed). p.step) ps

-- unlike either way round
other : (x y : ℕ) → eqb y x ≡ false → eqb x y ≡ false
other x y e = elim (see (eqb x y)) [
  | is false f ↦ f
  | is true f ↦ never (let z : eqb y x ≡ true = eq-eqb y x (sym (eqb-true x y f)) in cc)
]

-- the conclusion of a step that was laid
pub conclusion-placed : (P : Pack) (g : Graph) (s : ℕ) (ps : List Placed) → AllPlaced P g ps → Among s (steps_of ps) → (conclusion_of s ps < length g) × (sort_at P g (conclusion_of s ps) ≡ prop)
unfolding conclusion_of any
conclusion-placed P g s [] A a = never (cc)
conclusion-placed P g s (p ∷ ps) A a = elim (see (eqb p.step s)) [
  | is true e ↦ rw (e, conclusion_of) (A.0.inside, A.0.sort)
  | is false e ↦
      let f : eqb s p.step ≡ false = other s p.step e in
      rw (e, conclusion_of) (conclusion-placed P g s ps A.1 (rw f at a))
]

-- each of these steps has its own conclusion among all
abbrev pub Own : List Placed → List Placed → Type 0
Own all [] = Unit {0}
Own all (p ∷ ps) = (conclusion_of p.step all ≡ p.conclusion) × Own all ps

-- a step behind others, which is none of them
conclusion-last : (ps : List Placed) (p : Placed) → any (eqb p.step) (steps_of ps) ≡ false → conclusion_of p.step (ps ++ (p ∷ [])) ≡ p.conclusion
unfolding conclusion_of any
conclusion-last [] p n = rw (eq-eqb p.step p.step refl, conclusion_of)
conclusion-last (q ∷ ps) p n = elim (see (eqb p.step q.step)) [
  | is true e ↦ never (let z : true ≡ false = rw e at n in cc)
  | is false e ↦
      let f : eqb q.step p.step ≡ false = other q.step p.step e in
      rw (f, conclusion_of) (conclusion-last ps p (rw e at n))
]

conclusion-before : (s : ℕ) (ps qs : List Placed) → Among s (steps_of ps) → conclusion_of s (ps ++ qs) ≡ conclusion_of s ps
unfolding conclusion_of any
conclusion-before s [] qs a = never (cc)
conclusion-before s (p ∷ ps) qs a = elim (see (eqb p.step s)) [
  | is true e ↦ rw (e, conclusion_of)
  | is false e ↦
      let f : eqb s p.step ≡ false = other s p.step e in
      rw (e, conclusion_of) (conclusion-before s ps qs (rw f at a))
]

own_before : (all qs ps : List Placed) → ((s : ℕ) → Among s (steps_of ps) → Among s (steps_of all)) → Own all ps → Own (all ++ qs) ps
unfolding any
own_before all qs [] h O = tt
own_before all qs (p ∷ ps) h O = (
  conclusion-before p.step all qs (h p.step (rw (eq-eqb p.step p.step refl))) ∙ O.0,
  own_before all qs ps (λ s a. h s (among_there s p.step (steps_of ps) a)) O.1,
)

own_append : (all ps : List Placed) (p : Placed) → Own all ps → conclusion_of p.step all ≡ p.conclusion → Own all (ps ++ (p ∷ []))
own_append all [] p O e = (e, tt)
own_append all (q ∷ ps) p O e = (O.0, own_append all ps p O.1 e)

-- one more that is none of them
pub own_more : (ps : List Placed) (p : Placed) → Own ps ps → any (eqb p.step) (steps_of ps) ≡ false → Own (ps ++ (p ∷ [])) (ps ++ (p ∷ []))
own_more ps p O n = own_append (ps ++ (p ∷ [])) ps p (own_before ps (p ∷ []) ps (λ s a. a) O) (conclusion-last ps p n)
