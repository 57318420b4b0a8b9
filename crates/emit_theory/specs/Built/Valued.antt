-- The ground values that the instance test finds in a well-formed graph: each is a ground node of its root's sort, and with what was asked all
-- below it has one.
use Rattle.std.specs.Prelude.{◌≡◌, Bool, eqb, length}
use Rattle.std.proofs.Math.Path.{sym, ap, subst}
use Rattle.std.proofs.Common.{◌∙◌, arith}
use Rattle.std.proofs.Math.Bool.{true, false}
use mathlib.Core.List.{List, [], ◌∷◌}
use Rattle.std.proofs.Math.Option.{Option, none, some}
use Prim.Native.Nat.{ℕ, zero, suc, ◌<◌}
use borrow.Author.Tests.{eqb-true, eqb-false}
use Rattle.definition.specs.Test.{is, see, never}
use Rattle.definition.specs.Pack.{Pack, symbol_of, node_of, sort_of}
use Rattle.definition.specs.Good.{Below, Arguments, Good}
use Rattle.definition.specs.Verdict.{Bound, value_of}
use Rattle.definition.proofs.Laws.Agreement.{onwards_some}
use Rattle.definition.proofs.Laws.Matches.{Extends}
use Rattle.definition.specs.Graph.{Graph, vertex, root, is_var}
use Rattle.definition.specs.Classes.{is_some}
use Rattle.definition.specs.Analysis.{pairing, value_at, valued}
use Rattle.theory.specs.Unification.Solve.{sort_at, SortsAt, Formed}
use Rattle.theory.specs.Unification.Forest.{root_self, root_along}
use Rattle.theory.specs.Unification.Kept.{formed_forest, root-sort}
use Rattle.theory.specs.Copies.Copying.{newest, older, looked, value_of_new, value_of_old, value_apart}
use Rattle.theory.specs.Walks.Memo.{has, has_value, value-has}
use Rattle.theory.specs.Making.Values.{provided-parts}
use Rattle.emit_theory.specs.Built.Values.{some_eq}
use Rattle.emit_theory.specs.Built.Closed.{Pass, Closed}

-- nodes asked for their values: beside ground nodes of their sorts, as far as both go
abbrev pub Asked : Pack → Graph → List ℕ → List ℕ → Type 0
Asked P g [] ns = Unit {0}
Asked P g (x ∷ xs) [] = Unit {0}
Asked P g (x ∷ xs) (n ∷ ns) = (x < length g) × (n < length P.nodes) × (sort_of P n ≡ sort_at P g x) × Asked P g xs ns

-- each value is a ground node of its node's sort
abbrev pub GroundValues : Pack → Graph → List Bound → Type 0
GroundValues P g vs = (r n : ℕ) → value_of r vs ≡ some n → (r < length g) × (n < length P.nodes) × (sort_of P n ≡ sort_at P g r)

-- whether a node's root has a value
abbrev pub is_valued : Graph → List Bound → ℕ → Bool
is_valued g vs x = has vs (root g x)

-- an application with a value had it before, or all below it have one
data Covered (g : Graph) (vs ws : List Bound) (r : ℕ) : Type 0 where
  before : has vs r ≡ true → Covered g vs ws r
  below : Pass (is_valued g ws) (vertex g r).args → Covered g vs ws r

-- values found from vs on
record Found (P : Pack) (g : Graph) (vs ws : List Bound) : Type 0 where
  keeps : Extends vs ws
  covered : (r : ℕ) → has ws r ≡ true → is_var (vertex g r) ≡ false → Covered g vs ws r
  ground : GroundValues P g ws

-- what has a value has it still
has_keeps : (vs ws : List Bound) → Extends vs ws → (r : ℕ) → has vs r ≡ true → has ws r ≡ true
has_keeps vs ws k r h = let v = has_value vs r h in value-has ws r _ (k r _ v)

pass_keeps : (g : Graph) (vs ws : List Bound) → Extends vs ws → (xs : List ℕ) → Pass (is_valued g vs) xs → Pass (is_valued g ws) xs
pass_keeps g vs ws k [] p = tt
pass_keeps g vs ws k (x ∷ xs) p = (has_keeps vs ws k (root g x) p.0, pass_keeps g vs ws k xs p.1)

-- nothing more
found_none : (P : Pack) (g : Graph) (vs : List Bound) → GroundValues P g vs → Found P g vs vs
found_none P g vs G = record { keeps = λ r m e. e; covered = λ r h v. before h; ground = G }

-- values, and then more
found_then : (P : Pack) (g : Graph) (vs us ws : List Bound) → Found P g vs us → Found P g us ws → Found P g vs ws
found_then P g vs us ws A B = record {
  keeps = λ r m e. B.keeps r m (A.keeps r m e);
  covered = λ r h v. elim (B.covered r h v) [
    | below y ↦ below y
    | before i ↦ elim (A.covered r i v) [ before j ↦ before j | below y ↦ below (pass_keeps g us ws B.keeps (vertex g r).args y) ]
  ];
  ground = B.ground;
}

-- one value more for a root that had none
module _ (P : Pack) (g : Graph) (r n : ℕ) (vs : List Bound) (new : value_of r vs ≡ none) where
  one_keeps : Extends vs (pairing r n ∷ vs)
  one_keeps k m e = value_of_old r n vs k (value_apart vs k r m e new) ∙ e

  one_ground : GroundValues P g vs → r < length g → n < length P.nodes → sort_of P n ≡ sort_at P g r → GroundValues P g (pairing r n ∷ vs)
  one_ground G hr hn s k m e = elim (looked r n vs k m e) [
    | newest i j ↦ rw (i, j) (hr, hn, s)
    | older o ↦ G k m o
  ]

  -- whose it is that has a value then
  one_has : (k : ℕ) → has (pairing r n ∷ vs) k ≡ true → (k ≡ r → ⊥) → has vs k ≡ true
  one_has k h d = let v = has_value (pairing r n ∷ vs) k h in value-has vs k _ (sym (value_of_old r n vs k d) ∙ v)

-- one head's arguments can be asked
arguments_asked : (P : Pack) (g : Graph) (i : ℕ) → i < length P.nodes → (ss xs ns : List ℕ) → Below (length g) xs → SortsAt P g xs ss → Arguments P i ss ns → Asked P g xs ns
arguments_asked P g i l ss [] ns b q a = tt
arguments_asked P g i l ss (x ∷ xs) [] b q a = tt
arguments_asked P g i l [] (x ∷ xs) (n ∷ ns) b q a = absurd q
arguments_asked P g i l (so ∷ ss) (x ∷ xs) (n ∷ ns) b q a = (b.0, omega (arith, a.0), a.1 ∙ sym q.0, arguments_asked P g i l ss xs ns b.1 q.1 a.2)

module _ (P : Pack) (good : Good P) (g : Graph) (F : Formed P g) where
  -- a root beside a ground node of its sort, if what is below it gets its values
  root_found : (deeper : List ℕ → List ℕ → List Bound → Option (List Bound))
      → ((ys ms : List ℕ) (us ws : List Bound) → Asked P g ys ms → GroundValues P g us → deeper ys ms us ≡ some ws → Found P g us ws × Pass (is_valued g ws) ys)
      → (r n : ℕ) (vs ws : List Bound) → r < length g → n < length P.nodes → sort_of P n ≡ sort_at P g r → GroundValues P g vs → value_at P g deeper r n vs ≡ some ws
      → Found P g vs ws × (has ws r ≡ true)
  unfolding value_at
  root_found deeper ih r n vs ws hr hn s G e = elim (see (value_of r vs)) [
    | is (some m) p ↦
        let q = provided-parts (eqb m n) (some vs) ws (rw (p, value_at) at e) in
        subst (λ (us : List Bound). Found P g vs us × (has us r ≡ true)) (some_eq q.1) (found_none P g vs G, value-has vs r m p)
    | is none p ↦
        let us = pairing r n ∷ vs in
        let k = one_keeps P g r n vs p in
        let U = one_ground P g r n vs p G hr hn s in
        let own = value-has us r n (value_of_new r n vs) in
        elim (see (is_var (vertex g r))) [
          | is true v ↦
              let q : some us ≡ some ws = rw (p, value_at, v) at e in
              subst (λ (us : List Bound). Found P g vs us × (has us r ≡ true)) (some_eq q) (
                record { keeps = k; covered = λ j h w. before (one_has P g r n vs p j h (λ i. never (let z : true ≡ false = sym v ∙ ap (λ (y : ℕ). is_var (vertex g y)) (sym i) ∙ w in cc))); ground = U },
                own,
              )
          | is false v ↦
              let q = provided-parts (eqb (vertex g r).head (node_of P n).head) (deeper (vertex g r).args (node_of P n).args us) ws (rw (p, value_at, v) at e) in
              let hd = eqb-true (vertex g r).head (node_of P n).head q.0 in
              let ss = (symbol_of P (vertex g r).head).inputs in
              let a : Arguments P n ss (node_of P n).args = rw hd (good.nodes n hn).args in
              let D = ih (vertex g r).args (node_of P n).args us ws (arguments_asked P g n hn ss (vertex g r).args (node_of P n).args (F r hr).below ((F r hr).sorts v) a) U q.1 in (
                record {
                  keeps = λ j m f. D.0.keeps j m (k j m f);
                  covered = λ j h w. elim (D.0.covered j h w) [
                    | below y ↦ below y
                    | before i ↦ elim (see (eqb j r)) [
                      | is true t ↦ let z : j ≡ r = eqb-true j r t in below (rw z D.1)
                      | is false t ↦ before (one_has P g r n vs p j i (eqb-false j r t))
                    ]
                  ];
                  ground = D.0.ground;
                },
                has_keeps us ws D.0.keeps r own,
              )
        ]
  ]

  -- nodes beside ground nodes of their sorts
  all_found : (d : ℕ) (xs ns : List ℕ) (vs ws : List Bound) → Asked P g xs ns → GroundValues P g vs → valued d P g xs ns vs ≡ some ws → Found P g vs ws × Pass (is_valued g ws) xs
  unfolding valued
  all_found zero [] [] vs ws B G e = subst (λ (us : List Bound). Found P g vs us × Unit {0}) (some_eq e) (found_none P g vs G, tt)
  all_found zero [] (n ∷ ns) vs ws B G e = never (cc)
  all_found zero (x ∷ xs) [] vs ws B G e = never (cc)
  all_found zero (x ∷ xs) (n ∷ ns) vs ws B G e = never (cc)
  all_found (suc d) [] [] vs ws B G e = subst (λ (us : List Bound). Found P g vs us × Unit {0}) (some_eq e) (found_none P g vs G, tt)
  all_found (suc d) [] (n ∷ ns) vs ws B G e = never (cc)
  all_found (suc d) (x ∷ xs) [] vs ws B G e = never (cc)
  all_found (suc d) (x ∷ xs) (n ∷ ns) vs ws B G e =
      let deeper : List ℕ → List ℕ → List Bound → Option (List Bound) = λ ys ms us. valued d P g ys ms us in
      let o = onwards_some (value_at P g deeper (root g x) n vs) (λ us. valued (suc d) P g xs ns us) ws e in
      let us = o.0 in
      let A = root_found deeper (λ ys ms us ts C U f. all_found d ys ms us ts C U f) (root g x) n vs us (F x B.0).within B.1 (B.2 ∙ root-sort P g F x B.0) G o.1 in
      let R = all_found (suc d) xs ns us ws B.3 A.0.ground o.2 in
      (found_then P g vs us ws A.0 R.0, (has_keeps us ws R.0.keeps (root g x) A.1, R.1))

  -- what the instance test finds: ground nodes of the sorts wanted, for all that was asked and all below it
  pub valued_sorted : (d : ℕ) (xs ns : List ℕ) (ws : List Bound) → Asked P g xs ns → valued d P g xs ns [] ≡ some ws → GroundValues P g ws × Closed (is_valued g ws) g × Pass (is_valued g ws) xs
  unfolding value_of has is_some
  valued_sorted d xs ns ws B e =
      let A = all_found d xs ns [] ws B (λ r n f. never (cc)) e in (
        A.0.ground,
        record {
          links = λ x y l f. ap (has ws) (root_along g (formed_forest P g F) x y l f);
          apps = λ x l f v h. elim (A.0.covered x (ap (has ws) (sym (root_self g x f)) ∙ h) v) [ before i ↦ never (cc) | below y ↦ y ];
        },
        A.1,
      )
