-- The instance test gives a ground value to every root below what it was asked: so ground values stand for their nodes there.
use Rattle.std.specs.Prelude.{◌≡◌, refl, eqb, length}
use Rattle.std.proofs.Math.Path.{sym, ap, subst}
use Rattle.std.proofs.Common.{◌∙◌, eqb-true, eq-eqb}
use Rattle.std.proofs.Math.Bool.{true, false}
use mathlib.Core.List.{List, [], ◌∷◌}
use Rattle.std.proofs.Math.Option.{Option, none, some}
use Prim.Native.Nat.{ℕ, zero, suc}
use Rattle.definition.specs.Test.{is, see, never, all}
use Rattle.definition.specs.Pack.{Pack, node_of}
use Rattle.definition.specs.Tree.{Tree, turns}
use Rattle.definition.specs.Verdict.{Bound, value_of, provided}
use Rattle.definition.specs.Good.{Below, Good, Few}
use Rattle.definition.proofs.Laws.Agreement.{onwards_some}
use Rattle.definition.specs.Graph.{Graph, vertex, root, is_var, ends}
use Rattle.definition.specs.Analysis.{pairing, value_at, valued, Numbered, resolve}
use Rattle.theory.specs.Unification.Solve.{trees_at, Solves, Formed}
use Rattle.theory.specs.Unification.Forest.{root_self}
use Rattle.theory.specs.Copies.Terms.{Earlier, terms_at}
use Rattle.theory.specs.Patterns.Interned.{grows_none}
use Rattle.theory.specs.Patterns.Valued.{Agreeing}
use Rattle.theory.specs.Patterns.Resolved.{Means}
use Rattle.theory.specs.Patterns.Fixed.{Each, fix_back}

-- a node whose root has a value
abbrev pub HasValue : Graph → List Bound → ℕ → Type 0
HasValue g vs x = (m : ℕ) × (value_of (root g x) vs ≡ some m)

-- values that go on from others
abbrev Keeps : List Bound → List Bound → Type 0
Keeps vs ws = (r m : ℕ) → value_of r vs ≡ some m → value_of r ws ≡ some m

-- an application with a value had it before, or all below it have one
data Closed (g : Graph) (vs ws : List Bound) (r : ℕ) : Type 0 where
  before : (m : ℕ) → value_of r vs ≡ some m → Closed g vs ws r
  below : Each (HasValue g ws) (vertex g r).args → Closed g vs ws r

-- what values found are like
record Covers (g : Graph) (xs : List ℕ) (vs ws : List Bound) : Type 0 where
  keeps : Keeps vs ws
  asked : Each (HasValue g ws) xs
  closed : (r m : ℕ) → value_of r ws ≡ some m → is_var (vertex g r) ≡ false → Closed g vs ws r

each_keeps : (g : Graph) (vs ws : List Bound) → Keeps vs ws → (xs : List ℕ) → Each (HasValue g vs) xs → Each (HasValue g ws) xs
each_keeps g vs ws k [] o = tt
each_keeps g vs ws k (x ∷ xs) o = ((o.0.0, k (root g x) o.0.0 o.0.1), each_keeps g vs ws k xs o.1)

provided_some : (b : _) (o : Option (List Bound)) (ws : List Bound) → provided b o ≡ some ws → o ≡ some ws
unfolding provided
provided_some true o ws e = e
provided_some false o ws e = never (let z : none ≡ some ws = e in cc)

-- one value more
value_here : (r n : ℕ) (vs : List Bound) → value_of r (pairing r n ∷ vs) ≡ some n
unfolding value_of
value_here r n vs = rw (eq-eqb r r refl, value_of)

keeps_one : (r n : ℕ) (vs : List Bound) → value_of r vs ≡ none → Keeps vs (pairing r n ∷ vs)
unfolding value_of
keeps_one r n vs e k m v = elim (see (eqb r k)) [
  | is true p ↦ never (let z : none ≡ some m = sym e ∙ ap (λ (i : ℕ). value_of i vs) (eqb-true r k p) ∙ v in cc)
  | is false p ↦ rw (p, value_of) v
]

-- it is the new one's, or was there
data Newest (r k m : ℕ) (vs : List Bound) : Type 0 where
  new : k ≡ r → Newest r k m vs
  old : value_of k vs ≡ some m → Newest r k m vs

newest : (r n : ℕ) (vs : List Bound) (k m : ℕ) → value_of k (pairing r n ∷ vs) ≡ some m → Newest r k m vs
unfolding value_of
newest r n vs k m v = elim (see (eqb r k)) [ is true p ↦ new (sym (eqb-true r k p)) | is false p ↦ old (rw (p, value_of) at v) ]

module _ (P : Pack) (g : Graph) where
  -- a root's value, if what is below it gets its values
  record Rooted (r : ℕ) (vs ws : List Bound) : Type 0 where
    keeps : Keeps vs ws
    own : (m : ℕ) × (value_of r ws ≡ some m)
    closed : (k m : ℕ) → value_of k ws ≡ some m → is_var (vertex g k) ≡ false → Closed g vs ws k

  at_covers : (deeper : List ℕ → List ℕ → List Bound → Option (List Bound)) (r n : ℕ) (vs ws : List Bound)
      → ((ys ms : List ℕ) (us ts : List Bound) → deeper ys ms us ≡ some ts → Covers g ys us ts)
      → value_at P g deeper r n vs ≡ some ws → Rooted r vs ws
  unfolding value_at
  at_covers deeper r n vs ws d e = elim (see (value_of r vs)) [
    | is (some m) v ↦
        let z : some vs ≡ some ws = provided_some (eqb m n) (some vs) ws (rw (v, value_at) at e) in
        let q : vs ≡ ws = cc in
        subst (Rooted r vs) q (record { keeps = λ k i u. u; own = (m, v); closed = λ k i u w. before i u })
    | is none v ↦ elim (see (is_var (vertex g r))) [
      | is true w ↦
          let z : some (pairing r n ∷ vs) ≡ some ws = rw (v, value_at, w) at e in
          let q : pairing r n ∷ vs ≡ ws = cc in
          subst (Rooted r vs) q (record {
            keeps = keeps_one r n vs v;
            own = (n, value_here r n vs);
            closed = λ k m u f. elim (newest r n vs k m u) [ new i ↦ never (let y : true ≡ false = sym w ∙ ap (λ (j : ℕ). is_var (vertex g j)) (sym i) ∙ f in cc) | old i ↦ before m i ];
          })
      | is false w ↦
          let o = provided_some (eqb (vertex g r).head (node_of P n).head) (deeper (vertex g r).args (node_of P n).args (pairing r n ∷ vs)) ws (rw (v, value_at, w) at e) in
          let C = d (vertex g r).args (node_of P n).args (pairing r n ∷ vs) ws o in
          record {
            keeps = λ k m u. C.keeps k m (keeps_one r n vs v k m u);
            own = (n, C.keeps r n (value_here r n vs));
            closed = λ k m u f. elim (C.closed k m u f) [
              | below y ↦ below y
              | before i y ↦ elim (newest r n vs k i y) [ new j ↦ below (rw j C.asked) | old j ↦ before i j ]
            ];
          }
    ]
  ]

  -- what is asked, and all below it, gets its value
  covers : (d : ℕ) (xs ns : List ℕ) (vs ws : List Bound) → valued d P g xs ns vs ≡ some ws → Covers g xs vs ws
  unfolding valued
  covers zero [] [] vs ws e = let q : vs ≡ ws = cc in subst (Covers g [] vs) q (record { keeps = λ k m u. u; asked = tt; closed = λ k m u f. before m u })
  covers zero [] (n ∷ ns) vs ws e = never (let z : none ≡ some ws = e in cc)
  covers zero (x ∷ xs) [] vs ws e = never (let z : none ≡ some ws = e in cc)
  covers zero (x ∷ xs) (n ∷ ns) vs ws e = never (let z : none ≡ some ws = e in cc)
  covers (suc d) [] [] vs ws e = let q : vs ≡ ws = cc in subst (Covers g [] vs) q (record { keeps = λ k m u. u; asked = tt; closed = λ k m u f. before m u })
  covers (suc d) [] (n ∷ ns) vs ws e = never (let z : none ≡ some ws = e in cc)
  covers (suc d) (x ∷ xs) [] vs ws e = never (let z : none ≡ some ws = e in cc)
  covers (suc d) (x ∷ xs) (n ∷ ns) vs ws e =
      let r = root g x in
      let o = onwards_some (value_at P g (λ ys ms us. valued d P g ys ms us) r n vs) (λ us. valued (suc d) P g xs ns us) ws e in
      let us = o.0 in
      let A = at_covers (λ ys ms ts. valued d P g ys ms ts) r n vs us (λ ys ms ts as2 q. covers d ys ms ts as2 q) o.1 in
      let C = covers (suc d) xs ns us ws o.2 in
      record {
        keeps = λ k m u. C.keeps k m (A.keeps k m u);
        asked = ((A.own.0, C.keeps r A.own.0 A.own.1), C.asked);
        closed = λ k m u f. elim (C.closed k m u f) [
          | below y ↦ below y
          | before i y ↦ elim (A.closed k i y f) [ before j z ↦ before j z | below z ↦ below (each_keeps g us ws C.keeps (vertex g k).args z) ]
        ];
      }

-- the ground values that the instance test finds stand for their nodes: whatever is below what it was asked is read back as what the solution gives it
pub values_mean : (P : Pack) → Good P → Few P → (g : Graph) → Formed P g → (θ : ℕ → Tree) → Solves θ g → (e : ℕ) (asked ns : List ℕ) (values : List Bound) → valued e P g asked ns [] ≡ some values → Agreeing P θ values
    → Each (HasValue g values) asked
    × ((st : Numbered) → Earlier st.store → (d : ℕ) (xs : List ℕ) → Below (length g) xs → Each (HasValue g values) xs → all (λ x. ends d g x) xs ≡ true
    → (ρ : ℕ → Tree) → Means θ (resolve d P g values false xs st).state.numbering ρ
    → turns ρ (terms_at (resolve d P g values false xs st).state.store (resolve d P g values false xs st).patterns) ≡ trees_at θ xs)
unfolding value_of
values_mean P G W g F θ S e asked ns values found A =
    let C = covers P g e asked ns [] values found in
    let own : (r : ℕ) → (vertex g r).link ≡ none → HasValue g values r → (m : ℕ) × (value_of r values ≡ some m) = λ r l h. (h.0, ap (λ (i : ℕ). value_of i values) (sym (root_self g r l)) ∙ h.1) in (
      C.asked,
      λ st E d xs b h q ρ M.
          (fix_back P G W g values false θ A st.numbering (HasValue g values)
          (record {
            roots = λ x l h2. (h2.0, ap (λ (i : ℕ). value_of i values) (root_self g (root g x) (F x l).rooted) ∙ h2.1);
            args = λ r l o w h2. let v = own r o h2 in elim (C.closed r v.0 v.1 w) [ below y ↦ y | before m y ↦ never (let z : none ≡ some m = y in cc) ];
          })
          (λ r l o w h2 f n. own r o h2)
          d xs st E (grows_none st.numbering) F S b h q).meaning ρ M,
    )
