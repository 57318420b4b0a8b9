-- A pattern put for another: what was replaced once gets the same number over every store grown from there, with no node more; and how
-- deep one looks makes no difference, once it is deeper than the numbers.
use Rattle.std.specs.Prelude.{◌≡◌, get_or}
use Rattle.std.proofs.Math.Path.{refl, ap, subst}
use Rattle.std.proofs.Common.{sym, ◌∙◌, arith, eq-eqb, ne_eqb}
use mathlib.Core.List.{List, [], ◌∷◌}
use Prim.Native.Nat.{ℕ, zero, suc, ◌≤◌, ◌<◌}
use Rattle.std.proofs.Math.Decide.{ℕ_discrete}
use Rattle.std.proofs.Math.ListN.{length}
use Rattle.definition.specs.Test.{is, see}
use Rattle.definition.specs.Pack.{Node, no_node}
use Rattle.definition.specs.Good.{Below}
use Rattle.definition.specs.Store.{below, Stored, intern}
use Rattle.definition.specs.Analysis.{StoredAll}
use Rattle.definition.proofs.Laws.Grow.{below_more}
use Rattle.emission.specs.Patterns.{replace_in, replace}
use Rattle.theory.specs.Patterns.Interned.{Grows, grows_none, grows_then, grows_long, grows_at, interned}
use Rattle.theory.specs.Walks.Again.{stored, stored_all, headed}
use Rattle.emit_theory.specs.Again.Building.{intern_again}

-- the patterns below a pattern
abbrev pub under : List Node → ℕ → List ℕ
under s p = below (get_or s p no_node)

-- the first k patterns rest on earlier ones
pub record Rests (k : ℕ) (s : List Node) : Type 0 where
  pub long : k ≤ length s
  pub earlier : (p : ℕ) → p < k → Below p (under s p)

-- what is below them stays when the store grows
pub rests_same : (k p : ℕ) (s t : List Node) → Rests k s → Grows s t → p < k → get_or t p no_node ≡ get_or s p no_node
rests_same k p s t R g h = grows_at s t no_node p g (omega (arith, R.long))

-- they rest as they did
pub rests_grow : (k : ℕ) (s t : List Node) → Rests k s → Grows s t → Rests k t
rests_grow k s t R g = record {
  long = omega (arith, R.long, grows_long s t g);
  earlier = λ p h. subst (λ (n : Node). Below p (below n)) (sym (rests_same k p s t R g h)) (R.earlier p h);
}

-- a head over what arguments were replaced by
unfoldable pub made_over : ℕ → StoredAll → Stored
unfolding intern
made_over h r = intern r.store (headed h r.numbers)

-- a pattern is x itself, or has nothing below it, or has arguments
pub data Kind (x p : ℕ) (args : List ℕ) : Type 0 where
  itself : p ≡ x → Kind x p args
  bare : (p ≡ x → ⊥) → args ≡ [] → Kind x p args
  applied : (p ≡ x → ⊥) → 0 < length args → Kind x p args

-- each pattern is one of these
pub kind : (x p : ℕ) (args : List ℕ) → Kind x p args
kind x p [] = elim (ℕ_discrete p x) [ yes e ↦ itself e | no n ↦ bare n refl ]
kind x p (a ∷ args) = elim (ℕ_discrete p x) [ yes e ↦ itself e | no n ↦ applied n (omega arith) ]

module _ (x y : ℕ) where
  -- one pattern, those below it at most d deep
  abbrev pub one : ℕ → ℕ → List Node → Stored
  one d p s = replace_in x y (λ qs t. replace d x y qs t) p s

  -- x itself
  pub one_itself : (d p : ℕ) (s : List Node) → p ≡ x → one d p s ≡ stored y s
  unfolding replace_in
  one_itself d p s e = rw (eq-eqb p x e, replace_in)

  -- a pattern with nothing below it
  pub one-bare : (d p : ℕ) (s : List Node) → (p ≡ x → ⊥) → under s p ≡ [] → one d p s ≡ stored p s
  unfolding replace_in
  one-bare d p s n e = rw (ne_eqb p x n, e, replace_in)

  -- one with arguments
  pub one-over : (d p : ℕ) (s : List Node) → (p ≡ x → ⊥) → 0 < length (under s p) → one d p s ≡ made_over (get_or s p no_node).head (replace d x y (under s p) s)
  unfolding replace_in made_over
  one-over d p s n h = elim (see (under s p)) [
    | is [] e ↦ absurd (omega (arith, ap length e))
    | is (a ∷ more) e ↦ rw (ne_eqb p x n, e, replace_in)
  ]

  -- stores only grow
  made_grows : (h : ℕ) (r : StoredAll) → Grows r.store (made_over h r).store
  unfolding made_over
  made_grows h r = (interned r.store (headed h r.numbers)).grows

  -- one pattern, if those below it only grow the store
  one-grown : (d : ℕ) → ((qs : List ℕ) (t : List Node) → Grows t (replace d x y qs t).store) → (p : ℕ) (s : List Node) → Grows s (one d p s).store
  one-grown d D p s = elim (kind x p (under s p)) [
    | itself e ↦ rw (one_itself d p s e) (grows_none s)
    | bare n e ↦ rw (one-bare d p s n e) (grows_none s)
    | applied n h ↦
        let A = replace d x y (under s p) s in
        rw (one-over d p s n h) (grows_then s A.store (made_over (get_or s p no_node).head A).store (D (under s p) s) (made_grows (get_or s p no_node).head A))
  ]

  -- several patterns
  pub replace_grows : (d : ℕ) (ps : List ℕ) (s : List Node) → Grows s (replace d x y ps s).store
  unfolding replace
  replace_grows zero [] s = grows_none s
  replace_grows zero (p ∷ ps) s = grows_none s
  replace_grows (suc d) [] s = grows_none s
  replace_grows (suc d) (p ∷ ps) s =
      let t = (one d p s).store in
      grows_then s t (replace (suc d) x y ps t).store (one-grown d (λ qs u. replace_grows d qs u) p s) (replace_grows (suc d) ps t)

  -- one pattern
  pub one_grows : (d p : ℕ) (s : List Node) → Grows s (one d p s).store
  one_grows d p s = one-grown d (λ qs u. replace_grows d qs u) p s

  -- one pattern, then others
  pub replace-first : (d p : ℕ) (ps : List ℕ) (s t : List Node) (v : ℕ) → one d p s ≡ stored v t → replace (suc d) x y (p ∷ ps) s ≡ stored_all (v ∷ (replace (suc d) x y ps t).numbers) (replace (suc d) x y ps t).store
  unfolding replace
  replace-first d p ps s t v e = ap (λ (r : Stored). stored_all (r.number ∷ (replace (suc d) x y ps r.store).numbers) (replace (suc d) x y ps r.store).store) e

  module _ (k : ℕ) where
    -- ---- again, over a store grown from there
    abbrev Again : ℕ → Type 0
    Again d = (qs : List ℕ) (s : List Node) → Rests k s → Below k qs → (t : List Node) → Grows (replace d x y qs s).store t → replace d x y qs t ≡ stored_all (replace d x y qs s).numbers t

    -- one pattern, if those below it are again the same
    again_one : (d : ℕ) → Again d → (p : ℕ) (s : List Node) → Rests k s → ((p ≡ x → ⊥) → p < k) → (t : List Node) → Grows (one d p s).store t → one d p t ≡ stored (one d p s).number t
    unfolding made_over
    again_one d D p s R b t g =
        let far = grows_then s (one d p s).store t (one_grows d p s) g in
        elim (kind x p (under s p)) [
          | itself e ↦ one_itself d p t e ∙ ap (λ (r : Stored). stored r.number t) (sym (one_itself d p s e))
          | bare n e ↦
              let q = rests_same k p s t R far (b n) in
              one-bare d p t n (ap below q ∙ e) ∙ ap (λ (r : Stored). stored r.number t) (sym (one-bare d p s n e))
          | applied n h ↦
              let q = rests_same k p s t R far (b n) in
              let args = under s p in
              let head = (get_or s p no_node).head in
              let A = replace d x y args s in
              let made = one-over d p s n h in
              let u = (made_over head A).store in
              let g' : Grows u t = subst (λ (r : Stored). Grows r.store t) made g in
              let few : Below k args = below_more p k args (omega (arith, b n)) (R.earlier p (b n)) in
              let deep = D args s R few t (grows_then A.store u t (made_grows head A) g') in
              one-over d p t n (subst (λ (m : Node). 0 < length (below m)) (sym q) h)
              ∙ ap (λ (m : Node). made_over m.head (replace d x y (below m) t)) q
              ∙ ap (made_over head) deep
              ∙ intern_again A.store (headed head A.numbers) t g'
              ∙ ap (λ (r : Stored). stored r.number t) (sym made)
        ]

    -- several patterns
    replace_again : (d : ℕ) → Again d
    unfolding replace
    replace_again zero [] s R b t g = refl
    replace_again zero (p ∷ ps) s R b t g = refl
    replace_again (suc d) [] s R b t g = refl
    replace_again (suc d) (p ∷ ps) s R b t g =
        let v = (one d p s).store in
        let first = again_one d (replace_again d) p s R (λ _. b.0) t (grows_then v (replace (suc d) x y ps v).store t (replace_grows (suc d) ps v) g) in
        let rest = replace_again (suc d) ps v (rests_grow k s v R (one_grows d p s)) b.1 t g in
        replace-first d p ps t t (one d p s).number first ∙ ap (λ (r : StoredAll). stored_all ((one d p s).number ∷ r.numbers) r.store) rest

    -- one pattern again
    pub one_again : (d p : ℕ) (s : List Node) → Rests k s → ((p ≡ x → ⊥) → p < k) → (t : List Node) → Grows (one d p s).store t → one d p t ≡ stored (one d p s).number t
    one_again d = again_one d (replace_again d)

    -- ---- deeper than the numbers
    abbrev Deeper : ℕ → Type 0
    Deeper d = (qs : List ℕ) (s : List Node) → Rests k s → Below k qs → Below d qs → replace (suc d) x y qs s ≡ replace d x y qs s

    -- one pattern, if those below it are the same
    deeper-one : (d : ℕ) → Deeper d → (p : ℕ) (s : List Node) → Rests k s → p < k → p < suc d → one (suc d) p s ≡ one d p s
    deeper-one d D p s R b h = elim (kind x p (under s p)) [
      | itself e ↦ one_itself (suc d) p s e ∙ sym (one_itself d p s e)
      | bare n e ↦ one-bare (suc d) p s n e ∙ sym (one-bare d p s n e)
      | applied n o ↦
          let args = under s p in
          let e = R.earlier p b in
          let q = D args s R (below_more p k args (omega arith) e) (below_more p d args (omega arith) e) in
          one-over (suc d) p s n o ∙ ap (made_over (get_or s p no_node).head) q ∙ sym (one-over d p s n o)
    ]

    -- several patterns
    pub replace-deeper : (d : ℕ) → Deeper d
    unfolding replace
    replace-deeper zero [] s R b h = refl
    replace-deeper zero (p ∷ ps) s R b h = absurd (omega (arith, h.0))
    replace-deeper (suc d) [] s R b h = refl
    replace-deeper (suc d) (p ∷ ps) s R b h =
        let first = deeper-one d (replace-deeper d) p s R b.0 h.0 in
        let v = (one d p s).store in
        let rest = replace-deeper (suc d) ps v (rests_grow k s v R (one_grows d p s)) b.1 h.1 in
        ap (λ (r : Stored). stored_all (r.number ∷ (replace (suc (suc d)) x y ps r.store).numbers) (replace (suc (suc d)) x y ps r.store).store) first
        ∙ ap (λ (r : StoredAll). stored_all ((one d p s).number ∷ r.numbers) r.store) rest
