-- A worklist over the store's nodes that meets each node once, and what a node has is found when it is taken: at the end all is found that stands in the term.
use Rattle.std.specs.Prelude.{◌≡◌, Bool, ◌||◌, List, [], ◌∷◌}
use Rattle.std.proofs.Math.Path.{refl, sym, ap}
use Rattle.std.proofs.Common.{◌∙◌, arith}
use Rattle.std.proofs.Math.Bool.{true, false}
use Prim.Native.Nat.{ℕ, zero, suc, ◌<◌}
use Rattle.std.proofs.Math.Decide.{ℕ_discrete}
use borrow.Author.Tests.{eq-eqb, ne_eqb}
use Rattle.std.proofs.Math.Dec.{eqb}
use Rattle.std.proofs.Math.ListN.{length, get_or}
use Rattle.definition.specs.Test.{is, see, never, or_left, or_right, or-other, any}
use Rattle.definition.specs.Pack.{Node}
use Rattle.definition.specs.Store.{term_of}
use Rattle.definition.specs.Open.{at}
use Rattle.definition.proofs.Laws.Grow.{below_at}
use Rattle.theory.specs.Copies.Terms.{Earlier}
use Rattle.theory.specs.Walks.Stands.{kids, hits, Stands, stands_here, stands_below, stands_deeper}

-- a store, record 9's constructor and its position
module _ (s : List Node) (c i : ℕ) where
  -- a node was taken: what it has is found, and what is below it is met
  pub record Done (met found : ℕ → Bool) (x : ℕ) : Type 0 where
    pub has : (k : ℕ) → hits s c i x k ≡ true → found k ≡ true
    pub kids-met : (j : ℕ) → j < length (kids s x) → met (get_or (kids s x) j 0) ≡ true

  -- a walk from p: which nodes are met, of them which are still to be taken, and which variables are found
  pub record Reaching (p : ℕ) (waiting : List ℕ) (met found : ℕ → Bool) : Type 0 where
    pub root : met p ≡ true
    pub inside : (x : ℕ) → met x ≡ true → x < length s
    pub waits : (x : ℕ) → any (eqb x) waiting ≡ true → met x ≡ true
    pub under : (k x : ℕ) → met x ≡ true → Stands s c i k x → Stands s c i k p
    pub sound : (k : ℕ) → found k ≡ true → Stands s c i k p
    pub done : (x : ℕ) → met x ≡ true → any (eqb x) waiting ≡ false → Done met found x

  -- p alone is met
  pub reaching_first : (p : ℕ) (met found : ℕ → Bool) → p < length s → met p ≡ true → ((x : ℕ) → (p ≡ x → ⊥) → met x ≡ false) → ((k : ℕ) → found k ≡ false) → Reaching p (p ∷ []) met found
  unfolding any
  reaching_first p met found h m others none =
      let only : (x : ℕ) → met x ≡ true → p ≡ x = λ x e. elim (ℕ_discrete p x) [ yes q ↦ q | no d ↦ never (let z : true ≡ false = sym e ∙ others x d in cc) ] in
      record {
        root = m;
        inside = λ x e. omega (arith, only x e);
        waits = λ x e. elim (ℕ_discrete p x) [ yes q ↦ ap met (sym q) ∙ m | no d ↦ never (let z : true ≡ false = sym e ∙ ap (λ (b : Bool). b || false) (ne_eqb x p (λ q. d (sym q))) in cc) ];
        under = λ k x e t. ap (λ (y : ℕ). at c i k (term_of s y)) (only x e) ∙ t;
        sound = λ k e. never (let z : true ≡ false = sym e ∙ none k in cc);
        done = λ x e n. never (let z : true ≡ false = sym (ap (λ (b : Bool). b || false) (eq-eqb x p (sym (only x e)))) ∙ n in cc);
      }

  module _ (E : Earlier s) (p x : ℕ) (ps : List ℕ) (met found : ℕ → Bool) (R : Reaching p (x ∷ ps) met found) where
    -- the node in front is met
    pub front_met : met x ≡ true
    unfolding any
    front_met = R.waits x (or_left (eqb x x) (any (eqb x) ps) (eq-eqb x x refl))

    -- a node below it is met now, and waits
    pub reaching_meets : (j : ℕ) → j < length (kids s x) → (met' : ℕ → Bool) → met (get_or (kids s x) j 0) ≡ false → met' (get_or (kids s x) j 0) ≡ true
        → ((y : ℕ) → (get_or (kids s x) j 0 ≡ y → ⊥) → met' y ≡ met y) → Reaching p (x ∷ get_or (kids s x) j 0 ∷ ps) met' found
    unfolding any
    reaching_meets j h met' new here others =
        let a : ℕ = get_or (kids s x) j 0 in
        let lx : x < length s = R.inside x front_met in
        let grown : (y : ℕ) → met y ≡ true → met' y ≡ true = λ y e. elim (ℕ_discrete a y) [ yes q ↦ ap met' (sym q) ∙ here | no d ↦ others y d ∙ e ] in
        let la : a < length s = omega (arith, below_at x (kids s x) j (E x lx) h) in
        record {
          root = grown p R.root;
          inside = λ y e. elim (ℕ_discrete a y) [ yes q ↦ omega (arith, q) | no d ↦ R.inside y (sym (others y d) ∙ e) ];
          waits = λ y e. elim (ℕ_discrete a y) [
            | yes q ↦ ap met' (sym q) ∙ here
            | no d ↦
                let n : eqb y a ≡ false = ne_eqb y a (λ q. d (sym q)) in
                let z : (eqb y x || any (eqb y) ps) ≡ true = ap (λ (b : Bool). eqb y x || (b || any (eqb y) ps)) (sym n) ∙ e in
                others y d ∙ R.waits y z
          ];
          under = λ k y e t. elim (ℕ_discrete a y) [
            | yes q ↦ R.under k x front_met (stands_below s c i E k x j lx h (ap (λ (z : ℕ). at c i k (term_of s z)) q ∙ t))
            | no d ↦ R.under k y (sym (others y d) ∙ e) t
          ];
          sound = R.sound;
          done = λ y e n. elim (ℕ_discrete a y) [
            | yes q ↦ never (let z : true ≡ false = sym (or_right (eqb y x) (eqb y a || any (eqb y) ps) (or_left (eqb y a) (any (eqb y) ps) (eq-eqb y a (sym q)))) ∙ n in cc)
            | no d ↦
                let m : eqb y a ≡ false = ne_eqb y a (λ q. d (sym q)) in
                let D = R.done y (sym (others y d) ∙ e) (ap (λ (b : Bool). eqb y x || (b || any (eqb y) ps)) (sym m) ∙ n) in
                record { has = D.has; kids-met = λ g l. grown (get_or (kids s y) g 0) (D.kids-met g l) }
          ];
        }

    -- the variables that it has are found now
    pub reaching_finds : (found' : ℕ → Bool) → ((k : ℕ) → found' k ≡ (found k || hits s c i x k)) → Reaching p (x ∷ ps) met found'
    reaching_finds found' now = record {
      root = R.root;
      inside = R.inside;
      waits = R.waits;
      under = R.under;
      sound = λ k e. elim (see (found k)) [
        | is true g ↦ R.sound k g
        | is false g ↦ R.under k x front_met (stands_here s c i E k x (R.inside x front_met) (or-other (found k) (hits s c i x k) g (sym (now k) ∙ e)))
      ];
      done = λ y e n. let D = R.done y e n in record { has = λ k h. now k ∙ or_left (found k) (hits s c i x k) (D.has k h); kids-met = D.kids-met };
    }

    -- it is taken
    pub reaching_takes : Done met found x → Reaching p ps met found
    unfolding any
    reaching_takes D = record {
      root = R.root;
      inside = R.inside;
      waits = λ y e. R.waits y (or_right (eqb y x) (any (eqb y) ps) e);
      under = R.under;
      sound = R.sound;
      done = λ y e n. elim (ℕ_discrete x y) [
        | yes q ↦ rw q at D
        | no d ↦ R.done y e (ap (λ (b : Bool). b || any (eqb y) ps) (ne_eqb y x (λ q. d (sym q))) ∙ n)
      ];
    }

  -- none waits: what a met node has is found
  all_found : Earlier s → (p : ℕ) (met found : ℕ → Bool) → Reaching p [] met found → (k n x : ℕ) → x < n → met x ≡ true → Stands s c i k x → found k ≡ true
  unfolding any
  all_found E p met found R k zero x l m e = absurd (omega arith)
  all_found E p met found R k (suc n) x l m e =
      let D = R.done x m refl in
      let lx = R.inside x m in
      elim (see (hits s c i x k)) [
        | is true h ↦ D.has k h
        | is false h ↦
            let r = stands_deeper s c i E k x lx e h in
            all_found E p met found R k n (get_or (kids s x) r.0 0) (omega (arith, below_at x (kids s x) r.0 (E x lx) r.1)) (D.kids-met r.0 r.1) r.2
      ]

  -- so the variables found are those of p's term
  pub reaching_ends : Earlier s → (p : ℕ) (met found : ℕ → Bool) → Reaching p [] met found → (k : ℕ) → found k ≡ at c i k (term_of s p)
  reaching_ends E p met found R k = elim (see (found k)) [
    | is true e ↦ e ∙ sym (R.sound k e)
    | is false e ↦ elim (see (at c i k (term_of s p))) [
      | is true t ↦ never (let z : true ≡ false = sym (all_found E p met found R k (suc p) p (omega arith) R.root t) ∙ e in cc)
      | is false t ↦ e ∙ sym t
    ]
  ]
