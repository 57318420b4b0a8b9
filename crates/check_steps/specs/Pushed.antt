-- Nodes put on the stack one by one, the last one first: what stands on it after each.
use Rattle.std.specs.Prelude.{◌≡◌, ℕ, suc, ◌+◌, ◌-◌, ◌≤◌, ◌<◌, length, get_or, drop}
use Rattle.std.proofs.Math.Path.{refl, ap}
use Rattle.std.proofs.Common.{sym, ◌∙◌, arith, drop_of_length-le, drop-cons}
use mathlib.Core.List.{List, [], ◌∷◌, ◌++◌}
use Rattle.definition.specs.Pack.{Pack, node_of, step_of}
use Rattle.definition.proofs.Laws.Grow.{below_at}
use Rattle.definition.proofs.Laws.Agreement.{judged}
use Rattle.base.specs.Stack.{stacked}
use Rattle.base.specs.declared.stack.Stack.{Stack}
use Rattle.pack_tables.specs.Catalog.{records_of}
use Rattle.pack_tables.specs.declared.catalog.Catalog.{Catalog}
use Rattle.pack_read.specs.Reads.{length-nodes, length_steps}
use Rattle.pack_read.specs.Says.{OfPack}
use Rattle.pack_read.specs.Held.{Held, OfHeld}
use Rattle.check_steps.specs.Matching.{ArgumentsOn, JudgmentsOn}

-- what `push` promises
abbrev pub Pushed : List ℕ → List ℕ → Stack → ℕ → Stack → Type 0
Pushed stack stack' s v s' = (s'.at ≡ s.at) × (s'.len ≡ s.len + 1) × (stacked s'.at s'.len stack' ≡ v ∷ stacked s.at s.len stack)

-- the same of a stack that stands on 0
pushed_on : (stack stack' : List ℕ) (s : Stack) (v : ℕ) (s' : Stack) → s.at ≡ 0 → Pushed stack stack' s v s' → stacked 0 s'.len stack' ≡ v ∷ stacked 0 s.len stack
pushed_on stack stack' s v s' b p =
    ap (λ (a : ℕ). stacked a s'.len stack') (sym (p.0 ∙ b))
    ∙ p.2
    ∙ ap (λ (a : ℕ). v ∷ stacked a s.len stack) b

-- one element more of those from i on
drop_less : (xs : List ℕ) (i : ℕ) → 0 < i → i ≤ length xs → drop (i - 1) xs ≡ get_or xs (i - 1) 0 ∷ drop i xs
drop_less xs i p l =
    let e : suc (i - 1) ≡ i = omega arith in
    drop-cons xs (i - 1) 0 (omega arith) ∙ ap (λ (k : ℕ). get_or xs (i - 1) 0 ∷ drop k xs) e

-- each node of the pack is recorded, and each step
pub node_recorded : (bytes work : List ℕ) (c : Catalog) (H : Held bytes work c) (n : ℕ) → n < length H.pack.nodes → n < length (records_of work c 3)
node_recorded bytes work c H n l = omega (arith, length-nodes bytes (records_of work c) H.pack H.reads)

pub step_recorded : (bytes work : List ℕ) (c : Catalog) (H : Held bytes work c) (i : ℕ) → i < length H.pack.steps → i < length (records_of work c 4)
step_recorded bytes work c H i l = omega (arith, length_steps bytes (records_of work c) H.pack H.reads)

-- ---- a node's arguments, those from i on
pub record ArgumentsFrom (bytes work : List ℕ) (c : Catalog) (n i : ℕ) (stack : List ℕ) (s : Stack) (stack' : List ℕ) (s' : Stack) : Type 0 where
  pub base : s'.at ≡ 0
  pub long : length stack' ≡ length stack
  pub left : OfHeld bytes work c (λ P. i ≤ length (node_of P n).args)
  pub many : OfHeld bytes work c (λ P. s'.len ≡ s.len + (length (node_of P n).args - i))
  pub words : OfHeld bytes work c (λ P. stacked 0 s'.len stack' ≡ drop i (node_of P n).args ++ stacked 0 s.len stack)

module _ (bytes work : List ℕ) (c : Catalog) (n i : ℕ) (stack : List ℕ) (s : Stack) where
  -- none yet
  pub arguments_none : s.at ≡ 0 → OfPack bytes work c (λ P. length (node_of P n).args) i → ArgumentsFrom bytes work c n i stack s stack s
  arguments_none b f = record {
    base = b;
    long = refl;
    left = λ P R p. omega (arith, f P R);
    many = λ P R p. omega (arith, f P R);
    words = λ P R p. ap (λ (xs : List ℕ). xs ++ stacked 0 s.len stack) (sym (drop_of_length-le (node_of P n).args {i = i} (omega (arith, f P R))));
  }

  module _ (stack' : List ℕ) (s' : Stack) (A : ArgumentsFrom bytes work c n i stack s stack' s') where
    -- there is one more, and room for it
    pub arguments_left : (H : Held bytes work c) → 0 < i → i - 1 < length (node_of H.pack n).args
    arguments_left H p = omega (arith, A.left H.pack H.reads H.proper)

    pub arguments_room : (H : Held bytes work c) → length (node_of H.pack n).args + s.len ≤ length stack → 0 < i → s'.at + s'.len < length stack'
    arguments_room H l p = omega (arith, A.left H.pack H.reads H.proper, A.many H.pack H.reads H.proper, A.base, A.long)

    -- one more
    pub arguments_more : 0 < i → (v : ℕ) → OfPack bytes work c (λ P. get_or (node_of P n).args (i - 1) 0) v → (stack'' : List ℕ) (s'' : Stack) → length stack'' ≡ length stack' → Pushed stack' stack'' s' v s''
        → ArgumentsFrom bytes work c n (i - 1) stack s stack'' s''
    arguments_more p v f stack'' s'' l u = record {
      base = u.0 ∙ A.base;
      long = l ∙ A.long;
      left = λ P R h. omega (arith, A.left P R h);
      many = λ P R h. omega (arith, A.left P R h, A.many P R h, u.1);
      words = λ P R h.
          pushed_on stack' stack'' s' v s'' A.base u
          ∙ ap (λ (xs : List ℕ). v ∷ xs) (A.words P R h)
          ∙ ap (λ (x : ℕ). x ∷ (drop i (node_of P n).args ++ stacked 0 s.len stack)) (f P R)
          ∙ ap (λ (xs : List ℕ). xs ++ stacked 0 s.len stack) (sym (drop_less (node_of P n).args i p (A.left P R h)));
    }

    -- all of them
    pub arguments_all : i ≤ 0 → ArgumentsOn bytes work c n stack stack' s s'
    arguments_all l =
        let e : i ≡ 0 = omega arith in
        (A.base, λ P R h. A.words P R h ∙ ap (λ (k : ℕ). drop k (node_of P n).args ++ stacked 0 s.len stack) e)

-- ---- the judgments of a step's refs, those from k on, over its own
pub record JudgmentsFrom (bytes work : List ℕ) (c : Catalog) (i k : ℕ) (stack stack' : List ℕ) (s' : Stack) : Type 0 where
  pub base : s'.at ≡ 0
  pub long : length stack' ≡ length stack
  pub left : OfHeld bytes work c (λ P. k ≤ length (step_of P i).refs)
  pub many : OfHeld bytes work c (λ P. s'.len ≡ 1 + (length (step_of P i).refs - k))
  pub words : OfHeld bytes work c (λ P. stacked 0 s'.len stack' ≡ judged P (drop k (step_of P i).refs) ++ ((step_of P i).judgment ∷ []))

module _ (bytes work : List ℕ) (c : Catalog) (i k : ℕ) (stack : List ℕ) where
  -- its own alone
  pub judgments_own : (v : ℕ) → OfPack bytes work c (λ P. (step_of P i).judgment) v → OfPack bytes work c (λ P. length (step_of P i).refs) k → (before : List ℕ) (s : Stack) → Pushed before stack (record { at = 0; len = 0 }) v s
      → JudgmentsFrom bytes work c i k stack stack s
  unfolding stacked
  judgments_own v f m before s u = record {
    base = u.0;
    long = refl;
    left = λ P R h. omega (arith, m P R);
    many = λ P R h. omega (arith, m P R, u.1);
    words = λ P R h.
        pushed_on before stack (record { at = 0; len = 0 }) v s refl u
        ∙ ap (λ (x : ℕ). x ∷ []) (f P R)
        ∙ ap (λ (xs : List ℕ). judged P xs ++ ((step_of P i).judgment ∷ [])) (sym (drop_of_length-le (step_of P i).refs {i = k} (omega (arith, m P R))));
  }

  module _ (stack' : List ℕ) (s' : Stack) (J : JudgmentsFrom bytes work c i k stack stack' s') where
    -- there is one more ref, and room for its judgment
    pub judgments-left : (H : Held bytes work c) → 0 < k → k - 1 < length (step_of H.pack i).refs
    judgments-left H p = omega (arith, J.left H.pack H.reads H.proper)

    pub judgments-room : (H : Held bytes work c) → length (step_of H.pack i).refs + 1 ≤ length stack → 0 < k → s'.at + s'.len < length stack'
    judgments-room H l p = omega (arith, J.left H.pack H.reads H.proper, J.many H.pack H.reads H.proper, J.base, J.long)

    -- a ref is a step
    pub ref_recorded : (H : Held bytes work c) → i < length H.pack.steps → 0 < k → (r : ℕ) → OfPack bytes work c (λ P. get_or (step_of P i).refs (k - 1) 0) r → r < length (records_of work c 4)
    ref_recorded H l p r f =
        let P : Pack = H.pack in
        let b : get_or (step_of P i).refs (k - 1) 0 < i = below_at i (step_of P i).refs (k - 1) (H.proper.good.steps i l).earlier (judgments-left H p) in
        step_recorded bytes work c H r (omega (arith, f P H.reads))

    -- one more
    pub judgments-more : 0 < k → (r v : ℕ) → OfPack bytes work c (λ P. get_or (step_of P i).refs (k - 1) 0) r → OfPack bytes work c (λ P. (step_of P r).judgment) v → (stack'' : List ℕ) (s'' : Stack) → length stack'' ≡ length stack' → Pushed stack' stack'' s' v s''
        → JudgmentsFrom bytes work c i (k - 1) stack stack'' s''
    judgments-more p r v g f stack'' s'' l u = record {
      base = u.0 ∙ J.base;
      long = l ∙ J.long;
      left = λ P R h. omega (arith, J.left P R h);
      many = λ P R h. omega (arith, J.left P R h, J.many P R h, u.1);
      words = λ P R h.
          pushed_on stack' stack'' s' v s'' J.base u
          ∙ ap (λ (xs : List ℕ). v ∷ xs) (J.words P R h)
          ∙ ap (λ (x : ℕ). x ∷ (judged P (drop k (step_of P i).refs) ++ ((step_of P i).judgment ∷ []))) (f P R ∙ ap (λ (x : ℕ). (step_of P x).judgment) (g P R))
          ∙ ap (λ (xs : List ℕ). judged P xs ++ ((step_of P i).judgment ∷ [])) (sym (drop_less (step_of P i).refs k p (J.left P R h)));
    }

    -- all of them
    pub judgments-all : k ≤ 0 → JudgmentsOn bytes work c i stack' s'
    judgments-all l =
        let e : k ≡ 0 = omega arith in
        (J.base, λ P R h. J.words P R h ∙ ap (λ (j : ℕ). judged P (drop j (step_of P i).refs) ++ ((step_of P i).judgment ∷ [])) e)
