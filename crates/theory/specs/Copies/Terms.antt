-- What numbers of a store stand for: a variable, or the node's head over the terms of its arguments.
use Rattle.std.specs.Prelude.{◌≡◌, refl, true, false, List, [], ◌∷◌, ◌++◌, ℕ, zero, suc, ◌+◌, ◌≤◌, ◌<◌, length, get_or}
use Rattle.std.proofs.Common.{sym, ap, ap₂, ◌∙◌, arith}
use Rattle.std.proofs.Math.ListN.{get_or-append}
use Rattle.std.proofs.lemmas.List.{get_or_at}
use Rattle.definition.specs.Test.{is, see}
use Rattle.definition.specs.Pack.{Term, Terms, var, app, nil, cons, Node, no_node}
use Rattle.definition.specs.Store.{is_variable, below, pick_terms, term_over, grow_terms, term_of}
use Rattle.definition.specs.Good.{Below}
use Rattle.definition.proofs.Laws.Grow.{below_more, length_more}

-- each node rests on earlier ones
abbrev pub Earlier : List Node → Type 0
Earlier s = (n : ℕ) → n < length s → Below n (below (get_or s n no_node))

-- a store of patterns: variables have a number and a sort, applications at most 16 arguments
pub record Patterns (s : List Node) : Type 0 where
  pub earlier : Earlier s
  pub twos : (p : ℕ) → p < length s → is_variable (get_or s p no_node) ≡ true → length (get_or s p no_node).args ≡ 2
  pub few : (p : ℕ) → p < length s → is_variable (get_or s p no_node) ≡ false → length (get_or s p no_node).args ≤ 16

-- the terms of these numbers of a store
unfoldable pub terms_at : List Node → List ℕ → Terms
terms_at s [] = nil
terms_at s (a ∷ args) = cons (term_of s a) (terms_at s args)

-- below a variable there is nothing
pub below-variable : (n : Node) → is_variable n ≡ true → below n ≡ []
unfolding below
below-variable n e = rw (e, below)

-- below an application there are its arguments
pub below-applied : (n : Node) → is_variable n ≡ false → below n ≡ n.args
unfolding below
below-applied n e = rw (e, below)

-- a variable is a variable over any terms
over-variable : (ts : List Term) (n : Node) → is_variable n ≡ true → term_over ts n ≡ var (get_or n.args 0 0)
unfolding term_over
over-variable ts n e = rw (e, term_over)

-- an application is its head over the terms of its arguments
over-applied : (ts : List Term) (n : Node) → is_variable n ≡ false → term_over ts n ≡ app n.head (pick_terms ts n.args)
unfolding term_over
over-applied ts n e = rw (e, term_over)

-- terms that are the same below n give the same for numbers below n
pick_terms-same : (ts us : List Term) (n : ℕ) (args : List ℕ) → Below n args → ((i : ℕ) → i < n → get_or ts i (var 0) ≡ get_or us i (var 0)) → pick_terms ts args ≡ pick_terms us args
unfolding pick_terms
pick_terms-same ts us n [] b h = refl
pick_terms-same ts us n (a ∷ args) b h = ap₂ cons (h a b.0) (pick_terms-same ts us n args b.1 h)

-- and the same for a node that rests on numbers below n
over-same : (ts us : List Term) (n : ℕ) (node : Node) → Below n (below node) → ((i : ℕ) → i < n → get_or ts i (var 0) ≡ get_or us i (var 0)) → term_over ts node ≡ term_over us node
over-same ts us n node b h = elim (see (is_variable node)) [
  | is true p ↦ over-variable ts node p ∙ sym (over-variable us node p)
  | is false p ↦ over-applied ts node p ∙ ap (app node.head) (pick_terms-same ts us n node.args (rw (below-applied node p) at b) h) ∙ sym (over-applied us node p)
]

-- a term for each node
length-grow_terms : (ts : List Term) (ns : List Node) → length (grow_terms ts ns) ≡ length ts + length ns
unfolding grow_terms
length-grow_terms ts [] = omega arith
length-grow_terms ts (n ∷ ns) =
    let e = length-grow_terms (ts ++ (term_over ts n ∷ [])) ns in
    let l = length_more ts (term_over ts n) in
    omega arith

-- terms that are there stay
grow_terms-old : (ts : List Term) (ns : List Node) (i : ℕ) → i < length ts → get_or (grow_terms ts ns) i (var 0) ≡ get_or ts i (var 0)
unfolding grow_terms
grow_terms-old ts [] i h = refl
grow_terms-old ts (n ∷ ns) i h =
    let x = term_over ts n in
    let l = length_more ts x in
    grow_terms-old (ts ++ (x ∷ [])) ns i (omega arith) ∙ get_or-append ts (x ∷ []) (var 0) i h

-- each node's term is the node over the terms of all, if it rests on earlier ones
grow_terms-new : (ts : List Term) (ns : List Node) → ((i : ℕ) → i < length ns → Below (length ts + i) (below (get_or ns i no_node)))
    → (i : ℕ) → i < length ns → get_or (grow_terms ts ns) (length ts + i) (var 0) ≡ term_over (grow_terms ts ns) (get_or ns i no_node)
unfolding grow_terms
grow_terms-new ts [] b i h = absurd (omega arith)
grow_terms-new ts (n ∷ ns) b zero h =
    let x = term_over ts n in
    let l = length_more ts x in
    let e : length ts + 0 ≡ length ts = omega arith in
    let us = grow_terms (ts ++ (x ∷ [])) ns in
    let old : (k : ℕ) → k < length ts → get_or ts k (var 0) ≡ get_or us k (var 0) =
    λ k m. sym (grow_terms-old (ts ++ (x ∷ [])) ns k (omega arith) ∙ get_or-append ts (x ∷ []) (var 0) k m) in
    let b0 : Below (length ts + 0) (below n) = b 0 (omega arith) in
    let q = over-same ts us (length ts) n (below_more (length ts + 0) (length ts) (below n) (omega arith) b0) old in
    rw e (grow_terms-old (ts ++ (x ∷ [])) ns (length ts) (omega arith) ∙ get_or_at ts x [] (var 0) (length ts) refl ∙ q)
grow_terms-new ts (n ∷ ns) b (suc i) h =
    let x = term_over ts n in
    let l = length_more ts x in
    let e : length ts + suc i ≡ length (ts ++ (x ∷ [])) + i = omega arith in
    let c : (k : ℕ) → k < length ns → Below (length (ts ++ (x ∷ [])) + k) (below (get_or ns k no_node)) =
    λ k m. below_more (length ts + suc k) (length (ts ++ (x ∷ [])) + k) (below (get_or ns k no_node)) (omega arith) (b (suc k) (omega arith)) in
    rw e (grow_terms-new (ts ++ (x ∷ [])) ns c i (omega arith))

-- the terms of numbers are picked from the terms of all
pick-terms_at : (s : List Node) (args : List ℕ) → pick_terms (grow_terms [] s) args ≡ terms_at s args
unfolding pick_terms terms_at term_of
pick-terms_at s [] = refl
pick-terms_at s (a ∷ args) = ap (cons (term_of s a)) (pick-terms_at s args)

-- the term of a number is its node over the terms of all
term_node : (s : List Node) → Earlier s → (n : ℕ) → n < length s → term_of s n ≡ term_over (grow_terms [] s) (get_or s n no_node)
unfolding term_of
term_node s E n h =
    let b : (i : ℕ) → i < length s → Below (0 + i) (below (get_or s i no_node)) = λ i m. below_more i (0 + i) (below (get_or s i no_node)) (omega arith) (E i m) in
    let e : 0 + n ≡ n = omega arith in
    rw e at (grow_terms-new [] s b n h)

-- the term of a variable
pub term_variable : (s : List Node) → Earlier s → (n : ℕ) → n < length s → is_variable (get_or s n no_node) ≡ true → term_of s n ≡ var (get_or (get_or s n no_node).args 0 0)
term_variable s E n h v = term_node s E n h ∙ over-variable (grow_terms [] s) (get_or s n no_node) v

-- the term of an application
pub term_applied : (s : List Node) → Earlier s → (n : ℕ) → n < length s → is_variable (get_or s n no_node) ≡ false
    → term_of s n ≡ app (get_or s n no_node).head (terms_at s (get_or s n no_node).args)
term_applied s E n h v =
    term_node s E n h ∙ over-applied (grow_terms [] s) (get_or s n no_node) v ∙ ap (app (get_or s n no_node).head) (pick-terms_at s (get_or s n no_node).args)

-- nodes and then others
grow_terms-append : (ts : List Term) (ns ms : List Node) → grow_terms ts (ns ++ ms) ≡ grow_terms (grow_terms ts ns) ms
unfolding grow_terms
grow_terms-append ts [] ms = refl
grow_terms-append ts (n ∷ ns) ms = grow_terms-append (ts ++ (term_over ts n ∷ [])) ns ms

-- a number's term is what it was when the store has grown
pub term_append : (s t : List Node) (n : ℕ) → n < length s → term_of (s ++ t) n ≡ term_of s n
unfolding term_of
term_append s t n h =
    let l = length-grow_terms [] s in
    ap (λ ts. get_or ts n (var 0)) (grow_terms-append [] s t) ∙ grow_terms-old (grow_terms [] s) t n (omega arith)
