-- The store's nodes stay patterns when a variable or an application over them is interned, and so a cut class's conclusion.
use Rattle.std.specs.Prelude.{◌≡◌, refl, true, false, List, [], ◌∷◌, ◌++◌, ℕ, suc, ◌<◌, ◌≤◌, length, get_or}
use Rattle.std.proofs.Common.{ap, ◌∙◌, arith, ne_eqb}
use Rattle.std.proofs.Math.Option.{none, some}
use Rattle.std.proofs.Math.Decide.{dec_lt}
use Rattle.std.proofs.Math.ListN.{get_or-append}
use Rattle.std.proofs.lemmas.List.{get_or_at}
use Rattle.definition.specs.Test.{is, see, never}
use Rattle.definition.specs.Pack.{Node, no_node, Pack, symbol_of}
use Rattle.definition.specs.Good.{Below, Good, Few}
use Rattle.definition.proofs.Laws.Grow.{length_more}
use Rattle.definition.specs.Store.{variable_head, variable_node, is_variable, below, place_of, Stored, intern}
use Rattle.definition.specs.Analysis.{StoredAll}
use Rattle.definition.specs.Classes.{fresh_variables}
use Rattle.theory.specs.Patterns.Interned.{Grows, grows_none, grows_then, grows_long, interned, below-args}
use Rattle.theory.specs.Copies.Terms.{Patterns}

-- no node yet
pub patterns_none : Patterns []
patterns_none = record { earlier = λ i h. absurd (omega arith); twos = λ p h. absurd (omega arith); few = λ p h. absurd (omega arith) }

-- what a pattern's number and its store are, behind an earlier store
pub record Interning (s : List Node) (r : Stored) : Type 0 where
  pub patterns : Patterns r.store
  pub inside : r.number < length r.store
  pub grows : Grows s r.store

-- the same of numbers
pub record InterningAll (s : List Node) (r : StoredAll) : Type 0 where
  pub patterns : Patterns r.store
  pub inside : Below (length r.store) r.numbers
  pub grows : Grows s r.store

-- what holds of each node and of one more holds of each then
each_more : (Q : Node → Type 0) (s : List Node) (n : Node) → ((p : ℕ) → p < length s → Q (get_or s p no_node)) → Q n → (p : ℕ) → p < length (s ++ (n ∷ [])) → Q (get_or (s ++ (n ∷ [])) p no_node)
each_more Q s n old new p l = elim (dec_lt p (length s)) [
  | yes h ↦ rw (get_or-append s (n ∷ []) no_node p h) (old p h)
  | no h ↦
      let e : p ≡ length s = omega (arith, h, length_more s n) in
      let q : get_or (s ++ (n ∷ [])) p no_node ≡ n = ap (λ (i : ℕ). get_or (s ++ (n ∷ [])) i no_node) e ∙ get_or_at s n [] no_node (length s) refl in
      rw q new
]

each_interned : (Q : Node → Type 0) (s : List Node) (n : Node) → ((p : ℕ) → p < length s → Q (get_or s p no_node)) → Q n → (p : ℕ) → p < length (intern s n).store → Q (get_or (intern s n).store p no_node)
unfolding intern
each_interned Q s n old new = elim (see (place_of n s 0)) [
  | is (some i) e ↦ rw (e, intern) old
  | is none e ↦ rw (e, intern) (each_more Q s n old new)
]

-- a node that is as a pattern's must be
pub intern_patterns : (s : List Node) (n : Node) → Patterns s → Below (length s) (below n) → (is_variable n ≡ true → length n.args ≡ 2) → (is_variable n ≡ false → length n.args ≤ 16) → Interning s (intern s n)
intern_patterns s n S b two few =
    let I = interned s n in
    record {
      patterns = record {
        earlier = I.earlier S.earlier b;
        twos = each_interned (λ (m : Node). is_variable m ≡ true → length m.args ≡ 2) s n S.twos two;
        few = each_interned (λ (m : Node). is_variable m ≡ false → length m.args ≤ 16) s n S.few few;
      };
      inside = I.within;
      grows = I.grows;
    }

-- a variable
pub intern-variable : (s : List Node) (k so : ℕ) → Patterns s → Interning s (intern s (variable_node k so))
unfolding is_variable below
intern-variable s k so S = intern_patterns s (variable_node k so) S tt (λ e. refl) (λ e. never (cc))

-- an application
pub intern-applied : (s : List Node) (n : Node) → Patterns s → is_variable n ≡ false → length n.args ≤ 16 → Below (length s) n.args → Interning s (intern s n)
intern-applied s n S a l b = intern_patterns s n S (below-args (length s) n b) (λ e. never (cc)) (λ e. l)

-- its head is not a variable's
pub not-variable : (n : Node) → (n.head ≡ variable_head → ⊥) → is_variable n ≡ false
unfolding is_variable
not-variable n d = ne_eqb n.head variable_head d

pub intern-node : (s : List Node) (n : Node) → Patterns s → (n.head ≡ variable_head → ⊥) → length n.args ≤ 16 → Below (length s) n.args → Interning s (intern s n)
intern-node s n S d l b = intern-applied s n S (not-variable n d) l b

-- as a symbol's is not
pub symbol-head : (P : Pack) → Few P → (h : ℕ) → h < length P.symbols → h ≡ variable_head → ⊥
symbol-head P W h l e = omega (arith, W.symbols)

-- ---- fresh variables
-- as many as sorts
pub fresh-length : (sorts : List ℕ) (k : ℕ) (s : List Node) → length (fresh_variables sorts k s).numbers ≡ length sorts
unfolding fresh_variables
fresh-length [] k s = refl
fresh-length (so ∷ sorts) k s = ap suc (fresh-length sorts (suc k) (intern s (variable_node k so)).store)

-- the store grows by them
pub fresh_grows : (sorts : List ℕ) (k : ℕ) (s : List Node) → Grows s (fresh_variables sorts k s).store
unfolding fresh_variables
fresh_grows [] k s = grows_none s
fresh_grows (so ∷ sorts) k s =
    let t = (intern s (variable_node k so)).store in
    grows_then s t (fresh_variables sorts (suc k) t).store (interned s (variable_node k so)).grows (fresh_grows sorts (suc k) t)

pub fresh_patterns : (sorts : List ℕ) (k : ℕ) (s : List Node) → Patterns s → InterningAll s (fresh_variables sorts k s)
unfolding fresh_variables
fresh_patterns [] k s S = record { patterns = S; inside = tt; grows = fresh_grows [] k s }
fresh_patterns (so ∷ sorts) k s S =
    let first = intern s (variable_node k so) in
    let F = intern-variable s k so S in
    let rest = fresh_variables sorts (suc k) first.store in
    let R = fresh_patterns sorts (suc k) first.store F.patterns in
    record { patterns = R.patterns; inside = (omega (arith, F.inside, grows_long first.store rest.store R.grows), R.inside); grows = fresh_grows (so ∷ sorts) k s }

-- ---- a cut class's conclusion
-- a predicate over distinct variables
abbrev pub cut_node : Pack → ℕ → List Node → Node
cut_node P p s = record { head = p; args = (fresh_variables (symbol_of P p).inputs 0 s).numbers }

abbrev pub cut_top : Pack → ℕ → List Node → Stored
cut_top P p s = intern (fresh_variables (symbol_of P p).inputs 0 s).store (cut_node P p s)

pub cut_few : (P : Pack) → Good P → (p : ℕ) → p < length P.symbols → (s : List Node) → length (cut_node P p s).args ≤ 16
cut_few P G p l s = omega (arith, fresh-length (symbol_of P p).inputs 0 s, (G.symbols p l).arity)

pub cut_patterns : (P : Pack) → Good P → Few P → (p : ℕ) → p < length P.symbols → (s : List Node) → Patterns s → Interning s (cut_top P p s)
cut_patterns P G W p l s S =
    let F = fresh_patterns (symbol_of P p).inputs 0 s S in
    let t = (fresh_variables (symbol_of P p).inputs 0 s).store in
    let n : Node = cut_node P p s in
    let I = intern-node t n F.patterns (symbol-head P W p l) (cut_few P G p l s) F.inside in
    record { patterns = I.patterns; inside = I.inside; grows = grows_then s t (intern t n).store F.grows I.grows }
