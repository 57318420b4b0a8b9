-- What a grown store, and a node's pattern, come to in the lengths lent.
use Rattle.std.specs.Prelude.{◌≡◌, ℕ, ◌≤◌, ◌<◌, eqb}
use Rattle.std.proofs.Math.Path.{refl, ap}
use Rattle.std.proofs.Common.{sym, subst, ◌∙◌, arith, eqb-true, length-append}
use Rattle.std.proofs.Math.Bool.{true, false}
use mathlib.Core.List.{List, [], ◌∷◌, ◌++◌, append-nil}
use Rattle.std.proofs.Math.Option.{some}
use Rattle.std.proofs.Math.ListN.{length}
use Rattle.definition.specs.Test.{is, see}
use Rattle.definition.specs.Pack.{Node}
use Rattle.definition.specs.Store.{intern, pattern_words}
use Rattle.definition.specs.Frame.{refuse}
use Rattle.definition.specs.Answer.{Lent}
use Rattle.definition.specs.Run.{Run, return, length_of, first_short, outcome}
use Rattle.definition.specs.declared.Refusal.TheVariants.{Short}
use Rattle.store.specs.Stored.{Stored, nodes}
use Rattle.store.specs.declared.nodes.Store.{Store}
use Rattle.theory.specs.Making.Runs.{outcome-note, outcome_short}
use Rattle.theory.specs.Patterns.Interned.{Grows, with, grows_long, interned as interning}
use Rattle.emission.specs.State.{Emitter, Tried, now, grown_to, interned, having_store}
use Rattle.emit_state.specs.Holding.{got}
use Rattle.emit_state.specs.Turns.{then_got, then_refused}

-- nothing is in a list of length 0
none_more : (xs : List Node) → length xs ≡ 0 → xs ≡ []
none_more [] h = refl
none_more (x ∷ xs) h = absurd (omega arith)

-- a store that grew by nothing is the same
pub grown-same : (s t : List Node) → Grows s t → length t ≡ length s → t ≡ s
grown-same s t (with more q) h =
    let a = ap length q ∙ length-append s more in
    q ∙ ap (λ (ys : List Node). s ++ ys) (none_more more (omega arith)) ∙ append-nil s

module _ (l : Lent) (e : Emitter) (s : List Node) (G : Grows e.kept.store s) where
  -- behind the note
  abbrev grown : Unit {0} → Run (Tried (Unit {0}))
  grown = λ _. return (record { result = some tt; state = having_store s e })

  -- there is room for the words
  pub grown-got : length (pattern_words s) ≤ l.pattern → outcome l (grown_to s e) ≡ got {A = Unit {0}} tt (having_store s e)
  unfolding grown_to length_of outcome first_short
  grown-got h = elim (see (eqb (length s) (length e.kept.store))) [
    | is true k ↦ rw (k, grown_to) (ap (λ (t : List Node). got {A = Unit {0}} tt (having_store t e)) (sym (grown-same e.kept.store s G (eqb-true _ _ k))))
    | is false k ↦ rw (k, grown_to) (outcome-note l 2 (length (pattern_words s)) grown h)
  ]

  -- there is none, and was for the store before
  pub grown_short : length (pattern_words e.kept.store) ≤ l.pattern → l.pattern < length (pattern_words s) → outcome l (grown_to s e) ≡ refuse (Short 2)
  unfolding grown_to length_of
  grown_short h n = elim (see (eqb (length s) (length e.kept.store))) [
    | is true k ↦ let z = ap (λ (t : List Node). length (pattern_words t)) (grown-same e.kept.store s G (eqb-true _ _ k)) in absurd (omega arith)
    | is false k ↦ rw (k, grown_to) (outcome_short l 2 (length (pattern_words s)) grown n)
  ]

-- a store with a node has grown
store_grows : (s : List Node) (n : Node) → Grows s (intern s n).store
store_grows s n = (interning s n).grows

-- whichever list it is
pub store_grows_to : (s t : List Node) (n : Node) → t ≡ (intern s n).store → Grows s t
store_grows_to s t n z = subst (λ (x : List Node). Grows s x) (sym z) (store_grows s n)

-- it is no shorter
pub store_long : (s : List Node) (n : Node) → length s ≤ length (intern s n).store
store_long s n = grows_long s (intern s n).store (store_grows s n)

-- nor is the count, where the words hold it
pub stored_more : (words words' index index' : List ℕ) (st st' : Store) → Stored index words st → Stored index' words' st' → length (nodes words st) ≤ length (nodes words' st') → st.len ≤ st'.len
stored_more words words' index index' st st' S T h = omega (arith, S.placed.len, T.placed.len)

module _ (l : Lent) (e : Emitter) (n : Node) where
  -- the store that has the node
  abbrev store_with : List Node
  store_with = (intern e.kept.store n).store

  -- the node's pattern
  pub interned-got : length (pattern_words store_with) ≤ l.pattern → outcome l (interned n e) ≡ got (intern e.kept.store n).number (having_store store_with e)
  unfolding interned outcome first_short
  interned-got h = then_got l now _ e e e refl ∙ then_got l (grown_to store_with) _ e tt (having_store store_with e) (grown-got l e store_with (store_grows e.kept.store n) h)

  -- no room for it
  pub interned_short : length (pattern_words e.kept.store) ≤ l.pattern → l.pattern < length (pattern_words store_with) → outcome l (interned n e) ≡ refuse (Short 2)
  unfolding interned outcome first_short
  interned_short h k = then_got l now _ e e e refl ∙ then_refused l (grown_to store_with) _ e (Short 2) (grown_short l e store_with (store_grows e.kept.store n) h k)
