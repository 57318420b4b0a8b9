-- The patterns that the search begins with: what code answers of them, and that they are a sound beginning.
use Rattle.std.specs.Prelude.{Option, Some, None}
use Rattle.std.specs.Prelude.{◌≡◌, refl, ℕ, ◌<◌}
use Rattle.std.proofs.Common.{sym, subst, ◌∙◌, arith}
use Rattle.std.proofs.Math.Path.{ap}
use mathlib.Core.List.{List, [], ◌∷◌}
use Rattle.std.proofs.Math.ListN.{length}
use Rattle.definition.specs.Test.{never}
use Rattle.definition.specs.Pack.{prop, Node, Pack}
use Rattle.definition.specs.Tree.{tree_of}
use Rattle.definition.specs.Verdict.{value_of}
use Rattle.definition.specs.Store.{Stored as Kept, variable_node, variable_head, intern, pattern_words}
use Rattle.definition.specs.Analysis.{lift}
use Rattle.theory.specs.Patterns.Interned.{grows_long, grows_at, lifted}
use Rattle.theory.specs.Walks.Again.{stored}
use Rattle.base.specs.Outside.{outside_then}
use Rattle.store.specs.Stored.{nodes}
use Rattle.store.specs.Words.{node_with}
use Rattle.store.specs.declared.nodes.Store.{Store}
use Rattle.base.specs.declared.id.Pattern.{Pattern}
use Rattle.pack_tables.specs.declared.catalog.Catalog.{Catalog}
use Rattle.pack_read.specs.Held.{Proper, OfHeld, reads_on}
use Rattle.term_lift.specs.Lifts.{Lifts, Apart, Answers}
use Rattle.term_lift.specs.Kept.{Interns}
use Rattle.term_lift.specs.Nodes.{laid_same}
use Rattle.term_lift.specs.Runs.{words-grow}
use Rattle.term_lift.specs.declared.lift.Lifted.{Lifted}
use Rattle.emission.specs.State.{Emitter}
use Rattle.emission.specs.Begin.{fresh, eigen_number}
use Rattle.emit_theory.specs.Graph.Intern.{intern-variable}
use Rattle.emit_theory.specs.Goal.Lift.{node_of_law}
use Rattle.emit_theory.specs.Sound.{Sound}
use Rattle.emit_theory.specs.Search.Proving.{Has, Supposed}
use Rattle.host_search.specs.Searched.{eigen, judged, setting_of}
use Rattle.host_search.specs.Asked.{Given}

-- L's words
abbrev pub eigen_key : List ℕ
eigen_key = variable_head ∷ eigen_number ∷ 0 ∷ []

-- what `intern_judgment` answers: the definition's number and store; or short, when its words are more than there are
abbrev pub Judges : List ℕ → List ℕ → List ℕ → List ℕ → List ℕ → Catalog → Lifted → ℕ → Option (Pattern × Store) → Type 0
Judges bytes work words work' words' c l n (Some (p, st)) =
    Lifts bytes work' words' c l st
    × OfHeld bytes work c (λ P. judged P n ≡ stored p.0 (nodes words' st))
    × Apart work work' l
Judges bytes work words work' words' c l n None = OfHeld bytes work c (λ P. length words < length (pattern_words (judged P n).store))

module _ (bytes work words : List ℕ) (c : Catalog) (l : Lifted) (st : Store) (L : Lifts bytes work words c l st) (empty : nodes words st ≡ []) (n : ℕ) where
  -- L is new
  first : (x : Kept) → intern (nodes words st) (node_with eigen_key) ≡ x → eigen ≡ x
  unfolding node_with
  first x e = ap (λ (s : List Node). intern s (variable_node eigen_number 0)) (sym empty) ∙ e

  -- there is no room for L
  pub eigen_short : (work' words' : List ℕ) → Interns work words work' words' l st eigen_key None → Judges bytes work words work' words' c l n None
  unfolding node_with judged
  eigen_short work' words' A P R Q =
      let e = ap (λ (x : Kept). length (pattern_words x.store)) (first _ refl) in
      omega (arith, A.0, e, words-grow eigen.store (judged P n).store (lifted (tree_of P n) eigen.store).grows)

  module _ (mid mids : List ℕ) (p : Pattern) (st₁ : Store) (A : Interns work words mid mids l st eigen_key (Some (p, st₁))) where
    -- what was lifted still is
    pub eigen_lifts : Lifts bytes mid mids c l st₁
    eigen_lifts = A.0 bytes c L

    -- L's store
    eigen_store : eigen.store ≡ nodes mids st₁
    eigen_store = ap (λ (x : Kept). x.store) (first _ A.1)

    -- the judgment's pattern, or that there is no room for it
    pub judges : (work' words' : List ℕ) (r : Option (Pattern × Store)) → length mids ≡ length words → Answers bytes mid mids work' words' c l st₁ n r → Judges bytes work words work' words' c l n r
    unfolding judged
    judges work' words' (Some (q, st₂)) long B =
        let S = laid_same bytes work words c l st L.laid mid A.3.long A.3.ahead in (
          B.0,
          (λ P R Q. ap (lift (tree_of P n)) eigen_store ∙ B.1 P (reads_on bytes work mid c S L.laid.held.cataloged P R) Q),
          outside_then l.at l.end work mid work' A.3 B.3,
        )
    judges work' words' None long B = λ P R Q.
        let S = laid_same bytes work words c l st L.laid mid A.3.long A.3.ahead in
        let e = ap (λ (s : List Node). length (pattern_words (lift (tree_of P n) s).store)) eigen_store in
        omega (arith, long, e, B.0 P (reads_on bytes work mid c S L.laid.held.cataloged P R) Q)

-- L and the judgment are a sound beginning
module _ (P : Pack) (Q : Proper P) (name node depth : ℕ) (G : Given P node depth) (j : ℕ) (s : List Node) (e : judged P node ≡ stored j s) where
  -- no lines over these patterns
  abbrev state : Emitter
  state = fresh s

  -- what holds of the definition's holds of these
  this : (F : ℕ → List Node → Type 0) → F (judged P node).number (judged P node).store → F j s
  this F f = subst (λ (x : Kept). F x.number x.store) e f

  -- it is sound
  pub begins_sound : Sound (setting_of P name) state
  unfolding judged value_of
  begins_sound =
      let H = intern-variable P [] eigen_number 0 (λ i l. absurd (omega arith)) in
      let N = node_of_law P Q.few eigen.number Q.good node G.given eigen.store H.sorted in
      this (λ k t. Sound (setting_of P name) (fresh t))
      (record {
        sorted = N.sorted;
        L_stored = omega (arith, H.within, grows_long eigen.store (judged P node).store N.grows);
        L_node = grows_at eigen.store (judged P node).store _ eigen.number N.grows H.within ∙ H.is;
        L_proper = λ z. omega arith;
        proved = λ p n z. never (cc);
        derived = λ p n z. never (cc);
        defs = λ p n z. never (cc);
        names = λ p n z. never (cc);
      })

  -- the judgment is one
  pub begins_has : Has (setting_of P name) state prop j
  unfolding judged
  begins_has =
      let H = intern-variable P [] eigen_number 0 (λ i l. absurd (omega arith)) in
      let N = node_of_law P Q.few eigen.number Q.good node G.given eigen.store H.sorted in
      this (λ k t. Has (setting_of P name) (fresh t) prop k) (rw (← G.judgment) N.pattern)

  -- no hypothesis is untrue
  pub begins_supposed : Supposed [] state
  unfolding value_of
  begins_supposed p n z = never (cc)
