-- An output chosen among candidates: all are patterns of its sort, so each judgment tried is well sorted, and so is the graph with the choice.
use Rattle.std.specs.Prelude.{◌≡◌, refl, length}
use Rattle.std.proofs.Common.{sym, ◌∙◌, subst, arith}
use mathlib.Core.List.{List, [], ◌∷◌, ◌++◌}
use Rattle.std.proofs.Math.Option.{Option, none, some}
use Prim.Native.Nat.{ℕ, zero, suc, ◌<◌}
use Rattle.std.proofs.Math.ListN.{get_or}
use Rattle.definition.specs.Test.{never}
use Rattle.definition.specs.Pack.{prop, Pack, no_node, symbol_of, node_of, sort_of}
use Rattle.definition.specs.Tree.{tree_of}
use Rattle.definition.specs.Good.{Below, Arguments, Good, Few}
use Rattle.definition.specs.Store.{term_of}
use Rattle.definition.specs.Graph.{Graph}
use Rattle.definition.specs.Analysis.{lift}
use Rattle.definition.specs.Run.{Run}
use Rattle.emission.specs.State.{Emitter, Setting, Tried, ◌>>=◌, attempt, give, now, grown_to, interned, celled, unified}
use Rattle.emission.specs.Induct.{prove_cut}
use Rattle.emission.specs.Begin.{eigen_number}
use Rattle.emission.specs.Global.{node_of_l, lower_term}
use Rattle.emission.specs.Lay.{Use}
use Rattle.emission.specs.Choose.{of_sort, filled, first_proved, Chosen, choose_output}
use Rattle.theory.specs.Unification.Solve.{sort_at, SortsAt}
use Rattle.theory.specs.Copies.Begin.{begins_refl}
use Rattle.theory.specs.Patterns.Sorted.{SortedPattern, variable_is}
use Rattle.emit_theory.specs.Stores.{sorted_earlier}
use Rattle.emit_theory.specs.Graph.Kept.{keeps_refl, keeps_sort}
use Rattle.emit_theory.specs.Graph.Terms.{TermOf, variables_L, lower_term_sorted}
use Rattle.emit_theory.specs.Graph.Patterns.{pattern_term, spoken_sorted}
use Rattle.emit_theory.specs.Patterns.{Of}
use Rattle.emit_theory.specs.Sound.{Told, Sound}
use Rattle.emit_theory.specs.Comes.{Comes, gives, then_comes, now_comes, attempt_comes}
use Rattle.emit_theory.specs.Writes.{grown_comes}
use Rattle.emit_theory.specs.Goal.Behind.{behind_refl, behind_term}
use Rattle.emit_theory.specs.Goal.Placed.{Shaped, UseIn}
use Rattle.emit_theory.specs.Goal.Lay.{From, from-behind, from_trans, celled_comes, unified_comes}
use Rattle.emit_theory.specs.Goal.Target.{HasL}
use Rattle.emit_theory.specs.Search.Proving.{L_sort}
use Rattle.emit_theory.specs.Goal.Lift.{of_named, node_of_law, interned_comes}
use Rattle.emit_theory.specs.Goal.Raised.{Filling, Candidates, filling_grows, candidates_grow, candidates_more, filled_of, sort_candidates}

-- proofs of cut judgments: from any sound state to the line of just that judgment
abbrev pub ProvesCut : Setting → Type 0
ProvesCut S =
    (j : ℕ) (e : Emitter) → Sound S e → Of S.pack S.eigen e.undone.names e.kept.store prop j
    → Comes S (λ n e₁. Told e₁.undone.lines e₁.kept.store j n) (prove_cut S j) e

-- a pattern in which L is the only variable is a term of its sort
of_term : (S : Setting) (e : Emitter) → Sound S e → (so p : ℕ) → Of S.pack S.eigen [] e.kept.store so p → TermOf S.pack (λ k. S.sort) (term_of e.kept.store p) so
of_term S e s so p O =
    let P = S.pack in
    let x = e.kept.store in
    let v = variable_is (get_or x S.eigen no_node) eigen_number S.sort s.L_node in
    let W = spoken_sorted P x s.sorted S.eigen S.sort s.L_stored v (L_sort S e s) p O.spoken in
    pattern_term P x (sorted_earlier P x s.sorted) (λ k. S.sort) p so (subst (SortedPattern P x (λ k. S.sort) p) O.sort W)

-- an argument of a ground node
argument_at : (P : Pack) (i : ℕ) (ss ns : List ℕ) → Arguments P i ss ns → (o : ℕ) → o < length ss → (get_or ns o 0 < i) × (sort_of P (get_or ns o 0) ≡ get_or ss o 0)
argument_at P i [] ns A o l = absurd (omega arith)
argument_at P i (s ∷ ss) [] A o l = absurd A
argument_at P i (s ∷ ss) (n ∷ ns) A zero l = (A.0, A.1)
argument_at P i (s ∷ ss) (n ∷ ns) A (suc o) l = argument_at P i ss ns A.2 o (omega arith)

-- an argument in a graph
node_at : (P : Pack) (g : Graph) (xs ss : List ℕ) → Below (length g) xs → SortsAt P g xs ss → (o : ℕ) → o < length ss → (get_or xs o 0 < length g) × (sort_at P g (get_or xs o 0) ≡ get_or ss o 0)
node_at P g xs [] b q o l = absurd (omega arith)
node_at P g [] (s ∷ ss) b q o l = absurd q
node_at P g (x ∷ xs) (s ∷ ss) b q zero l = (b.0, q.0)
node_at P g (x ∷ xs) (s ∷ ss) b q (suc o) l = node_at P g xs ss b.1 q.1 o (omega arith)

-- uses of a graph
abbrev pub AllUses : Pack → Graph → List Use → Type 0
AllUses P g [] = Unit {0}
AllUses P g (u ∷ us) = UseIn P g u × AllUses P g us

-- a graph made from another, and the uses that are left
pub record Choosing (P : Pack) (g : Graph) (v : Chosen) : Type 0 where
  pub from : From P g v.graph
  pub pending : AllUses P v.graph v.pending

-- a use left as it is
pub left_over : (P : Pack) (g : Graph) (u : Use) → Shaped P g → UseIn P g u → Choosing P g (record { graph = g; pending = u ∷ [] })
left_over P g u G U = record { from = record { shaped = G; keeps = keeps_refl g }; pending = (U, tt) }

-- a use that has nothing open
pub nothing_left : (P : Pack) (g : Graph) → Shaped P g → Choosing P g (record { graph = g; pending = [] })
nothing_left P g G = record { from = record { shaped = G; keeps = keeps_refl g }; pending = tt }

-- what a choice is: a pattern of the sort wanted
abbrev pub Choice : Setting → ℕ → Option ℕ → Emitter → Type 0
Choice S so o e = (c : ℕ) → o ≡ some c → Of S.pack S.eigen [] e.kept.store so c

module _ (S : Setting) (good : Good S.pack) (few : Few S.pack) (cut : ProvesCut S) where
  module _ (pred : ℕ) (given : pred < length S.pack.symbols) (predicate : (symbol_of S.pack pred).output ≡ prop) (so : ℕ) (args : List (Option ℕ)) where
    -- what is to be shown of candidates
    abbrev Trying : List ℕ → Type 0
    Trying cs =
        (e : Emitter) → Sound S e → Filling S.pack S.eigen e.kept.store so (symbol_of S.pack pred).inputs args → Candidates S.pack S.eigen e.kept.store so cs
        → Comes S (λ o e₁. Choice S so o e₁) (first_proved S pred args cs) e

    tried-at : (c : ℕ) (cs : List ℕ) → Trying cs → (o : Option ℕ) (e : Emitter) → Sound S e → Filling S.pack S.eigen e.kept.store so (symbol_of S.pack pred).inputs args → Candidates S.pack S.eigen e.kept.store so (c ∷ cs)
        → Comes S (λ x e₁. Choice S so x e₁) (elim o as (λ _. Emitter → Run (Tried (Option ℕ))) [ some n ↦ give (some c) | none ↦ first_proved S pred args cs ]) e
    tried-at c cs others (some n) e s F C = gives S (λ x e₁. Choice S so x e₁) (some c) e s (λ d q. let i : c ≡ d = cc in subst (λ x. Of S.pack S.eigen [] e.kept.store so x) i C.0)
    tried-at c cs others none e s F C = others e s F C.1

    -- the first candidate that proves
    pub first_proved_law : (cs : List ℕ) → Trying cs
    unfolding first_proved
    first_proved_law [] e s F C = gives S (λ o e₁. Choice S so o e₁) none e s (λ c q. never (cc))
    first_proved_law (c ∷ cs) e s F C =
        let P = S.pack in
        let L = S.eigen in
        let Q : Option ℕ → Emitter → Type 0 = λ o e₁. Choice S so o e₁ in
        let others : Trying cs = λ e₀ s₀ F₀ C₀. first_proved_law cs e₀ s₀ F₀ C₀ in
        then_comes S (λ j e₁. Of P L [] e₁.kept.store (symbol_of P pred).output j) Q (interned (record { head = pred; args = filled c args })) _ e
        (interned_comes S few pred (filled c args) e s given (filled_of P L e.kept.store so c C.0 (symbol_of P pred).inputs args F))
        (λ j e₁ g₁ s₁ O. then_comes S (λ o e₂. (n : ℕ) → o ≡ some n → Told e₂.undone.lines e₂.kept.store j n) Q (attempt (prove_cut S j)) _ e₁
        (attempt_comes S (λ n e₂. Told e₂.undone.lines e₂.kept.store j n) (prove_cut S j) (prove_cut S j) e₁ (cut j e₁ s₁ (of_named S prop e₁ j (subst (λ x. Of P L [] e₁.kept.store x j) predicate O))))
        (λ o e₂ g₂ s₂ T. tried-at c cs others o e₂ s₂
        (filling_grows P L e₁.kept.store e₂.kept.store g₂.store so (symbol_of P pred).inputs args (filling_grows P L e.kept.store e₁.kept.store g₁.store so (symbol_of P pred).inputs args F))
        (candidates_grow P L e₁.kept.store e₂.kept.store g₂.store so (c ∷ cs) (candidates_grow P L e.kept.store e₁.kept.store g₁.store so (c ∷ cs) C))))

  -- what is chosen is put into the graph, and unified with what the argument has become
  chosen_at : (g : Graph) (u : Use) (x so : ℕ) → Shaped S.pack g → HasL S g → UseIn S.pack g u → x < length g → sort_at S.pack g x ≡ so → (o : Option ℕ) (e : Emitter) → Sound S e → Choice S so o e
      → Comes S (λ v _. Choosing S.pack g v) (elim o as (λ _. Emitter → Run (Tried Chosen)) [
        | none ↦ give (record { graph = g; pending = u ∷ [] })
        | some c ↦ now >>= λ later. let made = lower_term (λ k h. record { at = node_of_l; graph = h }) (term_of later.kept.store c) g in
            celled made.graph >>= λ _. unified made.graph x made.at >>= λ h. give (record { graph = h; pending = [] })
      ]) e
  chosen_at g u x so G l U b q none e s C = gives S (λ v _. Choosing S.pack g v) (record { graph = g; pending = u ∷ [] }) e s (left_over S.pack g u G U)
  chosen_at g u x so G l U b q (some c) e s C =
      let P = S.pack in
      let t = term_of e.kept.store c in
      let made = lower_term (λ k h. record { at = node_of_l; graph = h }) t g in
      let M = lower_term_sorted P few (λ k. S.sort) g (λ k h. record { at = node_of_l; graph = h }) (variables_L P S.sort g l.inside l.sort) t so g (begins_refl g) G.sorted (of_term S e s so c (C c refl)) in
      let F = from-behind P g made.graph G M.sorted M.begins (behind_term (λ k h. record { at = node_of_l; graph = h }) (λ k h. behind_refl h) t g) in
      let Q : Chosen → Emitter → Type 0 = λ v _. Choosing S.pack g v in
      now_comes S Q _ e s (then_comes S (λ _ e₁. e₁ ≡ e) Q (celled made.graph) _ e (celled_comes S made.graph e s)
      (λ _ e₁ _ s₁ _. then_comes S (λ h _. From P made.graph h) Q (unified made.graph x made.at) _ e₁
      (unified_comes S made.graph x made.at e₁ s₁ F.shaped (omega (arith, F.keeps.longer)) M.inside (keeps_sort P g made.graph F.keeps x b ∙ q ∙ sym M.sort))
      (λ h e₂ _ s₂ H. gives S Q (record { graph = h; pending = [] }) e₂ s₂ (record { from = from_trans P g made.graph h F H; pending = tt }))))

  -- a use of a predicate whose open arguments have the sort of its o-th
  pub output_comes : (g : Graph) (u : Use) (xs : List ℕ) (raised : List (Option ℕ)) (pred o : ℕ) (e : Emitter) → Sound S e → Shaped S.pack g → HasL S g → UseIn S.pack g u
      → pred < length S.pack.symbols → (symbol_of S.pack pred).output ≡ prop → pred ≡ (node_of S.pack u.judgment).head → Below (length g) xs → SortsAt S.pack g xs (symbol_of S.pack pred).inputs
      → o < length (symbol_of S.pack pred).inputs → Filling S.pack S.eigen e.kept.store (get_or (symbol_of S.pack pred).inputs o 0) (symbol_of S.pack pred).inputs raised
      → Comes S (λ v _. Choosing S.pack g v) (choose_output S g u xs raised pred o) e
  unfolding choose_output
  output_comes g u xs raised pred o e s G l U given predicate q b sorts i F =
      let P = S.pack in
      let L = S.eigen in
      let ss = (symbol_of P pred).inputs in
      let so = get_or ss o 0 in
      let Q : Chosen → Emitter → Type 0 = λ v _. Choosing S.pack g v in
      let n = get_or (node_of P u.judgment).args o 0 in
      let A : Arguments P u.judgment ss (node_of P u.judgment).args = rw q (good.nodes u.judgment U.given).args in
      let a = argument_at P u.judgment ss (node_of P u.judgment).args A o i in
      let value = lift (tree_of P n) e.kept.store in
      let H = node_of_law P few L good n (omega (arith, a.0, U.given)) e.kept.store s.sorted in
      let x = node_at P g xs ss b sorts o i in
      now_comes S Q _ e s (then_comes S (λ _ e₁. (e₁.kept.store ≡ value.store) × (e₁.undone ≡ e.undone)) Q (grown_to value.store) _ e (grown_comes S e s value.store H.grows H.sorted)
      (λ _ e₁ g₁ s₁ z.
      let F₁ = filling_grows P L e.kept.store e₁.kept.store g₁.store so ss raised F in
      let N : Of P L [] e₁.kept.store so value.number = rw z.0 (subst (λ y. Of P L [] value.store y value.number) a.1 H.pattern) in
      then_comes S (λ c e₂. Choice S so c e₂) Q (first_proved S pred raised (of_sort so ss raised ++ (value.number ∷ []))) _ e₁
      (first_proved_law pred given predicate so raised (of_sort so ss raised ++ (value.number ∷ [])) e₁ s₁ F₁ (candidates_more P L e₁.kept.store so (of_sort so ss raised) value.number (sort_candidates P L e₁.kept.store so so ss raised F₁) N))
      (λ c e₂ _ s₂ C. chosen_at g u (get_or xs o 0) so G l U x.0 x.1 c e₂ s₂ C)))
