-- Nodes interned one by one, and case variables: each new variable has its line, its name and its sort.
use Rattle.std.specs.Prelude.{◌≡◌}
use Rattle.std.proofs.Math.Path.{refl, ap, subst}
use Rattle.std.proofs.Common.{sym, ◌∙◌, arith}
use mathlib.Core.List.{List, [], ◌∷◌, ◌++◌, map}
use Rattle.std.proofs.Math.Option.{none, some}
use Prim.Native.Nat.{ℕ, suc, ◌<◌}
use Rattle.std.proofs.Math.ListN.{length, get_or}
use Rattle.definition.specs.Test.{is, see}
use Rattle.definition.specs.Pack.{prop, Node, no_node, symbol_of}
use Rattle.definition.specs.Good.{Below, Good, Few}
use Rattle.definition.specs.Verdict.{Bound, value_of}
use Rattle.definition.specs.Store.{variable_node, intern}
use Rattle.definition.specs.Analysis.{pairing}
use Rattle.definition.specs.Run.{Run}
use Rattle.emission.specs.Line.{Line, var_line, Tally, counting, tally}
use Rattle.emission.proofs.Laws.Text.{tally-one-more}
use Rattle.emission.specs.State.{Emitter, Setting, Tried, ◌>>=◌, change, grown_to, interned, write, having_name}
use Rattle.emission.specs.Induct.{case_number, case_variables}
use Rattle.theory.specs.Copies.Copying.{value_of_new}
use Rattle.theory.specs.Patterns.Interned.{grows_none}
use Rattle.emit_theory.specs.Stores.{SortedNode}
use Rattle.emit_theory.specs.Spoken.{named}
use Rattle.emit_theory.specs.Graph.Intern.{variable_sorted, intern_sorted, sort-node, node_sort, node_sort-variable}
use Rattle.emit_theory.specs.Patterns.{AllOf, Of, no_of, of_more, intern_of}
use Rattle.emit_theory.specs.Sound.{Names, Sound, Grew, grew_then}
use Rattle.emit_theory.specs.Comes.{Comes, gives, changes, then_comes, now_comes}
use Rattle.emit_theory.specs.Writes.{named_more, sound_name, write_comes, grown_comes}
use Rattle.emit_theory.specs.Search.Proving.{Has, HasAll, has_on}

-- sorts that are no judgment's
abbrev pub Proper : List ℕ → Type 0
Proper [] = Unit {0}
Proper (so ∷ sorts) = (so ≡ prop → ⊥) × Proper sorts

-- the patterns among pairs
abbrev pub values : List Bound → List ℕ
values vs = map (λ (v : Bound). v.value) vs

module _ (S : Setting) (few : Few S.pack) where
  -- an application over patterns of its head's input sorts, whatever the names
  pub application_comes : (names : List Bound) (h : ℕ) (ps : List ℕ) (e : Emitter) → Sound S e → h < length S.pack.symbols → AllOf S.pack S.eigen names e.kept.store (symbol_of S.pack h).inputs ps
      → Comes S (λ p e₁. (e₁.undone ≡ e.undone) × Of S.pack S.eigen names e₁.kept.store (symbol_of S.pack h).output p) (interned (record { head = h; args = ps })) e
  unfolding interned
  application_comes names h ps e s l As =
      let P = S.pack in
      let x = e.kept.store in
      let I = intern_of P S.eigen names few x h (symbol_of P h).inputs ps s.sorted l refl As in
      let made = intern x (record { head = h; args = ps }) in
      let Q : ℕ → Emitter → Type 0 = λ p e₁. (e₁.undone ≡ e.undone) × Of P S.eigen names e₁.kept.store (symbol_of P h).output p in
      now_comes S Q _ e s (then_comes S _ Q (grown_to made.store) _ e (grown_comes S e s made.store I.1 I.0)
      (λ _ e₁ g t z. gives S Q made.number e₁ t (z.1, subst (λ w. Of P S.eigen names w (symbol_of P h).output made.number) (sym z.0) I.2)))

-- the next case variable has no name yet, so its entry may be taken back by making it none
pub next_unnamed : (S : Setting) (e : Emitter) → Sound S e → (v sort : ℕ) → get_or e.kept.store v no_node ≡ variable_node (case_number (tally e.undone.lines).variables) sort → value_of v e.undone.names ≡ none
next_unnamed S e s v sort n = elim (see (value_of v e.undone.names)) [
  | is none t ↦ t
  | is (some k) t ↦
      let N = s.names v k t in
      let q : case_number k ≡ case_number (tally e.undone.lines).variables = ap (λ (x : Node). get_or x.args 0 0) (sym N.node ∙ n) in
      absurd (omega (arith, N.there))
]

module _ (S : Setting) (good : Good S.pack) (few : Few S.pack) where
  -- ---- single nodes
  -- a well-sorted node interned: nothing else of the state changes
  pub interned_comes : (n : Node) (e : Emitter) → Sound S e → SortedNode S.pack e.kept.store (length e.kept.store) n
      → Comes S (λ p e₁. (e₁.undone ≡ e.undone) × (p < length e₁.kept.store) × (get_or e₁.kept.store p no_node ≡ n)) (interned n) e
  unfolding interned
  interned_comes n e s N =
      let x = e.kept.store in
      let H = intern_sorted S.pack x n s.sorted N in
      let made = intern x n in
      let Q : ℕ → Emitter → Type 0 = λ p e₁. (e₁.undone ≡ e.undone) × (p < length e₁.kept.store) × (get_or e₁.kept.store p no_node ≡ n) in
      now_comes S Q _ e s (then_comes S _ Q (grown_to made.store) _ e (grown_comes S e s made.store H.grows H.sorted)
      (λ _ e₁ g t z. gives S Q made.number e₁ t (z.1, subst (λ w. made.number < length w) (sym z.0) H.within, ap (λ w. get_or w made.number no_node) z.0 ∙ H.is)))

  -- ---- case variables
  below_proper : (sorts : List ℕ) → Below (length S.pack.sorts) sorts → Proper sorts
  below_proper [] b = tt
  below_proper (so ∷ sorts) b = ((λ q. let k = b.0 in let f = few.sorts in absurd (omega arith)), below_proper sorts b.1)

  -- a symbol's arguments are no judgments
  pub inputs_proper : (h : ℕ) → h < length S.pack.symbols → Proper (symbol_of S.pack h).inputs
  inputs_proper h l = below_proper (symbol_of S.pack h).inputs (good.symbols h l).inputs

  variables_one-more : (ls : List Line) (sort : ℕ) → (tally (ls ++ (var_line sort ∷ []))).variables ≡ suc (tally ls).variables
  unfolding counting
  variables_one-more ls sort = ap (λ (t : Tally). t.variables) (tally-one-more ls (var_line sort))

  -- one case variable: interned, its line written, named
  one_comes : {B : Type 0} (R : B → Emitter → Type 0) (sort : ℕ) (e : Emitter) (f : ℕ → Emitter → Run (Tried B)) → Sound S e → (sort ≡ prop → ⊥)
      → ((v : ℕ) (e₁ : Emitter) → Grew e e₁ → Sound S e₁ → Has S e₁ sort v → Comes S R (f v) e₁)
      → Comes S R (interned (variable_node (case_number (tally e.undone.lines).variables) sort) >>= λ v. write S (var_line sort) >>= λ _. change (having_name v (tally e.undone.lines).variables) >>= λ _. f v) e
  one_comes R sort e f s proper F =
      let k = (tally e.undone.lines).variables in
      let n = variable_node (case_number k) sort in
      then_comes S _ R (interned n) _ e (interned_comes n e s (variable_sorted S.pack e.kept.store (length e.kept.store) (case_number k) sort))
      (λ v e₁ g t z. then_comes S _ R (write S (var_line sort)) _ e₁ (write_comes S e₁ t (var_line sort))
      (λ _ e₂ g₂ t₂ q.
      let same : e₁.undone.lines ≡ e.undone.lines = ap (λ u. u.lines) z.0 in
      let ls = e₁.undone.lines ++ (var_line sort ∷ []) in
      let lines₂ : e₂.undone.lines ≡ ls = ap (λ x. x.undone.lines) q in
      let store₂ : e₂.kept.store ≡ e₁.kept.store = ap (λ x. x.kept.store) q in
      let m = ap (λ x. (tally x).variables) lines₂ ∙ variables_one-more e₁.undone.lines sort ∙ ap (λ x. suc (tally x).variables) same in
      let N : Names e₂.undone.lines e₂.kept.store v k = record {
        there = omega arith;
        stored = subst (λ w. v < length w) (sym store₂) z.1;
        sort = sort;
        node = ap (λ w. get_or w v no_node) store₂ ∙ z.2;
        proper = proper;
      } in
      let named₂ = sound_name S e₂ t₂ v k N in
      let G : Grew e₂ (having_name v k e₂) = record { lines = grows_none e₂.undone.lines; store = grows_none e₂.kept.store; names = named_more v k e₂.undone.names } in
      then_comes S _ R (change (having_name v k)) _ e₂ (changes S (having_name v k) e₂ G named₂)
      (λ _ e₃ g₃ t₃ r.
      let O : Has S (having_name v k e₂) sort v = record {
        stored = N.stored;
        sort = sort-node S.pack e₂.kept.store v ∙ ap (node_sort S.pack) N.node ∙ node_sort-variable S.pack (case_number k) sort;
        spoken = named v k (value_of_new v k e₂.undone.names);
      } in
      F v e₃ (grew_then e e₁ e₃ g (grew_then e₁ e₂ e₃ g₂ g₃)) t₃ (subst (λ x. Has S x sort v) (sym r) O))))

  pub variables_come : (sorts : List ℕ) (e : Emitter) → Sound S e → Proper sorts → Comes S (λ vs e₁. HasAll S e₁ sorts (values vs)) (case_variables S sorts) e
  unfolding case_variables
  variables_come [] e s p = gives S _ [] e s no_of
  variables_come (sort ∷ sorts) e s p =
      let Q : List Bound → Emitter → Type 0 = λ vs e₁. HasAll S e₁ (sort ∷ sorts) (values vs) in
      let k = (tally e.undone.lines).variables in
      now_comes S Q _ e s (one_comes Q sort e _ s p.0 (λ v e₁ g t h. then_comes S (λ vs e₂. HasAll S e₂ sorts (values vs)) Q (case_variables S sorts) _ e₁ (variables_come sorts e₁ t p.1)
      (λ vs e₂ g₂ u hs. gives S Q (pairing (suc k) v ∷ vs) e₂ u (of_more sort v sorts (values vs) (has_on S e₁ e₂ g₂ sort v h) hs))))
