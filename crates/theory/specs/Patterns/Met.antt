-- Numbering by first occurrence: read from left to right, each variable of what is read back is known already or has the next number.
use Rattle.std.specs.Prelude.{◌≡◌, eqb, ltb, get_or}
use Rattle.std.proofs.Math.Path.{refl, ap}
use Rattle.std.proofs.Common.{sym, ◌∙◌, lt-ltb, le-ltb, eq-eqb}
use Rattle.std.proofs.Math.Bool.{true, false}
use mathlib.Core.List.{List, [], ◌∷◌, ◌++◌}
use Rattle.std.proofs.Math.Option.{Option, none, some}
use Prim.Native.Nat.{ℕ, zero, suc, ◌<◌}
use native.Mathlib.Omega.{arith}
use Rattle.std.proofs.Math.ListN.{length, length-append}
use Rattle.definition.specs.Test.{is, see, never, all, and_parts}
use Rattle.definition.specs.Pack.{Term, Terms, var, app, nil, cons, Node, no_node, Pack}
use Rattle.definition.specs.Verdict.{Bound}
use Rattle.definition.specs.Good.{Below}
use Rattle.definition.specs.Store.{variable_node, is_variable, term_of, intern}
use Rattle.definition.specs.Graph.{Graph, vertex, root, is_var, ends}
use Rattle.definition.specs.Analysis.{Numbered, Resolved, number_of, resolve_variable, resolve_at, resolve}
use Rattle.theory.specs.Patterns.Valued.{deep_ends}
use Rattle.theory.specs.Copies.Terms.{Earlier, terms_at, term_variable, term_applied}
use Rattle.theory.specs.Patterns.Interned.{interned, below-args}
use Rattle.theory.specs.Patterns.Resolved.{term_grows, terms_grow, number_found, variable-earlier}
use Rattle.theory.specs.Patterns.Sorted.{variable_is}
use Rattle.theory.specs.Patterns.Entries.{at_keeps, resolve_keeps}

-- the variables of a term as they are met from left to right
unfoldable mutual
  pub met : Term → List ℕ
  met (var k) = k ∷ []
  met (app h ts) = met_all ts

  pub met_all : Terms → List ℕ
  met_all nil = []
  met_all (cons t ts) = met t ++ met_all ts

-- how many numbers are known behind these, if k were ahead of them: each is known or the next
unfoldable pub in_turn : ℕ → List ℕ → Option ℕ
in_turn k [] = some k
in_turn k (v ∷ vs) = elim (ltb v k) [ true ↦ in_turn k vs | false ↦ elim (eqb v k) [ true ↦ in_turn (suc k) vs | false ↦ none ] ]

-- some, and then others
in_turn_then : (k : ℕ) (xs ys : List ℕ) (m : ℕ) → in_turn k xs ≡ some m → in_turn k (xs ++ ys) ≡ in_turn m ys
unfolding in_turn
in_turn_then k [] ys m e = let q : k ≡ m = cc in ap (λ (i : ℕ). in_turn i ys) q
in_turn_then k (x ∷ xs) ys m e = elim (see (ltb x k)) [
  | is true p ↦ rw (p, in_turn) (in_turn_then k xs ys m (rw (p, in_turn) at e))
  | is false p ↦ elim (see (eqb x k)) [
    | is true q ↦ rw (p, in_turn, q) (in_turn_then (suc k) xs ys m (rw (p, in_turn, q) at e))
    | is false q ↦ never (let z : none ≡ some m = rw (p, in_turn, q) at e in cc)
  ]
]

-- a known one, and the next
in_turn_known : (k v : ℕ) → v < k → in_turn k (v ∷ []) ≡ some k
unfolding in_turn
in_turn_known k v h = rw (lt-ltb v k h, in_turn)

in_turn_next : (k : ℕ) → in_turn k (k ∷ []) ≡ some (suc k)
unfolding in_turn
in_turn_next k = rw (le-ltb k k (omega arith), in_turn, eq-eqb k k refl)

-- the term of a variable that is interned
variable-met : (s : List Node) (k so : ℕ) → Earlier s → met (term_of (intern s (variable_node k so)).store (intern s (variable_node k so)).number) ≡ k ∷ []
unfolding met
variable-met s k so E =
    let I = interned s (variable_node k so) in
    let p = intern s (variable_node k so) in
    ap met (term_variable p.store (variable-earlier s k so E) p.number I.within (variable_is (get_or p.store p.number no_node) k so I.is)) ∙ ap (λ (n : Node). get_or n.args 0 0 ∷ []) I.is

module _ (P : Pack) (g : Graph) (values : List Bound) where
  -- what is read back at a variable
  variable-turn : (r : ℕ) (st : Numbered) → Earlier st.store
      → in_turn (length st.numbering) (met (term_of (resolve_variable P g values true r st).state.store (resolve_variable P g values true r st).pattern)) ≡ some (length (resolve_variable P g values true r st).state.numbering)
  unfolding resolve_variable
  variable-turn r st E = elim (see (number_of r st.numbering 0)) [
    | is (some k) p ↦
        let f = number_found r st.numbering 0 k p in
        let u = f.1 in
        let v = f.2 in
        rw (p, resolve_variable) (ap (in_turn (length st.numbering)) (variable-met st.store k (vertex g r).sort E) ∙ in_turn_known (length st.numbering) k (omega arith))
    | is none p ↦
        let k = length st.numbering in
        let l : length (st.numbering ++ (r ∷ [])) ≡ suc k = let a = length-append st.numbering (r ∷ []) in omega arith in
        rw (p, resolve_variable) (ap (in_turn k) (variable-met st.store k (vertex g r).sort E) ∙ in_turn_next k ∙ ap some (sym l))
  ]

  -- at a root, if it is so below it
  at_turn : (deeper : List ℕ → Numbered → Resolved) (r : ℕ) (st : Numbered) → Earlier st.store
      → (is_var (vertex g r) ≡ false → Earlier (deeper (vertex g r).args st).state.store × Below (length (deeper (vertex g r).args st).state.store) (deeper (vertex g r).args st).patterns
      × (in_turn (length st.numbering) (met_all (terms_at (deeper (vertex g r).args st).state.store (deeper (vertex g r).args st).patterns)) ≡ some (length (deeper (vertex g r).args st).state.numbering)))
      → in_turn (length st.numbering) (met (term_of (resolve_at P g values true deeper r st).state.store (resolve_at P g values true deeper r st).pattern)) ≡ some (length (resolve_at P g values true deeper r st).state.numbering)
  unfolding resolve_at met is_variable
  at_turn deeper r st E below = elim (see (is_var (vertex g r))) [
    | is true w ↦ rw (w, resolve_at) (variable-turn r st E)
    | is false w ↦
        let args = deeper (vertex g r).args st in
        let B = below w in
        let n : Node = record { head = (vertex g r).head; args = args.patterns } in
        let I = interned args.state.store n in
        let p = intern args.state.store n in
        let L = I.earlier B.0 (below-args (length args.state.store) n B.1) in
        let v : is_variable (get_or p.store p.number no_node) ≡ false = rw I.is w in
        let t : met (term_of p.store p.number) ≡ met_all (terms_at args.state.store args.patterns) =
        ap met (term_applied p.store L p.number I.within v) ∙ ap (λ (m : Node). met_all (terms_at p.store m.args)) I.is ∙ ap met_all (terms_grow args.state.store p.store args.patterns I.grows B.1) in
        rw (w, resolve_at) (ap (in_turn (length st.numbering)) t ∙ B.2)
  ]

  -- "Variables are numbered as `resolve` meets them"
  pub met_in_turn : (d : ℕ) (xs : List ℕ) (st : Numbered) → Earlier st.store → all (λ x. ends d g x) xs ≡ true
      → in_turn (length st.numbering) (met_all (terms_at (resolve d P g values true xs st).state.store (resolve d P g values true xs st).patterns)) ≡ some (length (resolve d P g values true xs st).state.numbering)
  unfolding resolve in_turn met terms_at all ends
  met_in_turn zero [] st E e = refl
  met_in_turn zero (x ∷ xs) st E e = let p = and_parts (ends 0 g x) (all (λ y. ends 0 g y) xs) e in never (let z : false ≡ true = p.0 in cc)
  met_in_turn (suc d) [] st E e = refl
  met_in_turn (suc d) (x ∷ xs) st E e =
      let r = root g x in
      let p = and_parts (ends (suc d) g x) (all (λ y. ends (suc d) g y) xs) e in
      let deeper : List ℕ → Numbered → Resolved = λ ys s. resolve d P g values true ys s in
      let D = resolve_keeps P g values true d (vertex g r).args st in
      let first = resolve_at P g values true deeper r st in
      let A = at_keeps P g values true deeper r st D in
      let rest = resolve (suc d) P g values true xs first.state in
      let R = resolve_keeps P g values true (suc d) xs first.state in
      let one = at_turn deeper r st E (λ w. (D.0.earlier E, D.1, met_in_turn d (vertex g r).args st E (deep_ends g d x p.0 w))) in
      let two = met_in_turn (suc d) xs first.state (A.0.earlier E) p.1 in
      ap (λ (t : Term). in_turn (length st.numbering) (met t ++ met_all (terms_at rest.state.store rest.patterns))) (term_grows first.state.store rest.state.store first.pattern R.0.grows A.1)
      ∙ in_turn_then (length st.numbering) (met (term_of first.state.store first.pattern)) (met_all (terms_at rest.state.store rest.patterns)) (length first.state.numbering) one
      ∙ two
