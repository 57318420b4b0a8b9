-- A rule matched against a pattern of a sort that can be spoken of, and terms built from the values: all are such patterns.
use Rattle.std.specs.Prelude.{◌≡◌, refl, List, [], ◌∷◌, ℕ, ◌<◌, eqb, length, get_or}
use Rattle.std.proofs.Common.{sym, arith}
use Rattle.std.proofs.Math.Path.{subst}
use Rattle.std.proofs.Math.Bool.{true, false}
use Rattle.std.proofs.Math.Option.{Option, none, some}
use borrow.Author.Tests.{eqb-true}
use Rattle.definition.specs.Test.{is, see, never}
use Rattle.definition.specs.Pack.{Term, Terms, var, app, nil, cons, Node, no_node, Pack, symbol_of, node_of}
use Rattle.definition.specs.Good.{Sorted as SortedTerm, SortedAll as SortedTerms, Few}
use Rattle.definition.specs.Verdict.{Bound, value_of, bound, provided, onwards, matches, match_all}
use Rattle.definition.specs.Store.{is_variable, intern}
use Rattle.definition.specs.Analysis.{pairing}
use Rattle.emission.specs.Patterns.{over as packOver, Built, BuiltAll, build, build_all}
use Rattle.theory.specs.Copies.Copying.{looked, newest, older}
use Rattle.theory.specs.Patterns.Interned.{Grows, grows_none, grows_then}
use Rattle.emit_theory.specs.Stores.{Sorted, SortedStore}
use Rattle.emit_theory.specs.Spoken.{Spoken, SpokenAll, is_L, named, over}
use Rattle.emit_theory.specs.Graph.Intern.{symbol-node}
use Rattle.emit_theory.specs.Patterns.{Of, AllOf, no_of, of_more, of_grows, all-args, intern_of}

module _ (P : Pack) (few : Few P) (L : ℕ) (names : List Bound) (vars : List ℕ) where
  -- values of a rule's variables: patterns of their sorts
  abbrev pub Values : List Node → List Bound → Type 0
  Values s bs = (k p : ℕ) → value_of k bs ≡ some p → Of P L names s (get_or vars k 0) p

  pub values-grow : (s t : List Node) → Grows s t → (bs : List Bound) → Values s bs → Values t bs
  values-grow s t G bs F k p e = of_grows P L names names s t (λ q n h. (n, h)) G (get_or vars k 0) p (F k p e)

  -- ---- matching
  -- what can be spoken of below an application; a variable is no application
  module _ (s : List Node) (W : SortedStore P s) (variables : (p : ℕ) → (p ≡ L) → is_variable (get_or s p no_node) ≡ true) (cases : (p k : ℕ) → value_of p names ≡ some k → is_variable (get_or s p no_node) ≡ true) where
    pub below_spoken : (p : ℕ) → Spoken L names s p → is_variable (get_or s p no_node) ≡ false → SpokenAll L names s (get_or s p no_node).args
    below_spoken _ (is_L p i) v = never (let z = variables p i in cc)
    below_spoken _ (named p k h) v = never (let z = cases p k h in cc)
    below_spoken _ (over p l w args a h) v = rw a h

    arguments : (n h : ℕ) → h < length P.symbols → Of P L names s (symbol_of P h).output n → eqb (node_of (packOver P s) n).head h ≡ true → AllOf P L names s (symbol_of P h).inputs (node_of (packOver P s) n).args
    unfolding node_of
    arguments n h l O e =
        let q : (get_or s n no_node).head ≡ h = eqb-true (get_or s n no_node).head h e in
        let v = symbol-node P few (get_or s n no_node) (rw q l) in
        let A = (W n O.stored).args v in
        all-args P L names s n (omega (arith, O.stored)) (symbol_of P h).inputs (get_or s n no_node).args (subst (λ x. Sorted P s n (symbol_of P x).inputs (get_or s n no_node).args) q A) (below_spoken n O.spoken v)

    bound-values : (k n : ℕ) (bs cs : List Bound) → Of P L names s (get_or vars k 0) n → Values s bs → bound k n bs (value_of k bs) ≡ some cs → Values s cs
    unfolding bound
    bound-values k n bs cs O F e = elim (see (value_of k bs)) [
      | is none q ↦
          let z : pairing k n ∷ bs ≡ cs = some_eq (rw (q, bound) at e) in
          subst (Values s) z (λ m p r. elim (looked k n bs m p r) [ newest i j ↦ rw (i, j) O | older y ↦ F m p y ])
      | is (some m) q ↦ elim (see (eqb m n)) [
        | is true t ↦ let z : bs ≡ cs = some_eq (rw (q, t, bound) at e) in subst (Values s) z F
        | is false t ↦ never (let z : none ≡ some cs = rw (q, t, bound) at e in cc)
      ]
    ]
      where
        some_eq : {A : Type 0} {a b : A} → some a ≡ some b → a ≡ b
        some_eq e = cc

    mutual
      unfolding matches

      -- the values that a match gives
      pub match_values : (t : Term) (so n : ℕ) (bs cs : List Bound) → SortedTerm P vars t so → Of P L names s so n → Values s bs → matches (packOver P s) t n bs ≡ some cs → Values s cs
      match_values (var k) so n bs cs T O F e = bound-values k n bs cs (subst (λ x. Of P L names s x n) (sym T.1) O) F e
      match_values (app h ts) so n bs cs T O F e = elim (see (eqb (node_of (packOver P s) n).head h)) [
        | is true t ↦ match_all-values ts (symbol_of P h).inputs (node_of (packOver P s) n).args bs cs T.2 (arguments n h T.0 (subst (λ x. Of P L names s x n) (sym T.1) O) t) F (rw (t, provided) at e)
        | is false t ↦ never (let z : none ≡ some cs = rw (t, provided) at e in cc)
      ]

      match_all-values : (ts : Terms) (sorts ns : List ℕ) (bs cs : List Bound) → SortedTerms P vars ts sorts → AllOf P L names s sorts ns → Values s bs → match_all (packOver P s) ts ns bs ≡ some cs → Values s cs
      match_all-values nil _ _ bs cs T no_of F e = let z : bs ≡ cs = (let y : some bs ≡ some cs = e in cc) in subst (Values s) z F
      match_all-values nil _ _ bs cs T (of_more so n sorts ns O Os) F e = never (cc)
      match_all-values (cons t ts) _ _ bs cs T no_of F e = never (cc)
      match_all-values (cons t ts) _ _ bs cs T (of_more so n sorts ns O Os) F e = elim (see (matches (packOver P s) t n bs)) [
        | is none q ↦ never (let z : none ≡ some cs = rw (q, onwards) at e in cc)
        | is (some ds) q ↦ match_all-values ts sorts ns ds cs T.1 Os (match_values t so n bs ds T.0 O F q) (rw (q, onwards) at e)
      ]

  -- ---- building
  pub record BuiltOf (s : List Node) (so : ℕ) (b : Built) : Type 0 where
    pub sorted : SortedStore P b.store
    pub grows : Grows s b.store
    pub pattern : (p : ℕ) → b.number ≡ some p → Of P L names b.store so p

  pub record AllBuilt (s : List Node) (sorts : List ℕ) (b : BuiltAll) : Type 0 where
    pub sorted : SortedStore P b.store
    pub grows : Grows s b.store
    pub patterns : (ps : List ℕ) → b.numbers ≡ some ps → AllOf P L names b.store sorts ps

  -- a term's own pattern over its arguments'
  built-over : (h : ℕ) (s : List Node) (b : BuiltAll) → h < length P.symbols → AllBuilt s (symbol_of P h).inputs b → (o : Option (List ℕ)) → b.numbers ≡ o → BuiltOf s (symbol_of P h).output (
      elim o as (λ _. Built) [ none ↦ record { number = none; store = b.store } | some ps ↦ let made = intern b.store (record { head = h; args = ps }) in record { number = some made.number; store = made.store } ])
  built-over h s b l A none e = record { sorted = A.sorted; grows = A.grows; pattern = λ p z. never (cc) }
  built-over h s b l A (some ps) e =
      let r = intern b.store (record { head = h; args = ps }) in
      let I = intern_of P L names few b.store h (symbol_of P h).inputs ps A.sorted l refl (A.patterns ps e) in
      record {
        sorted = I.0;
        grows = grows_then s b.store r.store A.grows I.1;
        pattern = λ p z. let i : r.number ≡ p = (let y : some r.number ≡ some p = z in cc) in subst (λ x. Of P L names r.store (symbol_of P h).output x) i I.2;
      }

  -- terms behind a term
  built-behind : (s : List Node) (so : ℕ) (sorts : List ℕ) (b : Built) (rest : BuiltAll) → BuiltOf s so b → AllBuilt b.store sorts rest → (o : Option ℕ) → b.number ≡ o → (os : Option (List ℕ)) → rest.numbers ≡ os
      → AllBuilt s (so ∷ sorts) (elim o as (λ _. BuiltAll) [
        | none ↦ record { numbers = none; store = b.store }
        | some p ↦ elim os as (λ _. BuiltAll) [ none ↦ record { numbers = none; store = rest.store } | some ps ↦ record { numbers = some (p ∷ ps); store = rest.store } ]
      ])
  built-behind s so sorts b rest B R none e os f = record { sorted = B.sorted; grows = B.grows; patterns = λ ps z. never (cc) }
  built-behind s so sorts b rest B R (some p) e none f = record { sorted = R.sorted; grows = grows_then s b.store rest.store B.grows R.grows; patterns = λ ps z. never (cc) }
  built-behind s so sorts b rest B R (some p) e (some qs) f = record {
    sorted = R.sorted;
    grows = grows_then s b.store rest.store B.grows R.grows;
    patterns = λ ps z.
        let i : p ∷ qs ≡ ps = (let y : some (p ∷ qs) ≡ some ps = z in cc) in
        subst (AllOf P L names rest.store (so ∷ sorts)) i (of_more so p sorts qs (of_grows P L names names b.store rest.store (λ q n h. (n, h)) R.grows so p (B.pattern p e)) (R.patterns qs f));
  }

  mutual
    unfolding build

    -- a term built from values
    pub build_of : (t : Term) (so : ℕ) (env : List Bound) (s : List Node) → SortedStore P s → SortedTerm P vars t so → Values s env → BuiltOf s so (build t env s)
    build_of (var k) so env s W T F = record { sorted = W; grows = grows_none s; pattern = λ p e. subst (λ x. Of P L names s x p) T.1 (F k p e) }
    build_of (app h ts) so env s W T F =
        let A = build_all_of ts (symbol_of P h).inputs env s W T.2 F in
        let args = build_all ts env s in
        subst (λ x. BuiltOf s x (build (app h ts) env s)) T.1 (built-over h s args T.0 A args.numbers refl)

    pub build_all_of : (ts : Terms) (sorts : List ℕ) (env : List Bound) (s : List Node) → SortedStore P s → SortedTerms P vars ts sorts → Values s env → AllBuilt s sorts (build_all ts env s)
    build_all_of nil [] env s W T F = record { sorted = W; grows = grows_none s; patterns = λ ps e. let i : [] ≡ ps = (let y : some [] ≡ some ps = e in cc) in subst (AllOf P L names s []) i no_of }
    build_all_of nil (so ∷ sorts) env s W T F = absurd T
    build_all_of (cons t ts) [] env s W T F = absurd T
    build_all_of (cons t ts) (so ∷ sorts) env s W T F =
        let first = build t env s in
        let B = build_of t so env s W T.0 F in
        let rest = build_all ts env first.store in
        let R = build_all_of ts sorts env first.store B.sorted T.1 (values-grow s first.store B.grows env F) in
        built-behind s so sorts first rest B R first.number refl rest.numbers refl
