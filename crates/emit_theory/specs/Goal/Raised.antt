-- A use's arguments raised one by one, and patterns put for the open one: all of the sorts wanted.
use Rattle.std.specs.Prelude.{◌≡◌, refl, ℕ, suc, ◌+◌, ◌<◌, eqb, length, get_or}
use Rattle.std.proofs.Common.{sym, ◌∙◌, eqb-true}
use Rattle.std.proofs.Math.Path.{subst}
use Rattle.std.proofs.Math.Bool.{true, false}
use mathlib.Core.List.{List, [], ◌∷◌, ◌++◌, append_assoc, append-nil}
use Rattle.std.proofs.Math.Option.{Option, none, some}
use native.Mathlib.Omega.{arith}
use Rattle.definition.specs.Test.{is, see, never}
use Rattle.definition.specs.Pack.{Node, Pack}
use Rattle.definition.specs.Good.{Below}
use Rattle.definition.specs.Graph.{Graph}
use Rattle.emission.specs.Global.{Reading, raise, raise_levels}
use Rattle.emission.specs.Choose.{Arguments, raise_each, open_places, of_sort, filled}
use Rattle.theory.specs.Unification.Solve.{SortsAt}
use Rattle.theory.specs.Patterns.Interned.{Grows, grows_none, grows_then}
use Rattle.emit_theory.specs.Graphs.{SortedGraph}
use Rattle.emit_theory.specs.Graph.Read.{RaisedTo, RaisedToAll, Reads, raised_grows}
use Rattle.emit_theory.specs.Graph.Raise.{raise_sorted}
use Rattle.emit_theory.specs.Patterns.{Of, AllOf, no_of, of_more, of_grows}
use Rattle.emit_theory.specs.Goal.Lift.{no_names}

module _ (P : Pack) (L : ℕ) (g : Graph) where
  -- an argument's pattern, or none
  abbrev Argument : List Node → ℕ → Option ℕ → Type 0
  Argument s x none = Unit {0}
  Argument s x (some p) = RaisedTo P L [] g s x p

  -- arguments beside theirs
  abbrev pub RaisedEach : List Node → List ℕ → List (Option ℕ) → Type 0
  RaisedEach s [] [] = Unit {0}
  RaisedEach s [] (o ∷ os) = ⊥
  RaisedEach s (x ∷ xs) [] = ⊥
  RaisedEach s (x ∷ xs) (o ∷ os) = Argument s x o × RaisedEach s xs os

  argument_grows : (s t : List Node) → Grows s t → (x : ℕ) (o : Option ℕ) → Argument s x o → Argument t x o
  argument_grows s t G x none A = tt
  argument_grows s t G x (some p) A = raised_grows P L [] g s t G x p A

  each_grows : (s t : List Node) → Grows s t → (xs : List ℕ) (os : List (Option ℕ)) → RaisedEach s xs os → RaisedEach t xs os
  each_grows s t G [] [] A = tt
  each_grows s t G [] (o ∷ os) A = absurd A
  each_grows s t G (x ∷ xs) [] A = absurd A
  each_grows s t G (x ∷ xs) (o ∷ os) A = (argument_grows s t G x o A.0, each_grows s t G xs os A.1)

  each_more : (s : List Node) (xs : List ℕ) (os : List (Option ℕ)) (x : ℕ) (o : Option ℕ) → RaisedEach s xs os → Argument s x o → RaisedEach s (xs ++ (x ∷ [])) (os ++ (o ∷ []))
  each_more s [] [] x o A N = (N, tt)
  each_more s [] (p ∷ os) x o A N = absurd A
  each_more s (y ∷ xs) [] x o A N = absurd A
  each_more s (y ∷ xs) (p ∷ os) x o A N = (A.0, each_more s xs os x o A.1 N)

  -- what raising arguments comes to
  pub record Arguing (m : Reading) (xs : List ℕ) (v : Arguments) : Type 0 where
    pub grows : Grows m.store v.reading.store
    pub reads : Reads P L [] g v.reading
    pub each : RaisedEach v.reading.store xs v.raised

  -- the first pattern of those that one node was raised to
  first_raised : (s : List Node) (x : ℕ) (o : Option (List ℕ)) → ((ps : List ℕ) → o ≡ some ps → RaisedToAll P L [] g s (x ∷ []) ps) → Argument s x (elim o as (λ _. Option ℕ) [ none ↦ none | some ps ↦ some (get_or ps 0 0) ])
  first_raised s x none h = tt
  first_raised s x (some []) h = absurd (h [] refl)
  first_raised s x (some (p ∷ ps)) h = (h (p ∷ ps) refl).0

  module _ (S : SortedGraph P g) where
    -- arguments behind those raised
    pub each_raised : (xs before : List ℕ) (w : Arguments) → Below (length g) xs → Reads P L [] g w.reading → RaisedEach w.reading.store before w.raised → Arguing w.reading (before ++ xs) (raise_each L g xs w)
    unfolding raise_each
    each_raised [] before w b R A = record { grows = grows_none w.reading.store; reads = R; each = subst (λ l. RaisedEach w.reading.store l w.raised) (sym (append-nil before)) A }
    each_raised (x ∷ xs) before w b R A =
        let one = raise raise_levels L g (x ∷ []) w.reading in
        let O = raise_sorted P L [] g S raise_levels (x ∷ []) w.reading (b.0, tt) R in
        let s = w.reading.store in
        let t = one.reading.store in
        let o = elim one.patterns as (λ _. Option ℕ) [ none ↦ none | some ps ↦ some (get_or ps 0 0) ] in
        let v : Arguments = record { raised = w.raised ++ (o ∷ []); reading = one.reading } in
        let V' = each_raised xs (before ++ (x ∷ [])) v b.1 O.reads (each_more t before w.raised x o (each_grows s t O.grows before w.raised A) (first_raised t x one.patterns O.patterns)) in
        let z = raise_each L g xs v in
        record { grows = grows_then s t z.reading.store O.grows V'.grows; reads = V'.reads; each = subst (λ l. RaisedEach z.reading.store l z.raised) (append_assoc before (x ∷ []) xs) V'.each }

-- ---- patterns beside sorts, the open ones being of sort so
module _ (P : Pack) (L : ℕ) where
  -- a pattern of each sort, or none where the sort is so
  abbrev pub Filling : List Node → ℕ → List ℕ → List (Option ℕ) → Type 0
  Filling s so [] [] = Unit {0}
  Filling s so [] (o ∷ os) = ⊥
  Filling s so (t ∷ ts) [] = ⊥
  Filling s so (t ∷ ts) (none ∷ os) = (t ≡ so) × Filling s so ts os
  Filling s so (t ∷ ts) (some p ∷ os) = Of P L [] s t p × Filling s so ts os

  -- candidates of a sort
  abbrev pub Candidates : List Node → ℕ → List ℕ → Type 0
  Candidates s so [] = Unit {0}
  Candidates s so (c ∷ cs) = Of P L [] s so c × Candidates s so cs

  -- they are so in a store that has grown
  pub filling_grows : (s t : List Node) → Grows s t → (so : ℕ) (ts : List ℕ) (os : List (Option ℕ)) → Filling s so ts os → Filling t so ts os
  filling_grows s t G so [] [] F = tt
  filling_grows s t G so [] (o ∷ os) F = absurd F
  filling_grows s t G so (u ∷ ts) [] F = absurd F
  filling_grows s t G so (u ∷ ts) (none ∷ os) F = (F.0, filling_grows s t G so ts os F.1)
  filling_grows s t G so (u ∷ ts) (some p ∷ os) F = (of_grows P L [] [] s t (no_names []) G u p F.0, filling_grows s t G so ts os F.1)

  -- candidates are
  pub candidates_grow : (s t : List Node) → Grows s t → (so : ℕ) (cs : List ℕ) → Candidates s so cs → Candidates t so cs
  candidates_grow s t G so [] C = tt
  candidates_grow s t G so (c ∷ cs) C = (of_grows P L [] [] s t (no_names []) G so c C.0, candidates_grow s t G so cs C.1)

  -- a candidate more
  pub candidates_more : (s : List Node) (so : ℕ) (cs : List ℕ) (c : ℕ) → Candidates s so cs → Of P L [] s so c → Candidates s so (cs ++ (c ∷ []))
  candidates_more s so [] c C N = (N, tt)
  candidates_more s so (d ∷ cs) c C N = (C.0, candidates_more s so cs c C.1 N)

  -- a candidate put for the open ones
  pub filled_of : (s : List Node) (so c : ℕ) → Of P L [] s so c → (ts : List ℕ) (os : List (Option ℕ)) → Filling s so ts os → AllOf P L [] s ts (filled c os)
  unfolding filled
  filled_of s so c O [] [] F = no_of
  filled_of s so c O [] (o ∷ os) F = absurd F
  filled_of s so c O (t ∷ ts) [] F = absurd F
  filled_of s so c O (t ∷ ts) (none ∷ os) F = of_more t c ts (filled c os) (subst (λ x. Of P L [] s x c) (sym F.0) O) (filled_of s so c O ts os F.1)
  filled_of s so c O (t ∷ ts) (some p ∷ os) F = of_more t p ts (filled c os) F.0 (filled_of s so c O ts os F.1)

  -- the arguments of a sort are candidates
  pub sort_candidates : (s : List Node) (so tu : ℕ) (ts : List ℕ) (os : List (Option ℕ)) → Filling s tu ts os → Candidates s so (of_sort so ts os)
  unfolding of_sort
  sort_candidates s so tu [] [] F = tt
  sort_candidates s so tu [] (o ∷ os) F = absurd F
  sort_candidates s so tu (t ∷ ts) [] F = absurd F
  sort_candidates s so tu (t ∷ ts) (none ∷ os) F = sort_candidates s so tu ts os F.1
  sort_candidates s so tu (t ∷ ts) (some p ∷ os) F = elim (see (eqb t so)) [
    | is true e ↦ rw (e, of_sort) (subst (λ x. Of P L [] s x p) (eqb-true t so e) F.0, sort_candidates s so tu ts os F.1)
    | is false e ↦ rw (e, of_sort) (sort_candidates s so tu ts os F.1)
  ]

  -- ---- arguments with one open place
  module _ (g : Graph) where
    none_open : (s : List Node) (so i : ℕ) (xs ts : List ℕ) (os : List (Option ℕ)) → SortsAt P g xs ts → RaisedEach P L g s xs os → open_places os i ≡ [] → Filling s so ts os
    unfolding open_places
    none_open s so i [] [] [] q A e = tt
    none_open s so i [] [] (o ∷ os) q A e = absurd A
    none_open s so i [] (t ∷ ts) os q A e = absurd q
    none_open s so i (x ∷ xs) [] os q A e = absurd q
    none_open s so i (x ∷ xs) (t ∷ ts) [] q A e = absurd A
    none_open s so i (x ∷ xs) (t ∷ ts) (none ∷ os) q A e = never (cc)
    none_open s so i (x ∷ xs) (t ∷ ts) (some p ∷ os) q A e = (record { stored = A.0.within; sort = A.0.sort ∙ q.0; spoken = A.0.spoken }, none_open s so (suc i) xs ts os q.1 A.1 e)

    -- the open ones have the sort of that place
    pub one_open : (s : List Node) (i k : ℕ) (xs ts : List ℕ) (os : List (Option ℕ)) → SortsAt P g xs ts → RaisedEach P L g s xs os → open_places os i ≡ k ∷ []
        → (o : ℕ) × (k ≡ i + o) × (o < length ts) × Filling s (get_or ts o 0) ts os
    unfolding open_places
    one_open s i k [] [] [] q A e = never (cc)
    one_open s i k [] [] (o ∷ os) q A e = absurd A
    one_open s i k [] (t ∷ ts) os q A e = absurd q
    one_open s i k (x ∷ xs) [] os q A e = absurd q
    one_open s i k (x ∷ xs) (t ∷ ts) [] q A e = absurd A
    one_open s i k (x ∷ xs) (t ∷ ts) (none ∷ os) q A e =
        let a : i ≡ k = cc in
        let b : open_places os (suc i) ≡ [] = cc in
        (0, omega arith, omega arith, (refl, none_open s t (suc i) xs ts os q.1 A.1 b))
    one_open s i k (x ∷ xs) (t ∷ ts) (some p ∷ os) q A e =
        let R = one_open s (suc i) k xs ts os q.1 A.1 e in
        (suc R.0, omega (arith, R.1), omega (arith, R.2), (record { stored = A.0.within; sort = A.0.sort ∙ q.0; spoken = A.0.spoken }, R.3))
