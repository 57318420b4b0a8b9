-- Patterns of a sort that can be spoken of, and applications over them.
use Rattle.std.specs.Prelude.{◌≡◌, List, [], ◌∷◌, ℕ, ◌<◌, ◌≤◌, length}
use Rattle.std.proofs.Common.{sym, ap, ◌∙◌, subst, arith}
use Rattle.definition.specs.Pack.{Node, Pack, symbol_of}
use Rattle.definition.specs.Good.{Few}
use Rattle.definition.specs.Verdict.{Bound}
use Rattle.definition.specs.Store.{intern}
use Rattle.theory.specs.Copies.Copying.{pattern_sort}
use Rattle.theory.specs.Patterns.Interned.{Grows, grows_long}
use Rattle.emit_theory.specs.Stores.{Sorted, SortedStore}
use Rattle.emit_theory.specs.Spoken.{Spoken, SpokenAll, over, none, more, Named, spoken_grows, spokens_grow}
use Rattle.emit_theory.specs.Graph.Intern.{sort_grows, symbol-node, intern_application}

-- p is a pattern of the store, of this sort, and can be spoken of
pub record Of (P : Pack) (L : ℕ) (names : List Bound) (s : List Node) (so p : ℕ) : Type 0 where
  pub stored : p < length s
  pub sort : pattern_sort P s p ≡ so
  pub spoken : Spoken L names s p

-- patterns of these sorts, one for each
pub data AllOf (P : Pack) (L : ℕ) (names : List Bound) (s : List Node) : List ℕ → List ℕ → Type 0 where
  no_of : AllOf P L names s [] []
  of_more : (so p : ℕ) (sorts ps : List ℕ) → Of P L names s so p → AllOf P L names s sorts ps → AllOf P L names s (so ∷ sorts) (p ∷ ps)

module _ (P : Pack) (L : ℕ) where
  pub of_grows : (names names' : List Bound) (s t : List Node) → Named names names' → Grows s t → (so p : ℕ) → Of P L names s so p → Of P L names' t so p
  of_grows names names' s t N G so p O =
      let g = grows_long s t G in
      record { stored = omega (arith, O.stored); sort = sort_grows P s t G p O.stored ∙ O.sort; spoken = spoken_grows L names names' s t N G p O.spoken }

  pub all_of_grow : (names names' : List Bound) (s t : List Node) → Named names names' → Grows s t → (sorts ps : List ℕ) → AllOf P L names s sorts ps → AllOf P L names' t sorts ps
  all_of_grow names names' s t N G _ _ no_of = no_of
  all_of_grow names names' s t N G _ _ (of_more so p sorts ps O Os) = of_more so p sorts ps (of_grows names names' s t N G so p O) (all_of_grow names names' s t N G sorts ps Os)

  module _ (names : List Bound) where
    -- such patterns are sorted, and all can be spoken of
    pub all_sorted : (s : List Node) (sorts ps : List ℕ) → AllOf P L names s sorts ps → Sorted P s (length s) sorts ps
    all_sorted s _ _ no_of = tt
    all_sorted s _ _ (of_more so p sorts ps O Os) = (O.stored, O.sort, all_sorted s sorts ps Os)

    pub all_spoken : (s : List Node) (sorts ps : List ℕ) → AllOf P L names s sorts ps → SpokenAll L names s ps
    all_spoken s _ _ no_of = none
    all_spoken s _ _ (of_more so p sorts ps O Os) = more p ps O.spoken (all_spoken s sorts ps Os)

    -- the arguments of an application that can be spoken of
    pub all-args : (s : List Node) (i : ℕ) → i ≤ length s → (sorts ps : List ℕ) → Sorted P s i sorts ps → SpokenAll L names s ps → AllOf P L names s sorts ps
    all-args s i b [] [] h k = no_of
    all-args s i b [] (p ∷ ps) h k = absurd h
    all-args s i b (so ∷ sorts) [] h k = absurd h
    all-args s i b (so ∷ sorts) (p ∷ ps) h (more _ _ k ks) = of_more so p sorts ps (record { stored = omega (arith, h.0); sort = h.1; spoken = k }) (all-args s i b sorts ps h.2 ks)

    -- an application over such patterns is interned as one
    pub intern_of : Few P → (s : List Node) (h : ℕ) (sorts ps : List ℕ) → SortedStore P s → h < length P.symbols → (symbol_of P h).inputs ≡ sorts → AllOf P L names s sorts ps
        → let r = intern s (record { head = h; args = ps }) in SortedStore P r.store × Grows s r.store × Of P L names r.store (symbol_of P h).output r.number
    intern_of few s h sorts ps W l q As =
        let n : Node = record { head = h; args = ps } in
        let v = symbol-node P few n l in
        let H = intern_application P s n v W l (subst (λ x. Sorted P s (length s) x ps) (sym q) (all_sorted s sorts ps As)) in
        let r = intern s n in (
          H.sorted,
          H.grows,
          record {
            stored = H.within;
            sort = H.sort;
            spoken = over r.number H.within (rw H.is v) ps (ap (λ (x : Node). x.args) H.is) (spokens_grow L names names s r.store (λ p k z. (k, z)) H.grows ps (all_spoken s sorts ps As));
          },
        )
