-- Terms built from left to right over a stack of open ones: the same as the definition's building, step by step.
use Rattle.std.specs.Prelude.{◌≡◌, refl, ℕ}
use Rattle.std.proofs.Common.{sym, ◌∙◌}
use Rattle.std.proofs.Math.Path.{ap}
use mathlib.Core.List.{List, [], ◌∷◌, ◌++◌, append-nil, append_assoc}
use Rattle.std.proofs.Math.Option.{Option, none, some}
use Rattle.definition.specs.Pack.{Term, Terms, var, app, nil, cons, Node}
use Rattle.definition.specs.Verdict.{Bound, value_of}
use Rattle.definition.specs.Store.{intern}
use Rattle.emission.specs.Patterns.{Built, BuiltAll, build, build_all}
use Rattle.theory.specs.Patterns.Interned.{Grows, grows_none, grows_then, interned}

-- a symbol whose terms are being built: the patterns of the first of them, and the others
pub record Opened : Type 0 where
  pub head : ℕ
  pub given : List ℕ
  pub left : Terms

-- patterns, or none, with their store
abbrev pub built_all : Option (List ℕ) → List Node → BuiltAll
built_all o s = record { numbers = o; store = s }

-- patterns ahead of those that other terms were built to
unfoldable pub ahead : List ℕ → BuiltAll → BuiltAll
ahead ps b = elim b.numbers [ none ↦ record { numbers = none; store = b.store } | some qs ↦ record { numbers = some (ps ++ qs); store = b.store } ]

-- what all terms of an open symbol come to
abbrev pub terms_of : Opened → List Bound → List Node → BuiltAll
terms_of f env s = ahead f.given (build_all f.left env s)

-- one of them is built
abbrev pub giving : ℕ → Opened → Opened
giving p f = record { head = f.head; given = f.given ++ (p ∷ []); left = f.left }

-- what the outermost open symbol's terms come to, once those of the innermost, h, are built; the others are around it
unfoldable pub around : List Opened → ℕ → List Bound → BuiltAll → BuiltAll
unfolding ahead intern build_all
around [] h env b = b
around (f ∷ fs) h env b =
    elim b.numbers [
      | none ↦ record { numbers = none; store = b.store }
      | some ps ↦ let made = intern b.store (record { head = h; args = ps }) in around fs f.head env (terms_of (giving made.number f) env made.store)
    ]

-- the same from the innermost symbol's own terms on
unfoldable pub whole : Opened → List Opened → List Bound → List Node → BuiltAll
unfolding around
whole f fs env s = around fs f.head env (terms_of f env s)

-- ---- the definition's two steps
unfoldable pub over_terms : ℕ → BuiltAll → Built
unfolding intern
over_terms h b = elim b.numbers [ none ↦ record { number = none; store = b.store } | some ps ↦ let made = intern b.store (record { head = h; args = ps }) in record { number = some made.number; store = made.store } ]

-- a term, and then others over the store that it leaves
unfoldable pub and_then : Built → (List Node → BuiltAll) → BuiltAll
unfolding ahead
and_then b rest = elim b.number [ none ↦ record { numbers = none; store = b.store } | some p ↦ ahead (p ∷ []) (rest b.store) ]

-- nothing ahead
ahead_none : (o : Option (List ℕ)) (s : List Node) → ahead [] (built_all o s) ≡ built_all o s
unfolding ahead
ahead_none none s = refl
ahead_none (some ps) s = refl

-- first these, then those
ahead_twice : (ps qs : List ℕ) (o : Option (List ℕ)) (s : List Node) → ahead ps (ahead qs (built_all o s)) ≡ ahead (ps ++ qs) (built_all o s)
unfolding ahead
ahead_twice ps qs none s = refl
ahead_twice ps qs (some rs) s = ap (λ (l : List ℕ). built_all (some l) s) (sym (append_assoc ps qs rs))

-- where a variable has no value nothing comes of what is around it
around-none : (fs : List Opened) (h : ℕ) (env : List Bound) (s : List Node) → around fs h env (built_all none s) ≡ built_all none s
unfolding around
around-none [] h env s = refl
around-none (f ∷ fs) h env s = refl

module _ (h : ℕ) (got : List ℕ) (ts : Terms) (fs : List Opened) (env : List Bound) where
  -- an open symbol that still wants these terms
  abbrev opened : Terms → Opened
  opened us = record { head = h; given = got; left = us }

  -- a variable with a value
  pub whole-value : (k p : ℕ) (s : List Node) → value_of k env ≡ some p → whole (opened (cons (var k) ts)) fs env s ≡ whole (giving p (opened ts)) fs env s
  unfolding whole build and_then ahead
  whole-value k p s e =
      let b = build_all ts env s in
      ap (λ (o : Option ℕ). around fs h env (ahead got (and_then (record { number = o; store = s }) (λ u. build_all ts env u)))) e
      ∙ ap (around fs h env) (ahead_twice got (p ∷ []) b.numbers b.store)

  -- a variable without one
  pub whole-nothing : (k : ℕ) (s : List Node) → value_of k env ≡ none → whole (opened (cons (var k) ts)) fs env s ≡ built_all none s
  unfolding whole build and_then ahead
  whole-nothing k s e =
      ap (λ (o : Option ℕ). around fs h env (ahead got (and_then (record { number = o; store = s }) (λ u. build_all ts env u)))) e
      ∙ around-none fs h env s

  -- a symbol's terms, built to these or to none
  open_over : (g : ℕ) (o : Option (List ℕ)) (s : List Node) → around fs h env (ahead got (and_then (over_terms g (built_all o s)) (λ u. build_all ts env u))) ≡ around (opened ts ∷ fs) g env (built_all o s)
  unfolding around over_terms and_then ahead
  open_over g none s = around-none fs h env s
  open_over g (some ps) s =
      let made = intern s (record { head = g; args = ps }) in
      let b = build_all ts env made.store in
      ap (around fs h env) (ahead_twice got (made.number ∷ []) b.numbers b.store)

  -- a symbol
  pub whole_open : (g : ℕ) (us : Terms) (s : List Node) → whole (opened (cons (app g us) ts)) fs env s ≡ whole (record { head = g; given = []; left = us }) (opened ts ∷ fs) env s
  unfolding whole build over_terms and_then ahead
  whole_open g us s =
      let b = build_all us env s in
      open_over g b.numbers b.store ∙ ap (around (opened ts ∷ fs) g env) (sym (ahead_none b.numbers b.store))

module _ (h : ℕ) (got : List ℕ) (env : List Bound) (s : List Node) where
  -- an open symbol that wants none
  abbrev full : Opened
  full = record { head = h; given = got; left = nil }

  -- its terms are those that it has
  full_terms : terms_of full env s ≡ built_all (some got) s
  unfolding build ahead
  full_terms = ap (λ (l : List ℕ). built_all (some l) s) (append-nil got)

  -- a symbol all of whose terms are built
  pub whole_close : (f : Opened) (fs : List Opened) → let made = intern s (record { head = h; args = got }) in whole full (f ∷ fs) env s ≡ whole (giving made.number f) fs env made.store
  unfolding whole
  whole_close f fs = ap (around (f ∷ fs) h env) full_terms

  -- the outermost
  pub whole-done : whole full [] env s ≡ built_all (some got) s
  unfolding whole
  whole-done = full_terms

-- ahead of the first word
pub whole-begin : (h : ℕ) (ts : Terms) (env : List Bound) (s : List Node) → whole (record { head = h; given = []; left = ts }) [] env s ≡ build_all ts env s
unfolding whole
whole-begin h ts env s = let b = build_all ts env s in ahead_none b.numbers b.store

-- ---- the store only grows
ahead_store : (ps : List ℕ) (o : Option (List ℕ)) (s : List Node) → (ahead ps (built_all o s)).store ≡ s
unfolding ahead
ahead_store ps none s = refl
ahead_store ps (some qs) s = refl

-- a head over terms
over_grows : (h : ℕ) (s : List Node) (o : Option (List ℕ)) (t : List Node) → Grows s t → Grows s (over_terms h (built_all o t)).store
unfolding over_terms
over_grows h s none t G = G
over_grows h s (some ps) t G = let n : Node = record { head = h; args = ps } in grows_then s t (intern t n).store G (interned t n).grows

-- a term and then others
then_grows : (s : List Node) (o : Option ℕ) (t : List Node) (rest : List Node → BuiltAll) → Grows s t → Grows t (rest t).store → Grows s (and_then (record { number = o; store = t }) rest).store
unfolding and_then
then_grows s none t rest G H = G
then_grows s (some p) t rest G H = rw (ahead_store (p ∷ []) (rest t).numbers (rest t).store) (grows_then s t (rest t).store G H)

mutual
  unfolding build over_terms and_then ahead

  build_grows : (t : Term) (env : List Bound) (s : List Node) → Grows s (build t env s).store
  build_grows (var k) env s = grows_none s
  build_grows (app h ts) env s = let b = build_all ts env s in over_grows h s b.numbers b.store (all_grows ts env s)

  -- terms
  pub all_grows : (ts : Terms) (env : List Bound) (s : List Node) → Grows s (build_all ts env s).store
  all_grows nil env s = grows_none s
  all_grows (cons t ts) env s =
      let first = build t env s in
      then_grows s first.number first.store (λ u. build_all ts env u) (build_grows t env s) (all_grows ts env first.store)

-- those of an open symbol
terms_grow : (f : Opened) (env : List Bound) (s : List Node) → Grows s (terms_of f env s).store
terms_grow f env s = let b = build_all f.left env s in rw (ahead_store f.given b.numbers b.store) (all_grows f.left env s)

-- those of all open symbols
around_grows : (fs : List Opened) (h : ℕ) (env : List Bound) (o : Option (List ℕ)) (s : List Node) → Grows s (around fs h env (built_all o s)).store
unfolding around
around_grows [] h env o s = grows_none s
around_grows (f ∷ fs) h env none s = grows_none s
around_grows (f ∷ fs) h env (some ps) s =
    let n : Node = record { head = h; args = ps } in
    let made = intern s n in
    let b = terms_of (giving made.number f) env made.store in
    grows_then s made.store (around fs f.head env b).store (interned s n).grows
    (grows_then made.store b.store (around fs f.head env b).store (terms_grow (giving made.number f) env made.store) (around_grows fs f.head env b.numbers b.store))

-- to the end
pub whole_grows : (f : Opened) (fs : List Opened) (env : List Bound) (s : List Node) → Grows s (whole f fs env s).store
unfolding whole
whole_grows f fs env s = let b = terms_of f env s in grows_then s b.store (whole f fs env s).store (terms_grow f env s) (around_grows fs f.head env b.numbers b.store)
