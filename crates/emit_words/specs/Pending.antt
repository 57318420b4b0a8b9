-- The patterns on the way to a judgment's line that wait for words, the next one on top, and what a turn does to them.
use Rattle.std.proofs.Math.Path.{◌≡◌, refl, ap, subst}
use Rattle.std.proofs.Common.{sym, ◌∙◌, le-leb}
use Rattle.std.proofs.Math.Bool.{true, false}
use mathlib.Core.List.{List, [], ◌∷◌, ◌++◌}
use Rattle.std.proofs.Math.Option.{Option, none, some}
use Rattle.std.specs.Prelude.{ℕ, zero, suc, ◌+◌, ◌<◌, ◌≤◌}
use native.Mathlib.Omega.{arith}
use Rattle.std.proofs.lemmas.Bool.{lt-leb}
use Rattle.std.proofs.Math.ListN.{length, get_or}
use Rattle.definition.specs.Pack.{Node, prop}
use Rattle.definition.specs.Good.{Below}
use Rattle.definition.specs.Verdict.{Bound}
use Rattle.definition.specs.Store.{is_variable}
use Rattle.definition.proofs.Laws.Grow.{below_at}
use Rattle.definition.specs.Frame.{Read, refuse}
use Rattle.definition.specs.Answer.{Lent}
use Rattle.definition.specs.Run.{Note, Run, behind, ◌>>=◌ as ◌>>=r◌, length_of, has_room_for, outcome}
use Rattle.definition.specs.declared.Refusal.TheVariants.{Short}
use Rattle.emission.specs.Line.{Word, Judgment, def_line, defined, tally}
use Rattle.emission.specs.Render.{proof_text}
use Rattle.emission.specs.State.{Emitter, Setting, Tried, go_on, ◌>>=◌}
use Rattle.emission.specs.Words.{pattern_of, word_of, define, judgment}
use Rattle.theory.specs.Copies.Terms.{Earlier, below-applied}
use Rattle.theory.specs.Patterns.Interned.{with, grows_none}
use Rattle.emit_theory.specs.Came.{came, then_some}
use Rattle.emit_theory.specs.Outcomes.{ran, outcome-note}
use Rattle.emit_theory.specs.Stores.{sorted_earlier}
use Rattle.emit_theory.specs.Spoken.{Spoken, SpokenAll, none, more}
use Rattle.emit_theory.specs.Sound.{Sound, Grew}
use Rattle.emit_theory.specs.Search.Naming.{Speaks, speaks_stored, speaks_args, speaks_on, words_comes}
use Rattle.emit_theory.specs.Search.Proving.{Has, judgment-applied}
use Rattle.emit_state.specs.Searches.{then_assoc}
use Rattle.emit_words.specs.Searches.{then_same, then_went, then_quiet}
use Rattle.emit_words.specs.Naming.{Spells, lacks, with_def, spells_def, define_is}
use Rattle.emit_words.specs.Enough.{Sits, naming, namings, words_are, naming_lacks}
use Rattle.emit_words.specs.First.{Worded, naming-first, judgment-first}

-- patterns are named from the top on, and then the judgment
unfoldable pub pending : Setting → ℕ → List ℕ → Emitter → Run (Tried Judgment)
unfolding naming judgment
pending S j [] = judgment S j
pending S j (p ∷ ps) = naming S p >>= λ _. pending S j ps

-- what is to be looked at next: the top, or the judgment itself
abbrev pub top_of : ℕ → List ℕ → ℕ
top_of j [] = j
top_of j (p ∷ ps) = p

-- patterns without words, each above the one that it is an argument of
abbrev pub Waits : Setting → Emitter → ℕ → ℕ → List ℕ → Type 0
Waits S e low j [] = Unit {0}
Waits S e low j (p ∷ ps) = (low ≤ p) × (p + length ps < j) × (word_of e p ≡ none) × Speaks S e p × Waits S e (suc p) j ps

-- one of the patterns that can be spoken of
spoken_at : (L : ℕ) (names : List Bound) (s : List Node) (ps : List ℕ) (i : ℕ) → SpokenAll L names s ps → i < length ps → Spoken L names s (get_or ps i 0)
spoken_at L names s _ i none l = absurd (omega arith)
spoken_at L names s _ zero (more p ps h hs) l = h
spoken_at L names s _ (suc i) (more p ps h hs) l = spoken_at L names s ps i hs (omega arith)

module _ (S : Setting) where
  -- the bound below may be less
  waits_lower : (e : Emitter) (low j : ℕ) (ps : List ℕ) → Waits S e low j ps → Waits S e 0 j ps
  waits_lower e low j [] h = tt
  waits_lower e low j (p ∷ ps) h = (omega arith, h.1, h.2, h.3, h.4)

  -- or more, up to the top
  waits_raise : (e : Emitter) (low j a : ℕ) (ps : List ℕ) → a < top_of j ps → Waits S e low j ps → Waits S e (suc a) j ps
  waits_raise e low j a [] l h = tt
  waits_raise e low j a (p ∷ ps) l h = (l, h.1, h.2, h.3, h.4)

  -- patterns wait in a later state that gave them no word
  waits_spelt : (e e' : Emitter) (d j : ℕ) (ps : List ℕ) → Spells d e e' → Grew e e' → Waits S e d j ps → Waits S e' d j ps
  waits_spelt e e' d j [] N G h = tt
  waits_spelt e e' d j (p ∷ ps) N G h =
      (h.0, h.1, N.above p h.0 ∙ h.2, speaks_on S e e' G p h.3, waits_spelt e e' (suc p) j ps (record { kept = N.kept; keeps = N.keeps; above = λ q l. N.above q (let z = h.0 in omega arith) }) G h.4)

  -- there is room for one more, and none is beyond the judgment
  pub waits_few : (e : Emitter) (low j : ℕ) (ps : List ℕ) → Waits S e low j ps → (length ps ≤ j) × (top_of j ps ≤ j)
  waits_few e low j [] h = (omega arith, omega arith)
  waits_few e low j (p ∷ ps) h = let z = h.1 in (omega arith, omega arith)

  module _ (e : Emitter) (s : Sound S e) where
    -- nodes rest on earlier ones
    earlier : Earlier e.kept.store
    earlier = sorted_earlier S.pack e.kept.store s.sorted

    -- a pattern of the store
    sits_one : (p : ℕ) → p < length e.kept.store → Sits e (p ∷ [])
    sits_one p l = record { earlier = earlier; within = (l, tt) }

    -- the top is an application that can be spoken of
    top_speaks : (j : ℕ) → Has S e prop j → (ps : List ℕ) → Waits S e 0 j ps → Speaks S e (top_of j ps) × (is_variable (pattern_of e (top_of j ps)) ≡ false)
    top_speaks j H [] h = (H.spoken, judgment-applied S e s j H)
    top_speaks j H (p ∷ ps) h = (h.3, (lacks e p h.2).applied)

    -- it is stored
    pub top-stored : (j : ℕ) → Has S e prop j → (ps : List ℕ) → Waits S e 0 j ps → top_of j ps < length e.kept.store
    top-stored j H ps h = speaks_stored S e s (top_of j ps) (top_speaks j H ps h).0

    -- it is no variable
    pub top-applied : (j : ℕ) → Has S e prop j → (ps : List ℕ) → Waits S e 0 j ps → is_variable (pattern_of e (top_of j ps)) ≡ false
    top-applied j H ps h = (top_speaks j H ps h).1

    -- its arguments stand before it
    pub top_below : (j : ℕ) → Has S e prop j → (ps : List ℕ) → Waits S e 0 j ps → Below (top_of j ps) (pattern_of e (top_of j ps)).args
    top_below j H ps h = subst (Below (top_of j ps)) (below-applied (pattern_of e (top_of j ps)) (top_speaks j H ps h).1) (earlier (top_of j ps) (top-stored j H ps h))

    -- the first argument of the top that has no word goes on top
    module _ (j : ℕ) (H : Has S e prop j) (ps : List ℕ) (W : Waits S e 0 j ps) (i : ℕ) (l : i < length (pattern_of e (top_of j ps)).args) where
      -- it waits
      pub push_waits : word_of e (get_or (pattern_of e (top_of j ps)).args i 0) ≡ none → Waits S e 0 j (get_or (pattern_of e (top_of j ps)).args i 0 ∷ ps)
      push_waits q =
          let t = top_of j ps in
          let low : get_or (pattern_of e t).args i 0 < t = below_at t (pattern_of e t).args i (top_below j H ps W) l in
          let T = top_speaks j H ps W in
          (omega arith, room ps W (get_or (pattern_of e t).args i 0) low, q, spoken_at S.eigen e.undone.names e.kept.store (pattern_of e t).args i (speaks_args S e s t T.0 T.1) l, waits_raise e 0 j (get_or (pattern_of e t).args i 0) ps low W)
        where
          room : (qs : List ℕ) → Waits S e 0 j qs → (a : ℕ) → a < top_of j qs → a + length qs < j
          room [] h a m = omega arith
          room (p ∷ qs) h a m = let z = h.1 in omega arith

      -- as much is to do
      pub push-same : Worded e (pattern_of e (top_of j ps)).args i → pending S j ps e ≡ pending S j (get_or (pattern_of e (top_of j ps)).args i 0 ∷ ps) e
      unfolding pending
      push-same h = by ps W l h
        where
          by : (qs : List ℕ) → Waits S e 0 j qs → i < length (pattern_of e (top_of j qs)).args → Worded e (pattern_of e (top_of j qs)).args i
              → pending S j qs e ≡ (naming S (get_or (pattern_of e (top_of j qs)).args i 0) >>= λ _. pending S j qs) e
          by [] X m k = judgment-first S j i e (sits_one j H.stored) (judgment-applied S e s j H) m k
          by (p ∷ qs) X m k =
              let a = get_or (pattern_of e p).args i 0 in
              let low : a < p = below_at p (pattern_of e p).args i (top_below j H (p ∷ qs) X) m in
              then_same (naming S p) (naming S a >>= λ _. naming S p) (λ _. pending S j qs) e (naming-first S p i e (sits_one p (speaks_stored S e s p X.3)) X.2 m k low)
              ∙ then_assoc (naming S a) (λ _. naming S p) (λ _. pending S j qs) e

    -- a pattern all of whose arguments have words is defined
    module _ (p : ℕ) (h : Speaks S e p) (q : word_of e p ≡ none) (ws : List Word) (had : namings S (pattern_of e p).args e ≡ came [] (some ws) e) where
      -- naming it is defining it
      naming_defines : naming S p e ≡ define S p ws e
      naming_defines = naming_lacks S p e (sits_one p (speaks_stored S e s p h)) q ∙ then_quiet (namings S (pattern_of e p).args) e ws (λ vs. define S p vs) had

      -- the state has grown
      pub grew_def : Grew e (with_def p ws e)
      grew_def = record { lines = with (def_line (pattern_of e p).head ws ∷ []) refl; store = grows_none e.kept.store; names = λ r k z. (k, z) }

      -- the state stays sound
      pub sound_define : Sound S (with_def p ws e)
      unfolding namings ◌>>=◌ ◌>>=r◌ go_on behind
      sound_define =
          let C = words_comes S (suc p) (p ∷ []) e s (more p [] h none) (omega arith, tt) in
          let z = words_are S (suc p) (p ∷ []) e (sits_one p (speaks_stored S e s p h)) (omega arith, tt)
          ∙ then_some (naming S p) _ e (with_def p ws e) _ (defined (tally e.undone.lines).definitions) [] (some (defined (tally e.undone.lines).definitions ∷ [])) (with_def p ws e) (naming_defines ∙ define_is S p ws e) refl in
          subst (Sound S) (came-state (sym C.is_so ∙ z)) C.sound
        where
          came-state : {A : Type 0} {ns ms : List Note} {a b : Option A} {x y : Emitter} → came ns a x ≡ came ms b y → x ≡ y
          came-state {ns = ns} {ms = ms} {a = a} {b = b} {x = x} {y = y} k = let r : ◌≡◌ {A = Tried _} (record { result = a; state = x }) (record { result = b; state = y }) = cc in ap (λ (t : Tried _). t.state) r

      -- the text's length with its line
      abbrev pub text_defined : ℕ
      text_defined = length (proof_text S.pack S.name (e.undone.lines ++ (def_line (pattern_of e p).head ws ∷ [])))

      -- what is left to do from there, if the line has room; else the text is short
      pub define-room : (l : Lent) (j : ℕ) (ps : List ℕ) → text_defined ≤ l.text → ran l (pending S j (p ∷ ps)) e ≡ ran l (pending S j ps) (with_def p ws e)
      unfolding pending behind ◌>>=r◌ has_room_for length_of
      define-room l j ps room =
          ap (outcome l) (then_went (naming S p) e (with_def p ws e) _ _ (naming_defines ∙ define_is S p ws e) (λ _. pending S j ps))
          ∙ outcome-note l 5 text_defined (pending S j ps (with_def p ws e))
          ∙ ap (λ b. elim b as (λ _. Read (Tried Judgment)) [ true ↦ outcome l (pending S j ps (with_def p ws e)) | false ↦ refuse (Short 5) ]) (le-leb text_defined l.text room)

      -- or the text is short
      pub define_short : (l : Lent) (j : ℕ) (ps : List ℕ) → l.text < text_defined → ran l (pending S j (p ∷ ps)) e ≡ refuse (Short 5)
      unfolding pending behind ◌>>=r◌ has_room_for length_of
      define_short l j ps room =
          ap (outcome l) (then_went (naming S p) e (with_def p ws e) _ _ (naming_defines ∙ define_is S p ws e) (λ _. pending S j ps))
          ∙ outcome-note l 5 text_defined (pending S j ps (with_def p ws e))
          ∙ ap (λ b. elim b as (λ _. Read (Tried Judgment)) [ true ↦ outcome l (pending S j ps (with_def p ws e)) | false ↦ refuse (Short 5) ]) (lt-leb text_defined l.text room)

      -- those below wait on
      pub define_waits : (j : ℕ) (ps : List ℕ) → Waits S e (suc p) j ps → Waits S (with_def p ws e) 0 j ps
      define_waits j ps W = waits_lower (with_def p ws e) (suc p) j ps (waits_spelt e (with_def p ws e) (suc p) j ps (spells_def e p ws q) grew_def W)
