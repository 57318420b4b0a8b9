-- From patterns to words: whatever is written of a pattern that can be spoken of is that pattern, read through the definitions.
use Rattle.std.specs.Prelude.{◌≡◌}
use Rattle.std.proofs.Math.Path.{refl, sym, ap, ap₂, subst}
use Rattle.std.proofs.Common.{◌∙◌, arith}
use Rattle.std.proofs.Math.Bool.{true, false}
use mathlib.Core.List.{List, [], ◌∷◌, ◌++◌}
use Rattle.std.proofs.Math.Option.{Option, none, some}
use Prim.Native.Nat.{ℕ, zero, suc, ◌<◌}
use Rattle.std.proofs.Math.ListN.{length, get_or, length-append}
use Rattle.std.proofs.Math.Seq.{get_or_at}
use Rattle.definition.specs.Test.{is, see, never}
use Rattle.definition.specs.Pack.{var, app, cons, Node, no_node}
use Rattle.definition.specs.Good.{Below}
use Rattle.definition.specs.Verdict.{value_of}
use Rattle.definition.specs.Store.{variable_node, is_variable, term_of}
use Rattle.definition.proofs.Laws.Grow.{below_more}
use Rattle.definition.specs.Run.{Run}
use Rattle.emission.specs.Line.{Word, constant, defined, variable, Line, def_line, tally}
use Rattle.emission.specs.State.{Emitter, Setting, Tried, ◌>>=◌, give, change, write, having_lines, having_def}
use Rattle.emission.specs.Induct.{case_number}
use Rattle.emission.specs.Begin.{eigen_number}
use Rattle.emission.specs.Words.{pattern_of, word_of, define, word, words}
use Rattle.theory.specs.Copies.Terms.{terms_at, below-applied, term_variable, term_applied}
use Rattle.theory.specs.Patterns.Interned.{Grows, grows_none, grows_long, grows_at}
use Rattle.theory.specs.Patterns.Sorted.{variable_is}
use Rattle.emit_theory.specs.Stores.{sorted_earlier}
use Rattle.emit_theory.specs.Spoken.{Spoken, SpokenAll, is_L, named, over, more, spoken_grows, spokens_grow}
use Rattle.emit_theory.specs.Said.{word_term, word_terms, defining, defined_from, definitions, WordBelow, WordsBelow, defined_behind, definitions-grow, count-definitions, word_same, word_more}
use Rattle.emit_theory.specs.Sound.{Defines, Sound, Grew, term_grows}
use Rattle.emit_theory.specs.Comes.{Comes, gives, changes, then_comes, now_comes}
use Rattle.emit_theory.specs.Writes.{sound_def, write_comes}

-- a word of a pattern, in a state
pub record WordIs (p : ℕ) (w : Word) (e : Emitter) : Type 0 where
  pub below : WordBelow (length (definitions e.undone.lines)) w
  pub says : word_term (definitions e.undone.lines) w ≡ term_of e.kept.store p

-- words of patterns
pub record WordsAre (ps : List ℕ) (ws : List Word) (e : Emitter) : Type 0 where
  pub below : WordsBelow (length (definitions e.undone.lines)) ws
  pub says : word_terms (definitions e.undone.lines) ws ≡ terms_at e.kept.store ps

-- patterns that can be spoken of in a state
abbrev pub Speaks : Setting → Emitter → ℕ → Type 0
Speaks S e p = Spoken S.eigen e.undone.names e.kept.store p

abbrev pub SpeaksAll : Setting → Emitter → List ℕ → Type 0
SpeaksAll S e ps = SpokenAll S.eigen e.undone.names e.kept.store ps

-- they can be in later states
pub speaks_on : (S : Setting) (a b : Emitter) → Grew a b → (p : ℕ) → Speaks S a p → Speaks S b p
speaks_on S a b G p h = spoken_grows S.eigen a.undone.names b.undone.names a.kept.store b.kept.store G.names G.store p h

pub speaks_all_on : (S : Setting) (a b : Emitter) → Grew a b → (ps : List ℕ) → SpeaksAll S a ps → SpeaksAll S b ps
speaks_all_on S a b G ps h = spokens_grow S.eigen a.undone.names b.undone.names a.kept.store b.kept.store G.names G.store ps h

-- terms stay when the store grows
pub terms_same : (a b : List Node) → Grows a b → (ps : List ℕ) → Below (length a) ps → terms_at b ps ≡ terms_at a ps
unfolding terms_at
terms_same a b G [] k = refl
terms_same a b G (p ∷ ps) k = ap₂ cons (term_grows a b G p k.0) (terms_same a b G ps k.1)

-- a word stays a pattern's
word_on : (a b : Emitter) → Grew a b → (p : ℕ) (w : Word) → p < length a.kept.store → WordIs p w a → WordIs p w b
word_on a b G p w l W =
    let D = definitions-grow a.undone.lines b.undone.lines G.lines in
    let d = grows_long (definitions a.undone.lines) (definitions b.undone.lines) D in
    record {
      below = word_more (length (definitions a.undone.lines)) (length (definitions b.undone.lines)) d w W.below;
      says = word_same (definitions a.undone.lines) (definitions b.undone.lines) D w W.below ∙ W.says ∙ sym (term_grows a.kept.store b.kept.store G.store p l);
    }

module _ (S : Setting) where
  -- what can be spoken of is there
  pub speaks_stored : (e : Emitter) → Sound S e → (p : ℕ) → Speaks S e p → p < length e.kept.store
  speaks_stored e s _ (is_L p i) = rw i s.L_stored
  speaks_stored e s _ (named p k h) = (s.names p k h).stored
  speaks_stored e s _ (over p l v args a h) = l

  -- below an application all can be spoken of
  pub speaks_args : (e : Emitter) → Sound S e → (p : ℕ) → Speaks S e p → is_variable (get_or e.kept.store p no_node) ≡ false → SpeaksAll S e (get_or e.kept.store p no_node).args
  speaks_args e s _ (is_L p i) v = never (let z = variable_is (get_or e.kept.store S.eigen no_node) eigen_number S.sort s.L_node in let y : is_variable (get_or e.kept.store S.eigen no_node) ≡ false = rw i at v in cc)
  speaks_args e s _ (named p k h) v = never (let z = let N = s.names p k h in variable_is (get_or e.kept.store p no_node) (case_number k) N.sort N.node in cc)
  speaks_args e s _ (over p l w args a h) v = rw a h

  -- a variable that has no name is L
  unnamed_L : (e : Emitter) → Sound S e → (p : ℕ) → Speaks S e p → value_of p e.undone.names ≡ none → is_variable (get_or e.kept.store p no_node) ≡ true → p ≡ S.eigen
  unnamed_L e s _ (is_L p i) n v = i
  unnamed_L e s _ (named p k h) n v = never (cc)
  unnamed_L e s _ (over p l w args a h) n v = never (cc)

  -- the term of a variable's node
  variable_term : (e : Emitter) → Sound S e → (p k so : ℕ) → p < length e.kept.store → get_or e.kept.store p no_node ≡ variable_node k so → var k ≡ term_of e.kept.store p
  variable_term e s p k so l n =
      let E = sorted_earlier S.pack e.kept.store s.sorted in
      let v = variable_is (get_or e.kept.store p no_node) k so n in
      sym (term_variable e.kept.store E p l v ∙ ap (λ (x : Node). var (get_or x.args 0 0)) n)

  is_word : (e : Emitter) (p : ℕ) (v w : Word) → some v ≡ some w → WordIs p v e → WordIs p w e
  is_word e p v w q W = let z : v ≡ w = cc in subst (λ x. WordIs p x e) z W

  -- the word that a pattern has already
  word_had : (e : Emitter) → Sound S e → (p : ℕ) → Speaks S e p → (w : Word) → word_of e p ≡ some w → WordIs p w e
  unfolding word_of word_term terms_at
  word_had e s p h w q =
      let x = e.kept.store in
      let l = speaks_stored e s p h in
      elim (see (value_of p e.undone.names)) [
        | is (some k) t ↦ let N = s.names p k t in is_word e p (variable (suc k)) w (rw (t, word_of) at q) (record { below = tt; says = variable_term e s p (case_number k) N.sort l N.node })
        | is none t ↦ elim (see (is_variable (get_or x p no_node))) [
          | is true v ↦
              let i = unnamed_L e s p h t v in
              is_word e p (variable 0) w (rw (t, v, word_of) at q) (record { below = tt; says = variable_term e s p eigen_number S.sort l (rw i s.L_node) })
          | is false v ↦ elim (see (get_or x p no_node).args) [
            | is [] a ↦
                let E = sorted_earlier S.pack x s.sorted in
                is_word e p (constant (get_or x p no_node).head) w (rw (t, v, a, word_of) at q) (record { below = tt; says = sym (term_applied x E p l v ∙ ap (λ ys. app (get_or x p no_node).head (terms_at x ys)) a) })
            | is (b ∷ bs) a ↦ elim (see (value_of p e.undone.defs)) [
              | is none d ↦ never (let z : none ≡ some w = rw (t, v, a, d, word_of) at q in cc)
              | is (some n) d ↦ let D = s.defs p n d in is_word e p (defined n) w (rw (t, v, a, d, word_of) at q) (record { below = D.there; says = D.says })
            ]
          ]
        ]
      ]

  -- one that has none is an application
  word_lacked : (e : Emitter) (p : ℕ) → word_of e p ≡ none → is_variable (get_or e.kept.store p no_node) ≡ false
  unfolding word_of
  word_lacked e p q = elim (see (value_of p e.undone.names)) [
    | is (some k) t ↦ never (let z : some (variable (suc k)) ≡ none = rw (t, word_of) at q in cc)
    | is none t ↦ elim (see (is_variable (get_or e.kept.store p no_node))) [
      | is true v ↦ never (let z : some (variable 0) ≡ none = rw (t, v, word_of) at q in cc)
      | is false v ↦ v
    ]
  ]

-- one def line more is one definition more
define-more : (ls : List Line) (h : ℕ) (ws : List Word) → definitions (ls ++ (def_line h ws ∷ [])) ≡ definitions ls ++ (app h (word_terms (definitions ls) ws) ∷ [])
unfolding definitions defined_from defining
define-more ls h ws = defined_behind [] ls (def_line h ws ∷ [])

module _ (S : Setting) where
  -- a compound term over its arguments' words gets its line and its word
  define_comes : (p : ℕ) (ws : List Word) (e : Emitter) → Sound S e → p < length e.kept.store → is_variable (get_or e.kept.store p no_node) ≡ false
      → WordsAre (get_or e.kept.store p no_node).args ws e → Comes S (WordIs p) (define S p ws) e
  unfolding define word_term
  define_comes p ws e s l v W =
      let x = e.kept.store in
      let ls = e.undone.lines in
      let h = (get_or x p no_node).head in
      let ms = ls ++ (def_line h ws ∷ []) in
      let n = (tally ls).definitions in
      let c = count-definitions ls in
      let more = define-more ls h ws in
      let k = ap length more ∙ length-append (definitions ls) (app h (word_terms (definitions ls) ws) ∷ []) in
      let E = sorted_earlier S.pack x s.sorted in
      let D : Defines ms x p n = record {
        there = omega arith;
        stored = l;
        says =
            ap (λ ds. get_or ds n (var 0)) more ∙ get_or_at (definitions ls) (app h (word_terms (definitions ls) ws)) [] (var 0) n c
            ∙ ap (app h) W.says ∙ sym (term_applied x E p l v);
      } in
      now_comes S (WordIs p) _ e s (then_comes S _ (WordIs p) (write S (def_line h ws)) _ e (write_comes S e s (def_line h ws)) (λ _ e₁ g t q. subst (λ y. Comes S (WordIs p) (change (having_def p n) >>= λ _. give (defined n)) y) (sym q) (
      let f = having_lines ms e in
      let u = subst (Sound S) q t in
      let d = sound_def S f u p n D in
      then_comes S _ (WordIs p) (change (having_def p n)) _ f (changes S (having_def p n) f (record { lines = grows_none ms; store = grows_none x; names = λ r m z. (m, z) }) d)
      (λ _ e₂ _ _ r. subst (λ y. Comes S (WordIs p) (give (defined n)) y) (sym r) (gives S (WordIs p) (defined n) (having_def p n f) d (record { below = D.there; says = D.says })))
      )))

  -- a term's word, if its arguments get theirs
  word_comes : (d : ℕ) (deeper : List ℕ → Emitter → Run (Tried (List Word))) → ((qs : List ℕ) (e : Emitter) → Sound S e → SpeaksAll S e qs → Below d qs → Comes S (WordsAre qs) (deeper qs) e)
      → (p : ℕ) (e : Emitter) → Sound S e → Speaks S e p → p < suc d → Comes S (WordIs p) (word S deeper p) e
  unfolding word
  word_comes d deeper D p e s h b = now_comes S (WordIs p) _ e s (by (word_of e p) refl)
    where
      by : (o : Option Word) → word_of e p ≡ o → Comes S (WordIs p) (elim o as (λ _. Emitter → Run (Tried Word)) [ some w ↦ give w | none ↦ deeper (pattern_of e p).args >>= λ ws. define S p ws ]) e
      by (some w) q = gives S (WordIs p) w e s (word_had S e s p h w q)
      by none q =
          let x = e.kept.store in
          let l = speaks_stored S e s p h in
          let v = word_lacked S e p q in
          let earlier = sorted_earlier S.pack x s.sorted p l in
          let args = (get_or x p no_node).args in
          then_comes S (WordsAre args) (WordIs p) (deeper args) _ e (D args e s (speaks_args S e s p h v) (below_more p d args (omega arith) (subst (Below p) (below-applied (get_or x p no_node) v) earlier)))
          (λ ws e₁ g t W.
          let same = grows_at x e₁.kept.store no_node p g.store l in
          let k = grows_long x e₁.kept.store g.store in
          define_comes p ws e₁ t (omega arith) (rw same v) (subst (λ (n : Node). WordsAre n.args ws e₁) (sym same) W))

  -- a word and the words behind it
  words_cons : (e : Emitter) (p : ℕ) (ps : List ℕ) (w : Word) (ws : List Word) → WordIs p w e → WordsAre ps ws e → WordsAre (p ∷ ps) (w ∷ ws) e
  unfolding word_terms terms_at
  words_cons e p ps w ws W Ws = record { below = (W.below, Ws.below); says = ap₂ cons W.says Ws.says }

  words_nil : (e : Emitter) → WordsAre [] [] e
  unfolding word_terms terms_at
  words_nil e = record { below = tt; says = refl }

  -- terms' words, the depth being more than their numbers
  pub words_comes : (d : ℕ) (ps : List ℕ) (e : Emitter) → Sound S e → SpeaksAll S e ps → Below d ps → Comes S (WordsAre ps) (words d S ps) e
  unfolding words
  words_comes zero [] e s h b = gives S (WordsAre []) [] e s (words_nil e)
  words_comes zero (p ∷ ps) e s h b = absurd (let k = b.0 in omega arith)
  words_comes (suc d) [] e s h b = gives S (WordsAre []) [] e s (words_nil e)
  words_comes (suc d) (p ∷ ps) e s (more _ _ h hs) b =
      then_comes S (WordIs p) (WordsAre (p ∷ ps)) (word S (λ qs. words d S qs) p) _ e (word_comes d (λ qs. words d S qs) (λ qs e₁ t k c. words_comes d qs e₁ t k c) p e s h b.0)
      (λ w e₁ g t W. then_comes S (WordsAre ps) (WordsAre (p ∷ ps)) (words (suc d) S ps) _ e₁ (words_comes (suc d) ps e₁ t (speaks_all_on S e e₁ g ps hs) b.1)
      (λ ws e₂ g₂ u Ws.
      let k = grows_long e.kept.store e₁.kept.store g.store in
      let l = speaks_stored S e s p h in
      gives S (WordsAre (p ∷ ps)) (w ∷ ws) e₂ u (words_cons e₂ p ps w ws (word_on e₁ e₂ g₂ p w (omega arith) W) Ws)))
