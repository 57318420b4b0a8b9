-- The stack of a rule's open terms: a frame is a symbol and the number of its next argument, two words. What it stands for is the list
-- of the sorts that are still wanted.
use Rattle.std.specs.Prelude.{◌≡◌, refl, true, false, List, [], ◌∷◌, ◌++◌, ℕ, zero, suc, ◌+◌, ◌*◌, ◌-◌, ◌≤◌, ◌<◌, leb, ltb, eqb, length, get_or, set, drop, replicate}
use Rattle.std.proofs.Common.{sym, ap₂, ◌∙◌, add-one, le-leb, lt-ltb, le-ltb, length-set, drop_of_length-le, drop-cons, drop-drop, get_or-set_same, get_or-set_other}
use Rattle.std.proofs.Math.Path.{ap}
use native.Mathlib.Omega.{arith}
use Rattle.std.proofs.lemmas.Bool.{lt-leb}
use Rattle.std.proofs.Math.ListN.{length-drop}
use Rattle.definition.specs.Test.{◌and◌}
use Rattle.definition.specs.Little.{le}
use Rattle.pack_tables.specs.Row.{le-drop}
use Rattle.definition.specs.Pack.{Pack, prop, symbol_of}
use Rattle.definition.specs.Frame.{Checked, good, bad, over, ◌>>=◌, right}
use Rattle.definition.specs.Theory.{Unread, Word, next_word, variable, fits, wanted}
use Rattle.definition.proofs.Laws.Decide.{pass_right, stop_right, pass_within, stop_within}
use Rattle.definition.proofs.Laws.Prefix.{read_all, read_step}

-- the symbol of a frame, and its next argument
abbrev pub frame_symbol : List ℕ → ℕ → ℕ
frame_symbol fs n = get_or fs (2 * n) 0

abbrev pub frame_next : List ℕ → ℕ → ℕ
frame_next fs n = get_or fs (2 * n + 1) 0

-- the sorts that n frames and `left` judgments still want, the last frame's first
unfoldable pub wanted_by : Pack → List ℕ → ℕ → ℕ → List ℕ
wanted_by P fs zero left = replicate left prop
wanted_by P fs (suc n) left = drop (frame_next fs n) (symbol_of P (frame_symbol fs n)).inputs ++ wanted_by P fs n left

-- only the frames in force count
pub wanted-same : (P : Pack) (fs gs : List ℕ) (n left : ℕ) → ((j : ℕ) → j < 2 * n → get_or gs j 0 ≡ get_or fs j 0) → wanted_by P gs n left ≡ wanted_by P fs n left
unfolding wanted_by
wanted-same P fs gs zero left e = refl
wanted-same P fs gs (suc n) left e =
    ap₂ (λ (x : List ℕ) (y : List ℕ). x ++ y) (ap₂ (λ (h i : ℕ). drop i (symbol_of P h).inputs) (e (2 * n) (omega arith)) (e (2 * n + 1) (omega arith))) (wanted-same P fs gs n left (λ j h. e j (omega arith)))

-- without frames a judgment is wanted
pub wanted-judgment : (P : Pack) (fs : List ℕ) (left : ℕ) → wanted_by P fs 0 (left + 1) ≡ prop ∷ wanted_by P fs 0 left
unfolding wanted_by
wanted-judgment P fs left = rw (add-one left)

pub wanted-none : (P : Pack) (fs : List ℕ) → wanted_by P fs 0 0 ≡ []
unfolding wanted_by
wanted-none P fs = refl

-- the last frame's argument is wanted, and then the others
pub wanted_argument : (P : Pack) (fs : List ℕ) (n left : ℕ) → frame_next fs n < length (symbol_of P (frame_symbol fs n)).inputs
    → wanted_by P fs (n + 1) left ≡ get_or (symbol_of P (frame_symbol fs n)).inputs (frame_next fs n) 0 ∷ (drop (frame_next fs n + 1) (symbol_of P (frame_symbol fs n)).inputs ++ wanted_by P fs n left)
unfolding wanted_by
wanted_argument P fs n left h =
    rw (add-one n, add-one (frame_next fs n)) (ap (λ (l : List ℕ). l ++ wanted_by P fs n left) (drop-cons (symbol_of P (frame_symbol fs n)).inputs (frame_next fs n) 0 h))

-- it was the frame's last argument
pub frame-done : (P : Pack) (fs : List ℕ) (n left : ℕ) → length (symbol_of P (frame_symbol fs n)).inputs ≤ frame_next fs n + 1
    → drop (frame_next fs n + 1) (symbol_of P (frame_symbol fs n)).inputs ++ wanted_by P fs n left ≡ wanted_by P fs n left
frame-done P fs n left h = ap (λ (l : List ℕ). l ++ wanted_by P fs n left) (drop_of_length-le (symbol_of P (frame_symbol fs n)).inputs h)

-- it was not: the frame goes on to the next
pub frame_on : (P : Pack) (fs : List ℕ) (n left : ℕ) → 2 * n + 1 < length fs
    → drop (frame_next fs n + 1) (symbol_of P (frame_symbol fs n)).inputs ++ wanted_by P fs n left ≡ wanted_by P (set fs (2 * n + 1) (frame_next fs n + 1)) (n + 1) left
unfolding wanted_by
frame_on P fs n left h =
    let gs : List ℕ = set fs (2 * n + 1) (frame_next fs n + 1) in
    let e : get_or gs (2 * n + 1) 0 ≡ frame_next fs n + 1 = get_or-set_same fs (2 * n + 1) (frame_next fs n + 1) 0 h in
    let f : get_or gs (2 * n) 0 ≡ frame_symbol fs n = get_or-set_other fs (2 * n + 1) (2 * n) (frame_next fs n + 1) 0 (omega arith) in
    rw (add-one n, e, f) (ap (λ (l : List ℕ). drop (frame_next fs n + 1) (symbol_of P (frame_symbol fs n)).inputs ++ l) (sym (wanted-same P fs gs n left (λ j l. get_or-set_other fs (2 * n + 1) j (frame_next fs n + 1) 0 (omega arith)))))

-- a symbol with arguments is a frame more
pub frame-more : (P : Pack) (fs : List ℕ) (n left h : ℕ) → 2 * n + 1 < length fs → (symbol_of P h).inputs ++ wanted_by P fs n left ≡ wanted_by P (set (set fs (2 * n) h) (2 * n + 1) 0) (n + 1) left
unfolding wanted_by
frame-more P fs n left h l =
    let hs : List ℕ = set fs (2 * n) h in
    let gs : List ℕ = set hs (2 * n + 1) 0 in
    let e : get_or gs (2 * n + 1) 0 ≡ 0 = get_or-set_same hs (2 * n + 1) 0 0 (omega (arith, length-set fs (2 * n) h)) in
    let f : get_or gs (2 * n) 0 ≡ h = get_or-set_other hs (2 * n + 1) (2 * n) 0 0 (omega arith) ∙ get_or-set_same fs (2 * n) h 0 (omega arith) in
    rw (add-one n, e, f) (ap (λ (l : List ℕ). (symbol_of P h).inputs ++ l)
    (sym (wanted-same P fs gs n left (λ j k. get_or-set_other hs (2 * n + 1) j 0 0 (omega arith) ∙ get_or-set_other fs (2 * n) j h 0 (omega arith)))))

-- ---- the next word
bad_then : {A B : Type 0} (f : A → Checked B) → bad >>= f ≡ bad
unfolding ◌>>=◌
bad_then f = refl

over_then : {A B : Type 0} (f : A → Checked B) → over >>= f ≡ over
unfolding ◌>>=◌
over_then f = refl

good_then : {A B : Type 0} (a : A) (f : A → Checked B) → good a >>= f ≡ f a
unfolding ◌>>=◌
good_then a f = refl

word_is : (v w : ℕ) (xs ys : List ℕ) (m n : ℕ) → v ≡ w → xs ≡ ys → m ≡ n → ◌≡◌ {A = Checked Word} (good (record { word = v; unread = record { rest = xs; read = m } })) (good (record { word = w; unread = record { rest = ys; read = n } }))
word_is v w xs ys m n e f g = λ i. good (record { word = e i; unread = record { rest = f i; read = g i } })

abbrev pub unread_at : List ℕ → ℕ → ℕ → Unread
unread_at body at read = record { rest = drop at body; read = read }

module _ (P : Pack) (vars body : List ℕ) (at read s : ℕ) (ss : List ℕ) where
  -- there is none
  pub word_none : length body < at + 4 → read_all 256 P vars (s ∷ ss) (unread_at body at read) ≡ bad
  unfolding next_word
  word_none h =
      read_step P vars s ss (unread_at body at read)
      ∙ ap (λ (m : Checked Word). m >>= λ w. right (fits P vars s w.word) >>= λ _. read_all 256 P vars (wanted P w.word ++ ss) w.unread)
      (stop_right (leb 4 (length (drop at body))) _ (lt-leb 4 (length (drop at body)) (omega (arith, length-drop at body))))
      ∙ bad_then (λ w. right (fits P vars s w.word) >>= λ _. read_all 256 P vars (wanted P w.word ++ ss) w.unread)

  module _ (long : at + 4 ≤ length body) where
    enough : leb 4 (length (drop at body)) ≡ true
    enough = le-leb 4 (length (drop at body)) (omega (arith, length-drop at body))

    -- "the 257th prefix word where reading reaches it"
    pub word-many : 256 ≤ read → read_all 256 P vars (s ∷ ss) (unread_at body at read) ≡ over
    unfolding next_word
    word-many h =
        read_step P vars s ss (unread_at body at read)
        ∙ ap (λ (m : Checked Word). m >>= λ w. right (fits P vars s w.word) >>= λ _. read_all 256 P vars (wanted P w.word ++ ss) w.unread)
        (pass_right (leb 4 (length (drop at body))) _ enough ∙ stop_within (ltb read 256) _ (le-ltb read 256 h))
        ∙ over_then (λ w. right (fits P vars s w.word) >>= λ _. read_all 256 P vars (wanted P w.word ++ ss) w.unread)

    module _ (few : read < 256) where
      next : next_word (unread_at body at read) ≡ good (record { word = le 4 body at; unread = unread_at body (at + 4) (read + 1) })
      unfolding next_word
      next =
          pass_right (leb 4 (length (drop at body))) _ enough ∙ pass_within (ltb read 256) _ (lt-ltb read 256 few)
          ∙ word_is (le 4 (drop at body) 0) (le 4 body at) (drop 4 (drop at body)) (drop (at + 4) body) (suc read) (read + 1) (word-at_front) (drop-drop 4 at body) (sym (add-one read))
        where
          word-at_front : le 4 (drop at body) 0 ≡ le 4 body at
          word-at_front = let e : at + 0 ≡ at = omega arith in le-drop 4 at body 0 ∙ ap (le 4 body) e

      one : read_all 256 P vars (s ∷ ss) (unread_at body at read) ≡ right (fits P vars s (le 4 body at)) >>= λ _. read_all 256 P vars (wanted P (le 4 body at) ++ ss) (unread_at body (at + 4) (read + 1))
      one =
          read_step P vars s ss (unread_at body at read)
          ∙ ap (λ (m : Checked Word). m >>= λ w. right (fits P vars s w.word) >>= λ _. read_all 256 P vars (wanted P w.word ++ ss) w.unread) next
          ∙ good_then _ (λ w. right (fits P vars s w.word) >>= λ _. read_all 256 P vars (wanted P w.word ++ ss) w.unread)

      -- it may not stand there
      pub word-unfit : fits P vars s (le 4 body at) ≡ false → read_all 256 P vars (s ∷ ss) (unread_at body at read) ≡ bad
      word-unfit e = one ∙ stop_right (fits P vars s (le 4 body at)) _ e

      -- it may, and the sorts that it wants come next
      pub word_fits : fits P vars s (le 4 body at) ≡ true → read_all 256 P vars (s ∷ ss) (unread_at body at read) ≡ read_all 256 P vars (wanted P (le 4 body at) ++ ss) (unread_at body (at + 4) (read + 1))
      word_fits e = one ∙ pass_right (fits P vars s (le 4 body at)) _ e

-- ---- which words fit, and what they want
pub fits-variable : (P : Pack) (vars : List ℕ) (s w : ℕ) → variable ≤ w → fits P vars s w ≡ ltb (w - variable) (length vars) and eqb (get_or vars (w - variable) 0) s
unfolding fits
fits-variable P vars s w h = rw (le-leb variable w h, fits)

pub fits-symbol : (P : Pack) (vars : List ℕ) (s w : ℕ) → w < variable → fits P vars s w ≡ ltb w (length P.symbols) and eqb (symbol_of P w).output s
unfolding fits
fits-symbol P vars s w h = rw (lt-leb variable w h, fits)

pub wanted-variable : (P : Pack) (w : ℕ) → variable ≤ w → wanted P w ≡ []
unfolding wanted
wanted-variable P w h = rw (le-leb variable w h, wanted)

pub wanted-symbol : (P : Pack) (w : ℕ) → w < variable → wanted P w ≡ (symbol_of P w).inputs
unfolding wanted
wanted-symbol P w h = rw (lt-leb variable w h, wanted)
