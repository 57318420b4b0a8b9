-- The terms whose words are those behind the first words of some terms.
use Rattle.std.specs.Prelude.{◌≡◌, refl, List, [], ◌∷◌, ◌++◌, ℕ, zero, suc, ◌+◌, ◌-◌, ◌<◌, ◌≤◌, length, get_or, drop, replicate}
use Rattle.std.proofs.Common.{sym, ap, ◌∙◌, append_assoc, append-nil, arith, length-append, length-drop, drop-cons}
use Rattle.definition.specs.Pack.{prop, Term, Terms, var, app, nil, cons, Pack, symbol_of}
use Rattle.definition.specs.Certificate.{count}
use Rattle.definition.specs.Theory.{variable}
use Rattle.definition.specs.Good.{SortedAll, Judgments}
use Rattle.definition.proofs.Laws.Prefix.{term_words, terms_words}

-- terms, then others
abbrev pub joined : Terms → Terms → Terms
joined nil us = us
joined (cons t ts) us = cons t (joined ts us)

-- their words, one behind the other
pub joined_words : (ts us : Terms) → terms_words (joined ts us) ≡ terms_words ts ++ terms_words us
unfolding terms_words
joined_words nil us = refl
joined_words (cons t ts) us = ap (λ (l : List ℕ). term_words t ++ l) (joined_words ts us) ∙ sym (append_assoc (term_words t) (terms_words ts) (terms_words us))

-- and their sorts
pub joined_sorted : (P : Pack) (vars : List ℕ) (ts us : Terms) (ss rs : List ℕ) → SortedAll P vars ts ss → SortedAll P vars us rs → SortedAll P vars (joined ts us) (ss ++ rs)
joined_sorted P vars nil us [] rs S R = R
joined_sorted P vars nil us (s ∷ ss) rs S R = absurd S
joined_sorted P vars (cons t ts) us [] rs S R = absurd S
joined_sorted P vars (cons t ts) us (s ∷ ss) rs S R = (S.0, joined_sorted P vars ts us ss rs S.1 R)

-- the terms behind the first word of some
unfoldable pub next : Terms → Terms
next nil = nil
next (cons (var k) ts) = ts
next (cons (app h us) ts) = joined us ts

-- the terms whose words are those behind the first j
unfoldable pub after : Terms → ℕ → Terms
unfolding next
after ts zero = ts
after ts (suc j) = next (after ts j)

-- what the terms behind j words are, where there is one more word: its first is a variable, or a symbol over the first of those behind it
pub data Ahead (P : Pack) (vars : List ℕ) (ts : Terms) (w : ℕ) : Type 0 where
  a_variable : (k : ℕ) (rest : Terms) (rs : List ℕ) → ts ≡ cons (var k) rest → w ≡ variable + k → k < length vars → SortedAll P vars rest rs → Ahead P vars ts w
  a_symbol : (h : ℕ) (us rest : Terms) (rs : List ℕ) → ts ≡ cons (app h us) rest → w ≡ h → h < length P.symbols → SortedAll P vars us (symbol_of P h).inputs → SortedAll P vars rest rs → Ahead P vars ts w

-- the first word, and the others
word_first : (P : Pack) (vars : List ℕ) (ts : Terms) (ss : List ℕ) → SortedAll P vars ts ss → 0 < length (terms_words ts) → Ahead P vars ts (get_or (terms_words ts) 0 0)
unfolding terms_words
word_first P vars nil [] S l = absurd (omega arith)
word_first P vars nil (s ∷ ss) S l = absurd S
word_first P vars (cons t ts) [] S l = absurd S
word_first P vars (cons (var k) ts) (s ∷ ss) S l = a_variable k ts ss refl refl S.0.0 S.1
word_first P vars (cons (app h us) ts) (s ∷ ss) S l = a_symbol h us ts ss refl refl S.0.0 S.0.2 S.1

next-words : (ts : Terms) → 0 < length (terms_words ts) → drop 1 (terms_words ts) ≡ terms_words (next ts)
unfolding next terms_words
next-words nil l = absurd (omega arith)
next-words (cons (var k) ts) l = refl
next-words (cons (app h us) ts) l = sym (joined_words us ts)

next_sorted : (P : Pack) (vars : List ℕ) (ts : Terms) (ss : List ℕ) → SortedAll P vars ts ss → (rs : List ℕ) × SortedAll P vars (next ts) rs
unfolding next
next_sorted P vars nil [] S = ([], tt)
next_sorted P vars nil (s ∷ ss) S = absurd S
next_sorted P vars (cons t ts) [] S = absurd S
next_sorted P vars (cons (var k) ts) (s ∷ ss) S = (ss, S.1)
next_sorted P vars (cons (app h us) ts) (s ∷ ss) S = ((symbol_of P h).inputs ++ ss, joined_sorted P vars us ts (symbol_of P h).inputs ss S.0.2 S.1)

-- each is of a sort
pub after_sorted : (P : Pack) (vars : List ℕ) (ts : Terms) (ss : List ℕ) → SortedAll P vars ts ss → (j : ℕ) → (rs : List ℕ) × SortedAll P vars (after ts j) rs
unfolding after
after_sorted P vars ts ss S zero = (ss, S)
after_sorted P vars ts ss S (suc j) = let q = after_sorted P vars ts ss S j in next_sorted P vars (after ts j) q.0 q.1

-- the words behind the first j are theirs
pub after-words : (ts : Terms) (j : ℕ) → j ≤ length (terms_words ts) → drop j (terms_words ts) ≡ terms_words (after ts j)
unfolding after
after-words ts zero l = refl
after-words ts (suc j) l =
    let e = after-words ts j (omega arith) in
    let n : length (terms_words (after ts j)) ≡ length (terms_words ts) - j = sym (ap length e) ∙ length-drop j (terms_words ts) in
    let d : drop j (terms_words ts) ≡ get_or (terms_words ts) j 0 ∷ drop (suc j) (terms_words ts) = drop-cons (terms_words ts) j 0 l in
    ap (drop 1) (sym d ∙ e) ∙ next-words (after ts j) (omega arith)

-- word j, and the terms behind it
pub after-ahead : (P : Pack) (vars : List ℕ) (ts : Terms) (ss : List ℕ) → SortedAll P vars ts ss → (j : ℕ) → j < length (terms_words ts) → Ahead P vars (after ts j) (get_or (terms_words ts) j 0)
after-ahead P vars ts ss S j l =
    let q = after_sorted P vars ts ss S j in
    let e = after-words ts j (omega arith) in
    let n : length (terms_words (after ts j)) ≡ length (terms_words ts) - j = sym (ap length e) ∙ length-drop j (terms_words ts) in
    let d : drop j (terms_words ts) ≡ get_or (terms_words ts) j 0 ∷ drop (suc j) (terms_words ts) = drop-cons (terms_words ts) j 0 l in
    let w : get_or (terms_words (after ts j)) 0 0 ≡ get_or (terms_words ts) j 0 = ap (λ (ws : List ℕ). get_or ws 0 0) (sym e ∙ d) in
    rw (← w) (word_first P vars (after ts j) q.0 q.1 (omega arith))

-- a term has a word at least
pub term_some : (t : Term) → 1 ≤ length (term_words t)
unfolding term_words
term_some (var k) = omega arith
term_some (app h us) = omega arith

-- no more terms than words
pub words_some : (P : Pack) (vars : List ℕ) (ts : Terms) (ss : List ℕ) → SortedAll P vars ts ss → length ss ≤ length (terms_words ts)
unfolding terms_words
words_some P vars nil [] S = omega arith
words_some P vars nil (s ∷ ss) S = absurd S
words_some P vars (cons t ts) [] S = absurd S
words_some P vars (cons t ts) (s ∷ ss) S = omega (arith, term_some t, words_some P vars ts ss S.1, length-append (term_words t) (terms_words ts))

-- a term's words as those of one term
pub all_words : (t : Term) → terms_words (cons t nil) ≡ term_words t
unfolding terms_words
all_words t = append-nil (term_words t)

-- terms without words are none
pub no_words : (ts : Terms) → length (terms_words ts) ≡ 0 → ts ≡ nil
unfolding terms_words
no_words nil e = refl
no_words (cons t ts) e = absurd (omega (arith, term_some t, length-append (term_words t) (terms_words ts)))

-- how many terms there are: as many as sorts
pub sorts-many : (P : Pack) (vars : List ℕ) (ts : Terms) (ss : List ℕ) → SortedAll P vars ts ss → count ts ≡ length ss
unfolding count
sorts-many P vars nil [] S = refl
sorts-many P vars nil (s ∷ ss) S = absurd S
sorts-many P vars (cons t ts) [] S = absurd S
sorts-many P vars (cons t ts) (s ∷ ss) S = ap suc (sorts-many P vars ts ss S.1)

pub joined-many : (ts us : Terms) → count (joined ts us) ≡ count ts + count us
unfolding count
joined-many nil us = omega arith
joined-many (cons t ts) us = let ih = joined-many ts us in omega arith

-- judgments are terms of the sort prop
pub judgments_sorted : (P : Pack) (vars : List ℕ) (ts : Terms) → Judgments P vars ts → SortedAll P vars ts (replicate (count ts) prop)
unfolding count
judgments_sorted P vars nil J = tt
judgments_sorted P vars (cons t ts) J = (J.0, judgments_sorted P vars ts J.1)

-- no term is behind where none is
pub none_left : (ts : Terms) → count ts ≡ 0 → ts ≡ nil
unfolding count
none_left nil e = refl
none_left (cons t ts) e = absurd (omega arith)
