-- A rule's terms, word by word: a loop with a stack of the sorts still wanted reads what the recursion reads; and which words these are.
use Rattle.std.specs.Prelude.{◌≡◌, refl, true, false, List, [], ◌∷◌, ◌++◌, ℕ, zero, suc, ◌+◌, ◌*◌, ◌-◌, ◌<◌, ◌≤◌, leb, length, drop, replicate}
use Rattle.std.proofs.Common.{sym, ap, ap₂, ◌∙◌, subst, append-nil, zero-add, suc-add, arith, ltb-true, leb-true, length-append, length-drop, drop-drop}
use Rattle.definition.specs.Test.{is, see, never, tests}
use Rattle.definition.specs.Little.{le}
use Rattle.definition.specs.Pack.{prop, Term, Terms, var, app, nil, cons, Pack}
use Rattle.definition.specs.Frame.{Checked, good, bad, over, ◌>>=◌, right}
use Rattle.definition.proofs.Laws.Frame.{good_eq, right_then, within_then}
use Rattle.definition.specs.Theory.{words, Unread, Word, next_word, variable, fits, wanted, made, Prefix, prefix, only}
use Rattle.definition.specs.Good.{words_of, words_of_all}
use Rattle.definition.proofs.Laws.TakenTheory.{bind_then}

-- terms of the sorts wanted, at most f words: each word takes its sort off the stack and puts the sorts that it wants on it
unfoldable pub read_all : ℕ → Pack → List ℕ → List ℕ → Unread → Checked Unread
unfolding next_word fits wanted
read_all zero P vars [] u = good u
read_all zero P vars (s ∷ ss) u = next_word u >>= λ w. over
read_all (suc f) P vars [] u = good u
read_all (suc f) P vars (s ∷ ss) u = do
  w ← next_word u
  _ ← right (fits P vars s w.word)
  read_all f P vars (wanted P w.word ++ ss) w.unread

-- two ways to go on from the same first step are the same if they are wherever it is good
pub bind-same : {A B : Type 0} (m : Checked A) (f g : A → Checked B) → ((a : A) → m ≡ good a → f a ≡ g a) → m >>= f ≡ m >>= g
unfolding ◌>>=◌
bind-same (good a) f g h = h a refl
bind-same bad f g h = refl
bind-same over f g h = refl

-- the same, if one of them goes on in two steps
pub bind_into : {A B C : Type 0} (m : Checked A) (f : A → Checked C) (g : A → Checked B) (h : B → Checked C) → ((a : A) → m ≡ good a → f a ≡ g a >>= h) → m >>= f ≡ m >>= g >>= h
unfolding ◌>>=◌
bind_into (good a) f g h k = k a refl
bind_into bad f g h k = refl
bind_into over f g h k = refl

-- what is against its form or over a limit stays so, however it goes on
bind_bad : {A B C : Type 0} (m : Checked A) (f : A → Checked B) (g : A → Checked C) → ((a : A) → f a ≡ bad → g a ≡ bad) → m >>= f ≡ bad → m >>= g ≡ bad
unfolding ◌>>=◌
bind_bad (good a) f g h e = h a e
bind_bad bad f g h e = refl
bind_bad over f g h e = never (cc)

bind-over : {A B C : Type 0} (m : Checked A) (f : A → Checked B) (g : A → Checked C) → ((a : A) → f a ≡ over → g a ≡ over) → m >>= f ≡ over → m >>= g ≡ over
unfolding ◌>>=◌
bind-over (good a) f g h e = h a e
bind-over bad f g h e = never (cc)
bind-over over f g h e = refl

-- where there is a next word, fewer than 256 were read, and now one more
next_read : (u : Unread) (w : Word) → next_word u ≡ good w → (u.read < 256) × (w.unread.read ≡ suc u.read)
unfolding next_word
next_read u w e =
    let t1 = right_then _ _ _ e in
    let t2 = within_then _ _ _ t1.1 in
    (ltb-true _ _ t2.0, ap (λ (x : Word). x.unread.read) (sym (good_eq t2.1)))

-- behind 256 words there is no next
none_left : (u : Unread) (w : Word) → 256 ≤ u.read → next_word u ≡ good w → ⊥
none_left u w h e = omega (arith, (next_read u w e).0)

-- every f that lets all words up to the 256th be read gives the same
pub read_enough : (f g : ℕ) (P : Pack) (vars ss : List ℕ) (u : Unread) → 256 ≤ f + u.read → 256 ≤ g + u.read → read_all f P vars ss u ≡ read_all g P vars ss u
unfolding read_all
read_enough zero zero P vars ss u h k = refl
read_enough zero (suc g) P vars [] u h k = refl
read_enough zero (suc g) P vars (s ∷ ss) u h k = bind-same (next_word u) _ _ λ w e. absurd (none_left u w (omega arith) e)
read_enough (suc f) zero P vars [] u h k = refl
read_enough (suc f) zero P vars (s ∷ ss) u h k = bind-same (next_word u) _ _ λ w e. absurd (none_left u w (omega arith) e)
read_enough (suc f) (suc g) P vars [] u h k = refl
read_enough (suc f) (suc g) P vars (s ∷ ss) u h k =
    bind-same (next_word u) _ _ λ w e.
    let n = (next_read u w e).1 in
    bind-same (right (fits P vars s w.word)) _ _ λ _ _. read_enough f g P vars (wanted P w.word ++ ss) w.unread (omega arith) (omega arith)

-- a round of the loop: no sort is wanted
pub read_done : (P : Pack) (vars : List ℕ) (u : Unread) → read_all 256 P vars [] u ≡ good u
unfolding read_all
read_done P vars u = refl

-- a round of the loop: a word is read where s is wanted
pub read_step : (P : Pack) (vars : List ℕ) (s : ℕ) (ss : List ℕ) (u : Unread)
    → read_all 256 P vars (s ∷ ss) u ≡ next_word u >>= λ w. right (fits P vars s w.word) >>= λ _. read_all 256 P vars (wanted P w.word ++ ss) w.unread
unfolding read_all
read_step P vars s ss u = read_enough 256 257 P vars (s ∷ ss) u (omega arith) (omega arith)

-- the prefix words of a term, and of terms
unfoldable mutual
  pub term_words : Term → List ℕ
  term_words (var k) = (variable + k) ∷ []
  term_words (app h ts) = h ∷ terms_words ts

  pub terms_words : Terms → List ℕ
  terms_words nil = []
  terms_words (cons t ts) = term_words t ++ terms_words ts

-- how many they are
mutual
  unfolding term_words words_of

  pub term_length : (t : Term) → length (term_words t) ≡ words_of t
  term_length (var k) = refl
  term_length (app h ts) = ap suc (terms_length ts)

  pub terms_length : (ts : Terms) → length (terms_words ts) ≡ words_of_all ts
  terms_length nil = refl
  terms_length (cons t ts) = length-append (term_words t) (terms_words ts) ∙ ap₂ ◌+◌ (term_length t) (terms_length ts)

-- m words, and n behind them
words-add : (m n : ℕ) (s : List ℕ) → words (m + n) s ≡ words m s ++ words n (drop (4 * m) s)
unfolding words
words-add zero n s = rw (zero-add n)
words-add (suc m) n s =
    let e : 4 * suc m ≡ 4 + 4 * m = omega arith in
    rw (suc-add m n, words, e) (ap (λ (r : List ℕ). le 4 s 0 ∷ r) (words-add m n (drop 4 s) ∙ rw (drop-drop (4 * m) 4 s)))

-- from u to v these words were read: they stand at the front of u, v is what is behind them, and they are counted
abbrev pub Between : List ℕ → Unread → Unread → Type 0
Between ws u v = (words (length ws) u.rest ≡ ws) × (v.rest ≡ drop (4 * length ws) u.rest) × (v.read ≡ u.read + length ws) × (4 * length ws ≤ length u.rest)

-- no words
between_none : (u : Unread) → Between [] u u
unfolding words
between_none u = (refl, refl, omega arith, omega arith)

-- one word
between-word : (u : Unread) (w : Word) → next_word u ≡ good w → Between (w.word ∷ []) u w.unread
unfolding next_word words
between-word u w e =
    let t1 = right_then _ _ _ e in
    let t2 = within_then _ _ _ t1.1 in
    subst (λ (x : Word). Between (x.word ∷ []) u x.unread) (good_eq t2.1) (refl, refl, omega arith, leb-true _ _ t1.0)

-- words, and others behind them
between_both : (xs ys : List ℕ) (u v w : Unread) → Between xs u v → Between ys v w → Between (xs ++ ys) u w
between_both xs ys u v w a b =
    let n : length (xs ++ ys) ≡ length xs + length ys = length-append xs ys in
    let l : length (drop (4 * length xs) u.rest) ≡ length u.rest - 4 * length xs = length-drop (4 * length xs) u.rest in
    let k : length v.rest ≡ length (drop (4 * length xs) u.rest) = ap length a.1 in
    let e : 4 * length xs + 4 * length ys ≡ 4 * length (xs ++ ys) = omega arith in (
      ap (λ (i : ℕ). words i u.rest) n
          ∙ words-add (length xs) (length ys) u.rest
          ∙ ap₂ ◌++◌ a.0 (ap (words (length ys)) (sym a.1) ∙ b.0),
      b.1 ∙ ap (drop (4 * length ys)) a.1 ∙ drop-drop (4 * length ys) (4 * length xs) u.rest ∙ ap (λ (i : ℕ). drop i u.rest) e,
      omega (arith, a.2, b.2),
      omega (arith, a.3, b.3),
    )

-- no sorts, no terms
prefix-none : (d : ℕ) (P : Pack) (vars : List ℕ) (u : Unread) (p : Prefix) → prefix d P vars [] u ≡ good p → p.terms ≡ nil
unfolding prefix
prefix-none zero P vars u p e = ap (λ (q : Prefix). q.terms) (sym (good_eq e))
prefix-none (suc d) P vars u p e = ap (λ (q : Prefix). q.terms) (sym (good_eq e))

-- a term's words: the word that it was made of, and those of the terms that this wanted
made_are : (d : ℕ) (P : Pack) (vars : List ℕ) (w : ℕ) (u : Unread) (p : Prefix) → prefix d P vars (wanted P w) u ≡ good p → term_words (made w p.terms) ≡ w ∷ terms_words p.terms
unfolding wanted made term_words
made_are d P vars w u p e = elim (see (leb variable w)) [
  | is true h ↦
      let none : p.terms ≡ nil = prefix-none d P vars u p (rw (h, wanted) at e) in
      let v : variable + (w - variable) ≡ w = omega tests in
      rw (h, made, none, v)
  | is false h ↦ rw (h, made)
]

-- what is read in prefix order is the terms' words
pub prefix_are : (d : ℕ) (P : Pack) (vars ss : List ℕ) (u : Unread) (p : Prefix) → prefix d P vars ss u ≡ good p → Between (terms_words p.terms) u p.unread
unfolding prefix terms_words
prefix_are zero P vars [] u p e = subst (λ (q : Prefix). Between (terms_words q.terms) u q.unread) (good_eq e) (between_none u)
prefix_are zero P vars (s ∷ ss) u p e = bind_then e λ w _ f. never (cc)
prefix_are (suc d) P vars [] u p e = subst (λ (q : Prefix). Between (terms_words q.terms) u q.unread) (good_eq e) (between_none u)
prefix_are (suc d) P vars (s ∷ ss) u p e =
    bind_then e λ w e1 f1.
    bind_then (right_then _ _ _ f1).1 λ below e2 f2.
    bind_then f2 λ behind e3 f3.
    let a = prefix_are d P vars (wanted P w.word) w.unread below e2 in
    let b = prefix_are (suc d) P vars ss below.unread behind e3 in
    let first = between_both (w.word ∷ []) (terms_words below.terms) u w.unread below.unread (between-word u w e1) a in
    let one = made_are d P vars w.word w.unread below e2 in
    let first' : Between (term_words (made w.word below.terms)) u below.unread = subst (λ (ws : List ℕ). Between ws u below.unread) (sym one) first in
    subst (λ (q : Prefix). Between (terms_words q.terms) u q.unread) (good_eq f3)
    (between_both (term_words (made w.word below.terms)) (terms_words behind.terms) u below.unread behind.unread first' b)

-- terms read by recursion and the others behind them by the loop: the same as all by the loop
pub prefix_loop : (d f g : ℕ) (P : Pack) (vars ss rest : List ℕ) (u : Unread) → 256 ≤ d + u.read → 256 ≤ f + u.read → 256 ≤ g + u.read
    → read_all f P vars (ss ++ rest) u ≡ prefix d P vars ss u >>= λ p. read_all g P vars rest p.unread
unfolding read_all prefix ◌>>=◌
prefix_loop zero f g P vars [] rest u hd hf hg = read_enough f g P vars rest u hf hg
prefix_loop zero zero g P vars (s ∷ ss) rest u hd hf hg = bind_into (next_word u) _ _ _ λ w e. absurd (none_left u w (omega arith) e)
prefix_loop zero (suc f) g P vars (s ∷ ss) rest u hd hf hg = bind_into (next_word u) _ _ _ λ w e. absurd (none_left u w (omega arith) e)
prefix_loop (suc d) f g P vars [] rest u hd hf hg = read_enough f g P vars rest u hf hg
prefix_loop (suc d) zero g P vars (s ∷ ss) rest u hd hf hg = bind_into (next_word u) _ _ _ λ w e. absurd (none_left u w (omega arith) e)
prefix_loop (suc d) (suc f) g P vars (s ∷ ss) rest u hd hf hg =
    bind_into (next_word u) _ _ _ λ w e.
    bind_into (right (fits P vars s w.word)) _ _ _ λ _ _.
    let n = (next_read u w e).1 in
    prefix_loop d f f P vars (wanted P w.word) (ss ++ rest) w.unread (omega arith) (omega arith) (omega arith)
    ∙ bind_into (prefix d P vars (wanted P w.word) w.unread) _ _ _ λ below i.
    let m = (prefix_are d P vars (wanted P w.word) w.unread below i).2 in
    prefix_loop (suc d) f g P vars ss rest below.unread (omega arith) (omega arith) (omega arith)
    ∙ bind_into (prefix (suc d) P vars ss below.unread) _ _ _ λ behind _. refl

-- the same with 256, which is enough wherever the reading starts
pub prefix_read : (P : Pack) (vars ss rest : List ℕ) (u : Unread) → read_all 256 P vars (ss ++ rest) u ≡ prefix 256 P vars ss u >>= λ p. read_all 256 P vars rest p.unread
prefix_read P vars ss rest u = prefix_loop 256 256 256 P vars ss rest u (omega arith) (omega arith) (omega arith)

-- one more at the end
replicate-end : {A : Type 0} (n : ℕ) (a : A) → replicate n a ++ (a ∷ []) ≡ replicate (suc n) a
replicate-end zero a = refl
replicate-end (suc n) a = ap (λ r. a ∷ r) (replicate-end n a)

-- the premises and the conclusion of a rule are one run of the loop
pub rule_read : (P : Pack) (vars : List ℕ) (n : ℕ) (u : Unread)
    → prefix 256 P vars (replicate n prop) u >>= (λ ps. prefix 256 P vars (prop ∷ []) ps.unread >>= λ c. good c.unread) ≡ read_all 256 P vars (replicate (suc n) prop) u
rule_read P vars n u =
    bind-same (prefix 256 P vars (replicate n prop) u) _ _ (λ ps _. bind-same (prefix 256 P vars (prop ∷ []) ps.unread) _ _ (λ c _. sym (read_done P vars c.unread)) ∙ sym (prefix_read P vars (prop ∷ []) [] ps.unread))
    ∙ sym (prefix_read P vars (replicate n prop) (prop ∷ []) u)
    ∙ ap (λ (ss : List ℕ). read_all 256 P vars ss u) (replicate-end n prop)

-- the only term of a list of one has all its words
only_are : (d : ℕ) (P : Pack) (vars : List ℕ) (s : ℕ) (u : Unread) (p : Prefix) → prefix d P vars (s ∷ []) u ≡ good p → terms_words p.terms ≡ term_words (only p.terms)
unfolding prefix only terms_words
only_are zero P vars s u p e = bind_then e λ w _ f. never (cc)
only_are (suc d) P vars s u p e =
    bind_then e λ w _ f1.
    bind_then (right_then _ _ _ f1).1 λ below _ f2.
    bind_then f2 λ behind e3 f3.
    let none : behind.terms ≡ nil = prefix-none (suc d) P vars below.unread behind e3 in
    subst (λ (q : Prefix). terms_words q.terms ≡ term_words (only q.terms)) (good_eq f3) (rw none (append-nil (term_words (made w.word below.terms))))

-- a rule's n premises and its conclusion that were read from u to v
pub record RuleRead (P : Pack) (vars : List ℕ) (n : ℕ) (u v : Unread) : Type 0 where
  pub ps : Prefix
  pub c : Prefix
  pub premises : prefix 256 P vars (replicate n prop) u ≡ good ps
  pub conclusion : prefix 256 P vars (prop ∷ []) ps.unread ≡ good c
  pub left : c.unread ≡ v
  pub between : Between (terms_words ps.terms ++ term_words (only c.terms)) u v

-- where the loop ends well, so do both readings
pub rule_good : (P : Pack) (vars : List ℕ) (n : ℕ) (u v : Unread) → read_all 256 P vars (replicate (suc n) prop) u ≡ good v → RuleRead P vars n u v
rule_good P vars n u v e =
    bind_then (rule_read P vars n u ∙ e) λ ps e1 f1.
    bind_then f1 λ c e2 f2.
    let left : c.unread ≡ v = good_eq f2 in
    let a = prefix_are 256 P vars (replicate n prop) u ps e1 in
    let b = prefix_are 256 P vars (prop ∷ []) ps.unread c e2 in
    let both = between_both (terms_words ps.terms) (terms_words c.terms) u ps.unread c.unread a b in
    let one = only_are 256 P vars prop ps.unread c e2 in
    record { ps = ps; c = c; premises = e1; conclusion = e2; left = left; between = subst (λ (x : Unread). Between (terms_words ps.terms ++ term_words (only c.terms)) u x) left (subst (λ (ws : List ℕ). Between (terms_words ps.terms ++ ws) u c.unread) one both) }

-- where the loop ends against the form, or over the limit, so do both readings, whatever is done behind them
pub rule_bad : {A : Type 0} (P : Pack) (vars : List ℕ) (n : ℕ) (u : Unread) (k : Prefix → Prefix → Checked A) → read_all 256 P vars (replicate (suc n) prop) u ≡ bad
    → prefix 256 P vars (replicate n prop) u >>= (λ ps. prefix 256 P vars (prop ∷ []) ps.unread >>= λ c. k ps c) ≡ bad
rule_bad P vars n u k e =
    bind_bad (prefix 256 P vars (replicate n prop) u) _ _ (λ ps. bind_bad (prefix 256 P vars (prop ∷ []) ps.unread) _ _ (λ c f. never (cc))) (rule_read P vars n u ∙ e)

pub rule-over : {A : Type 0} (P : Pack) (vars : List ℕ) (n : ℕ) (u : Unread) (k : Prefix → Prefix → Checked A) → read_all 256 P vars (replicate (suc n) prop) u ≡ over
    → prefix 256 P vars (replicate n prop) u >>= (λ ps. prefix 256 P vars (prop ∷ []) ps.unread >>= λ c. k ps c) ≡ over
rule-over P vars n u k e =
    bind-over (prefix 256 P vars (replicate n prop) u) _ _ (λ ps. bind-over (prefix 256 P vars (prop ∷ []) ps.unread) _ _ (λ c f. never (cc))) (rule_read P vars n u ∙ e)
