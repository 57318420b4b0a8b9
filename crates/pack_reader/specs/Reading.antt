-- What the functions that read a rule's terms ask and answer.
use Rattle.std.specs.Prelude.{Option, Some, None}
use Rattle.std.specs.Prelude.{◌≡◌, refl, Bool, true, false, List, [], ◌∷◌, ◌++◌, ℕ, ◌+◌, ◌*◌, ◌-◌, ◌≤◌, ◌<◌, eqb, length, get_or, set, drop}
use Rattle.std.proofs.Common.{sym, ap, ◌∙◌, arith, lt-ltb, le-ltb, length-set, get_or-set_same, get_or-set_other}
use Rattle.std.proofs.Math.Decide.{ℕ_discrete}
use Rattle.definition.specs.Test.{◌and◌}
use Rattle.definition.specs.Little.{le}
use Rattle.definition.specs.Pack.{Pack, prop, symbol_of}
use Rattle.definition.specs.Theory.{words, variable, fits, wanted}
use Rattle.definition.proofs.Laws.Decide.{and_no_left}
use Rattle.definition.proofs.Laws.Put.{length-words}
use Rattle.pack_tables.specs.Place.{Place}
use Rattle.pack_read.specs.Body.{body_of}
use Rattle.pack_read.specs.Laws.{word-from}
use Rattle.pack_read.specs.Reads.{Reads, length_symbols}
use Rattle.pack_read.specs.Says.{arity_read}
use Rattle.pack_reader.specs.Terms.{frame_symbol, frame_next, wanted_by, wanted-judgment, wanted-none, wanted_argument, frame-done, frame_on, frame-more, fits-variable, fits-symbol, wanted-variable, wanted-symbol}
use Rattle.pack_reader.specs.declared.terms.Point.{Point}

-- each of n frames is a symbol with an argument to come
pub record Stacked (bytes : List ℕ) (rs : ℕ → List Place) (fs : List ℕ) (n : ℕ) : Type 0 where
  pub long : length fs ≡ 512
  pub few : n ≤ 256
  pub symbol : (j : ℕ) → j < n → frame_symbol fs j < length (rs 1)
  pub next : (j : ℕ) → j < n → frame_next fs j < le 2 (body_of bytes (rs 1) (frame_symbol fs j)) 4

-- what `next_sort` answers
pub record Wanted (bytes : List ℕ) (rs : ℕ → List Place) (fs fs' : List ℕ) (p : Point) (s : ℕ) (q : Point) : Type 0 where
  pub at : q.at ≡ p.at
  pub read : q.read ≡ p.read
  pub frames : q.frames ≤ p.frames
  pub stacked : Stacked bytes rs fs' q.frames
  pub wants : (P : Pack) → Reads bytes rs P → wanted_by P fs p.frames p.left ≡ s ∷ wanted_by P fs' q.frames q.left

abbrev pub Wants : List ℕ → (ℕ → List Place) → List ℕ → List ℕ → Point → Option (ℕ × Point) → Type 0
Wants bytes rs fs fs' p (Some (s, q)) = Wanted bytes rs fs fs' p s q
Wants bytes rs fs fs' p None = (P : Pack) → Reads bytes rs P → wanted_by P fs p.frames p.left ≡ []

module _ (bytes : List ℕ) (rs : ℕ → List Place) (fs : List ℕ) (p : Point) (S : Stacked bytes rs fs p.frames) where
  pub no_more : p.frames ≡ 0 → p.left ≡ 0 → Wants bytes rs fs fs p None
  no_more e f P r = rw (e, f) (wanted-none P fs)

  pub a_judgment : (q : Point) → q.at ≡ p.at → q.read ≡ p.read → q.frames ≡ 0 → p.frames ≡ 0 → p.left ≡ q.left + 1 → Wanted bytes rs fs fs p prop q
  a_judgment q a r f e l = record {
    at = a;
    read = r;
    frames = omega arith;
    stacked = record { long = S.long; few = omega arith; symbol = λ j h. absurd (omega arith); next = λ j h. absurd (omega arith) };
    wants = λ P R. rw (e, l, f) (wanted-judgment P fs q.left);
  }

  module _ (n : ℕ) (e : p.frames ≡ n + 1) where
    arity : (P : Pack) → Reads bytes rs P → le 2 (body_of bytes (rs 1) (frame_symbol fs n)) 4 ≡ length (symbol_of P (frame_symbol fs n)).inputs
    arity P R = arity_read bytes rs P R (frame_symbol fs n) (S.symbol n (omega arith))

    -- the last argument of the last frame
    pub last_argument : (q : Point) (s a : ℕ) → q.at ≡ p.at → q.read ≡ p.read → q.frames ≡ n → q.left ≡ p.left
        → ((P : Pack) → Reads bytes rs P → s ≡ get_or (symbol_of P (frame_symbol fs n)).inputs (frame_next fs n) 0) → ((P : Pack) → Reads bytes rs P → a ≡ length (symbol_of P (frame_symbol fs n)).inputs)
        → a ≤ frame_next fs n + 1 → Wanted bytes rs fs fs p s q
    last_argument q s a at read f l sort many h = record {
      at = at;
      read = read;
      frames = omega arith;
      stacked = record { long = S.long; few = omega (arith, S.few); symbol = λ j k. S.symbol j (omega arith); next = λ j k. S.next j (omega arith) };
      wants = λ P R.
          rw (e, f, l, sort P R)
          (wanted_argument P fs n p.left (omega (arith, S.next n (omega arith), arity P R))
          ∙ ap (λ (ss : List ℕ). get_or (symbol_of P (frame_symbol fs n)).inputs (frame_next fs n) 0 ∷ ss) (frame-done P fs n p.left (omega (arith, many P R))));
    }

    -- one of its others
    pub an_argument : (s a : ℕ) → ((P : Pack) → Reads bytes rs P → s ≡ get_or (symbol_of P (frame_symbol fs n)).inputs (frame_next fs n) 0) → ((P : Pack) → Reads bytes rs P → a ≡ length (symbol_of P (frame_symbol fs n)).inputs)
        → (P : Pack) → Reads bytes rs P → frame_next fs n + 1 < a → Wanted bytes rs fs (set fs (2 * n + 1) (frame_next fs n + 1)) p s p
    an_argument s a sort many Q T h = record {
      at = refl;
      read = refl;
      frames = omega arith;
      stacked = record {
        long = length-set fs (2 * n + 1) (frame_next fs n + 1) ∙ S.long;
        few = S.few;
        symbol = λ j k. rw (symbol-same j) (S.symbol j k);
        next = λ j k. next-at j k (ℕ_discrete j n);
      };
      wants = λ P R.
          rw (e, sort P R)
          (wanted_argument P fs n p.left (omega (arith, S.next n (omega arith), arity P R))
          ∙ ap (λ (ss : List ℕ). get_or (symbol_of P (frame_symbol fs n)).inputs (frame_next fs n) 0 ∷ ss) (frame_on P fs n p.left (omega (arith, S.long, S.few))));
    }
      where
        symbol-same : (j : ℕ) → frame_symbol (set fs (2 * n + 1) (frame_next fs n + 1)) j ≡ frame_symbol fs j
        symbol-same j = get_or-set_other fs (2 * n + 1) (2 * j) (frame_next fs n + 1) 0 (omega arith)

        next-at : (j : ℕ) → j < p.frames → Dec (j ≡ n) → frame_next (set fs (2 * n + 1) (frame_next fs n + 1)) j < le 2 (body_of bytes (rs 1) (frame_symbol (set fs (2 * n + 1) (frame_next fs n + 1)) j)) 4
        next-at j k (yes q) =
            let v : frame_next (set fs (2 * n + 1) (frame_next fs n + 1)) j ≡ frame_next fs n + 1 = ap (λ (i : ℕ). get_or (set fs (2 * n + 1) (frame_next fs n + 1)) (2 * i + 1) 0) q ∙ get_or-set_same fs (2 * n + 1) (frame_next fs n + 1) 0 (omega (arith, S.long, S.few)) in
            rw (v, symbol-same j, q) (omega (arith, many Q T, arity Q T))
        next-at j k (no d) =
            rw (symbol-same j, get_or-set_other fs (2 * n + 1) (2 * j + 1) (frame_next fs n + 1) 0 (omega arith)) (S.next j k)

-- ---- which words fit: what `fits_at` answers
abbrev pub Fitting : List ℕ → (ℕ → List Place) → List ℕ → ℕ → ℕ → ℕ → Bool → Type 0
Fitting bytes rs body vars s w r = (P : Pack) → Reads bytes rs P → r ≡ fits P (words vars (drop 4 body)) s w

and_then : (a b : Bool) → a ≡ true → a and b ≡ b
unfolding ◌and◌
and_then a b e = rw (e, ◌and◌)

module _ (bytes : List ℕ) (rs : ℕ → List Place) (body : List ℕ) (vars s w : ℕ) where
  abbrev sorts : List ℕ
  sorts = words vars (drop 4 body)

  pub no_variable : variable ≤ w → vars ≤ w - variable → Fitting bytes rs body vars s w false
  no_variable h l P R =
      sym (fits-variable P sorts s w h ∙ and_no_left _ (eqb (get_or sorts (w - variable) 0) s) (le-ltb (w - variable) (length sorts) (omega (arith, length-words vars (drop 4 body)))))

  pub a_variable : variable ≤ w → w - variable < vars → (x : ℕ) → x ≡ le 4 body (4 + 4 * (w - variable)) → Fitting bytes rs body vars s w (eqb x s)
  a_variable h l x e P R =
      ap (λ (y : ℕ). eqb y s) (e ∙ sym (word-from 4 vars (w - variable) body l))
      ∙ sym (fits-variable P sorts s w h ∙ and_then _ (eqb (get_or sorts (w - variable) 0) s) (lt-ltb (w - variable) (length sorts) (omega (arith, length-words vars (drop 4 body)))))

  pub no_symbol : w < variable → length (rs 1) ≤ w → Fitting bytes rs body vars s w false
  no_symbol h l P R =
      sym (fits-symbol P sorts s w h ∙ and_no_left _ (eqb (symbol_of P w).output s) (le-ltb w (length P.symbols) (omega (arith, length_symbols bytes rs P R))))

  pub a_symbol : w < variable → w < length (rs 1) → (x : ℕ) → ((P : Pack) → Reads bytes rs P → x ≡ (symbol_of P w).output) → Fitting bytes rs body vars s w (eqb x s)
  a_symbol h l x e P R =
      ap (λ (y : ℕ). eqb y s) (e P R)
      ∙ sym (fits-symbol P sorts s w h ∙ and_then _ (eqb (symbol_of P w).output s) (lt-ltb w (length P.symbols) (omega (arith, length_symbols bytes rs P R))))

-- ---- the frames behind a word: what `descend` answers
pub record Descended (bytes : List ℕ) (rs : ℕ → List Place) (fs fs' : List ℕ) (p : Point) (w : ℕ) (q : Point) : Type 0 where
  pub at : q.at ≡ p.at
  pub read : q.read ≡ p.read
  pub left : q.left ≡ p.left
  pub frames : q.frames ≤ p.frames + 1
  pub stacked : Stacked bytes rs fs' q.frames
  pub wants : (P : Pack) → Reads bytes rs P → wanted P w ++ wanted_by P fs p.frames p.left ≡ wanted_by P fs' q.frames q.left

module _ (bytes : List ℕ) (rs : ℕ → List Place) (fs : List ℕ) (p : Point) (w : ℕ) (S : Stacked bytes rs fs p.frames) where
  -- a variable or a constant
  nothing-more : ((P : Pack) → Reads bytes rs P → wanted P w ≡ []) → Descended bytes rs fs fs p w p
  nothing-more e = record {
    at = refl;
    read = refl;
    left = refl;
    frames = omega arith;
    stacked = S;
    wants = λ P R. ap (λ (l : List ℕ). l ++ wanted_by P fs p.frames p.left) (e P R);
  }

  pub variable-more : variable ≤ w → Descended bytes rs fs fs p w p
  variable-more h = nothing-more (λ P R. wanted-variable P w h)

  pub constant_more : w < variable → (a : ℕ) → ((P : Pack) → Reads bytes rs P → a ≡ length (symbol_of P w).inputs) → a ≡ 0 → Descended bytes rs fs fs p w p
  constant_more h a many z = nothing-more (λ P R. wanted-symbol P w h ∙ none (symbol_of P w).inputs (sym (many P R) ∙ z))
    where
      none : (l : List ℕ) → length l ≡ 0 → l ≡ []
      none [] e = refl
      none (x ∷ l) e = absurd (omega arith)

  -- a symbol with arguments
  abbrev more : List ℕ
  more = set (set fs (2 * p.frames) w) (2 * p.frames + 1) 0

  pub arguments_more : w < variable → w < length (rs 1) → p.frames < 256 → (a : ℕ) → ((P : Pack) → Reads bytes rs P → a ≡ length (symbol_of P w).inputs) → (P : Pack) → Reads bytes rs P → 0 < a
      → (q : Point) → q.at ≡ p.at → q.read ≡ p.read → q.left ≡ p.left → q.frames ≡ p.frames + 1
      → Descended bytes rs fs more p w q
  arguments_more h l few a many Q T some q at read left f = record {
    at = at;
    read = read;
    left = left;
    frames = omega arith;
    stacked = record {
      long = length-set (set fs (2 * p.frames) w) (2 * p.frames + 1) 0 ∙ length-set fs (2 * p.frames) w ∙ S.long;
      few = omega arith;
      symbol = λ j k. symbol-at j (omega arith) (ℕ_discrete j p.frames);
      next = λ j k. next-at j (omega arith) (ℕ_discrete j p.frames);
    };
    wants = λ P R. rw (f, left) (ap (λ (x : List ℕ). x ++ wanted_by P fs p.frames p.left) (wanted-symbol P w h) ∙ frame-more P fs p.frames p.left w (omega (arith, S.long)));
  }
    where
      symbol-new : (j : ℕ) → j ≡ p.frames → frame_symbol more j ≡ w
      symbol-new j e = ap (frame_symbol more) e ∙ get_or-set_other (set fs (2 * p.frames) w) (2 * p.frames + 1) (2 * p.frames) 0 0 (omega arith) ∙ get_or-set_same fs (2 * p.frames) w 0 (omega (arith, S.long))

      next-new : (j : ℕ) → j ≡ p.frames → frame_next more j ≡ 0
      next-new j e = ap (frame_next more) e ∙ get_or-set_same (set fs (2 * p.frames) w) (2 * p.frames + 1) 0 0 (omega (arith, S.long, length-set fs (2 * p.frames) w))

      old : (i : ℕ) → i < 2 * p.frames → get_or more i 0 ≡ get_or fs i 0
      old i k = get_or-set_other (set fs (2 * p.frames) w) (2 * p.frames + 1) i 0 0 (omega arith) ∙ get_or-set_other fs (2 * p.frames) i w 0 (omega arith)

      symbol-at : (j : ℕ) → j ≤ p.frames → Dec (j ≡ p.frames) → frame_symbol more j < length (rs 1)
      symbol-at j k (yes e) = rw (symbol-new j e) l
      symbol-at j k (no d) = rw (old (2 * j) (omega arith)) (S.symbol j (omega arith))

      next-at : (j : ℕ) → j ≤ p.frames → Dec (j ≡ p.frames) → frame_next more j < le 2 (body_of bytes (rs 1) (frame_symbol more j)) 4
      next-at j k (yes e) = rw (next-new j e, symbol-new j e) (omega (arith, many Q T, arity_read bytes rs Q T w l))
      next-at j k (no d) = rw (old (2 * j) (omega arith), old (2 * j + 1) (omega arith)) (S.next j (omega arith))
