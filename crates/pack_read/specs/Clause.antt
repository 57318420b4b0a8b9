-- Terms whose words are those of a rule from some place on, and passing over them.
use Rattle.std.specs.Prelude.{◌≡◌, List, ◌++◌, get_or, replicate}
use Rattle.std.proofs.Common.{sym, ◌∙◌, length-append, length-drop}
use Rattle.std.proofs.Math.Path.{ap}
use Prim.Native.Nat.{ℕ, suc, ◌+◌, ◌-◌, ◌<◌, ◌≤◌}
use native.Mathlib.Omega.{arith}
use Rattle.std.proofs.Math.ListN.{length, get_or-append}
use Rattle.definition.specs.Pack.{prop, Terms, nil, Pack, symbol_of, rule_of}
use Rattle.definition.specs.Certificate.{count}
use Rattle.definition.specs.Theory.{variable}
use Rattle.definition.specs.Good.{SortedAll, Good}
use Rattle.definition.proofs.Laws.Prefix.{term_words, terms_words, term_length, terms_length}
use Rattle.definition.proofs.Laws.Suffix.{next, after, Ahead, a_variable, a_symbol, after_sorted, after-words, after-ahead, words_some, sorts-many, joined-many, none_left, judgments_sorted}
use Rattle.pack_read.specs.Reads.{rule_words}
use Rattle.pack_read.specs.Held.{Proper}

-- a rule has at most 256 words
pub words-most : (P : Pack) → Good P → (r : ℕ) → r < length P.rules → length (rule_words (rule_of P r)) ≤ 256
words-most P G r l =
    let x = rule_of P r in
    omega (arith, length-append (terms_words x.premises) (term_words x.conclusion), term_length x.conclusion, terms_length x.premises, (G.rules r l).words)

-- the terms' words are the rule's from a place on
pub record Spelt (P : Pack) (r vars from : ℕ) (ts : Terms) : Type 0 where
  pub rule : r < length P.rules
  pub many : vars ≡ length (rule_of P r).vars
  pub words : (j : ℕ) → j < length (terms_words ts) → get_or (rule_words (rule_of P r)) (from + j) 0 ≡ get_or (terms_words ts) j 0
  pub within : from + length (terms_words ts) ≤ length (rule_words (rule_of P r))
  pub sorts : List ℕ
  pub sorted : SortedAll P (rule_of P r).vars ts sorts

-- so many terms
abbrev pub SpeltAll : Pack → ℕ → ℕ → ℕ → ℕ → Type 0
SpeltAll P r vars from n = (ts : Terms) × Spelt P r vars from ts × (count ts ≡ n)

-- how many terms follow a word: as many as the symbol has inputs, none behind a variable
pub data Behind (P : Pack) (w n : ℕ) : Type 0 where
  follows : w < variable → n ≡ length (symbol_of P w).inputs → Behind P w n
  alone : variable ≤ w → n ≡ 0 → Behind P w n

-- ahead of word i of the rule so many of the terms' own terms are still to come
pub record Passing (P : Pack) (from : ℕ) (ts : Terms) (i left : ℕ) : Type 0 where
  pub low : from ≤ i
  pub within : i - from ≤ length (terms_words ts)
  pub many : count (after ts (i - from)) ≡ left

module _ (P : Pack) (Q : Proper P) (r vars from : ℕ) (ts : Terms) (S : Spelt P r vars from ts) where
  -- ahead of the first word all are
  pub passing_first : (n : ℕ) → count ts ≡ n → Passing P from ts from n
  unfolding after
  passing_first n e = let z : from - from ≡ 0 = omega arith in record { low = omega arith; within = omega arith; many = ap (λ (j : ℕ). count (after ts j)) z ∙ e }

  module _ (i left : ℕ) (p : Passing P from ts i left) where
    -- the words from there on are those of the terms still to come
    rest_long : length (terms_words (after ts (i - from))) ≡ length (terms_words ts) - (i - from)
    rest_long = sym (ap length (after-words ts (i - from) p.within)) ∙ length-drop (i - from) (terms_words ts)

    pub passing_few : (left ≤ 256) × (i ≤ 256)
    passing_few =
        let q = after_sorted P (rule_of P r).vars ts S.sorts S.sorted (i - from) in
        let w = words-most P Q.good r S.rule in (
          omega (arith, p.many, sorts-many P (rule_of P r).vars (after ts (i - from)) q.0 q.1, words_some P (rule_of P r).vars (after ts (i - from)) q.0 q.1, rest_long, S.within, w),
          omega (arith, p.low, p.within, S.within, w),
        )

    -- none is: the words are passed
    pub passing_done : left ≡ 0 → i ≡ from + length (terms_words ts)
    unfolding terms_words
    passing_done z =
        let e : after ts (i - from) ≡ nil = none_left (after ts (i - from)) (p.many ∙ z) in
        let n : length (terms_words (after ts (i - from))) ≡ 0 = ap (λ (us : Terms). length (terms_words us)) e in
        omega (arith, rest_long, n, p.low, p.within)

    -- one is: there is a word more
    module _ (some : 0 < left) where
      more : 0 < length (terms_words (after ts (i - from)))
      more =
          let q = after_sorted P (rule_of P r).vars ts S.sorts S.sorted (i - from) in
          omega (arith, some, p.many, sorts-many P (rule_of P r).vars (after ts (i - from)) q.0 q.1, words_some P (rule_of P r).vars (after ts (i - from)) q.0 q.1)

      inside : i - from < length (terms_words ts)
      inside = omega (arith, more, rest_long)

      pub passing_there : i < length (rule_words (rule_of P r))
      passing_there = omega (arith, inside, p.low, S.within)

      module _ (w : ℕ) (word : w ≡ get_or (rule_words (rule_of P r)) i 0) where
        here : Ahead P (rule_of P r).vars (after ts (i - from)) w
        here =
            let e : i ≡ from + (i - from) = omega (arith, p.low) in
            let f : w ≡ get_or (terms_words ts) (i - from) 0 = word ∙ ap (λ (k : ℕ). get_or (rule_words (rule_of P r)) k 0) e ∙ S.words (i - from) inside in
            rw f (after-ahead P (rule_of P r).vars ts S.sorts S.sorted (i - from) inside)

        pub passing_symbol : w < variable → w < length P.symbols
        passing_symbol m = go here
          where
            go : Ahead P (rule_of P r).vars (after ts (i - from)) w → w < length P.symbols
            go (a_variable k us rs e q b s) = absurd (omega (arith, q, m))
            go (a_symbol h us vs rs e q b s t) = omega (arith, q, b)

        -- how many are to come behind it
        count_next : (n : ℕ) → Behind P w n → Ahead P (rule_of P r).vars (after ts (i - from)) w → count (next (after ts (i - from))) ≡ left - 1 + n
        unfolding next count
        count_next n (follows m a) (a_variable k us rs e q b s) = absurd (omega (arith, q, m))
        count_next n (alone m a) (a_variable k us rs e q b s) = ap (λ (vs : Terms). count (next vs)) e ∙ omega (arith, p.many, ap count e, a)
        count_next n (follows m a) (a_symbol h us vs rs e q b s t) =
            let c = sorts-many P (rule_of P r).vars us (symbol_of P h).inputs s in
            let d = ap (λ (x : ℕ). length (symbol_of P x).inputs) q in
            ap (λ (ys : Terms). count (next ys)) e ∙ joined-many us vs ∙ omega (arith, p.many, ap count e, a, c, d)
        count_next n (alone m a) (a_symbol h us vs rs e q b s t) = absurd (omega (arith, q, b, Q.few.symbols, m))

        pub passing_next : (n : ℕ) → Behind P w n → Passing P from ts (i + 1) (left - 1 + n)
        unfolding after
        passing_next n B =
            let e : i + 1 - from ≡ suc (i - from) = omega (arith, p.low) in
            record { low = omega (arith, p.low); within = omega (arith, inside, p.low); many = ap (λ (k : ℕ). count (after ts k)) e ∙ count_next n B here }

-- the premises' words are the rule's first
pub premises_spelt : (P : Pack) → Proper P → (r : ℕ) → r < length P.rules → (vars : ℕ) → vars ≡ length (rule_of P r).vars → Spelt P r vars 0 (rule_of P r).premises
premises_spelt P Q r l vars e =
    let A : List ℕ = terms_words (rule_of P r).premises in
    let C : List ℕ = term_words (rule_of P r).conclusion in
    record {
      rule = l;
      many = e;
      words = λ j h. let z : 0 + j ≡ j = omega arith in ap (λ (k : ℕ). get_or (A ++ C) k 0) z ∙ get_or-append A C 0 j h;
      within = omega (arith, length-append A C);
      sorts = replicate (count (rule_of P r).premises) prop;
      sorted = judgments_sorted P (rule_of P r).vars (rule_of P r).premises (Q.good.rules r l).premises;
    }
