-- Document 01, "The pack": sorts, symbols and rules.
use Rattle.std.specs.Prelude.{Bool, true, false, not, List, [], ◌∷◌, map, ℕ, zero, suc, ◌+◌, ◌*◌, ◌-◌, eqb, ltb, leb, length, get_or, drop, replicate}
use Rattle.definition.specs.Test.{◌and◌, all, any, same}
use Rattle.definition.specs.Little.{le}
use Rattle.definition.specs.Pack.{prop, most_sorts, most_symbols, most_arity, most_rules, most_variables, most_premises, most_words, most_name, Symbol, Term, Terms, var, app, nil, cons, Rule, Pack, symbol_of, with_sort, with_symbol, with_rule}
use Rattle.definition.specs.Frame.{Checked, good, over, ◌>>=◌, right, within}

-- "bytes of 33 to 126, no round bracket"
unfoldable pub name_byte : ℕ → Bool
unfolding ◌and◌
name_byte b = leb 33 b and leb b 126 and not (eqb b 40) and not (eqb b 41)

-- "Names fill the rest of their body: 1 to 64 bytes of 33 to 126, no round bracket, no leading `?`"
unfoldable pub is_name : List ℕ → Bool
unfolding ◌and◌ all name_byte
is_name n = leb 1 (length n) and leb (length n) most_name and all name_byte n and not (eqb (get_or n 0 0) 63)

-- a name that none of these has: "unique in their kind"
unfoldable pub new_name : List ℕ → List (List ℕ) → Bool
unfolding ◌and◌ is_name any same
new_name n names = is_name n and not (any (same n) names)

-- n words
unfoldable pub words : ℕ → List ℕ → List ℕ
unfolding le
words zero s = []
words (suc n) s = le 4 s 0 ∷ words n (drop 4 s)

-- 1 sort: name. "Most: 256 sorts"
unfoldable pub take_sort : Pack → List ℕ → Checked Pack
unfolding new_name with_sort
take_sort P body = do
  _ ← within (ltb (length P.sorts) most_sorts)
  _ ← right (new_name body P.sorts)
  good (with_sort P body)

-- a sort that was given
unfoldable pub is_sort : Pack → ℕ → Bool
is_sort P s = ltb s (length P.sorts)

-- an output sort, or the mark of a predicate
unfoldable pub is_output : Pack → ℕ → Bool
unfolding is_sort
is_output P s = elim (eqb s prop) [ true ↦ true | false ↦ is_sort P s ]

-- 2 symbol: output sort, u16 arity, input sorts, name. "4,096 symbols, arity 16"; predicates and constructors have names apart
unfoldable pub take_symbol : Pack → List ℕ → Checked Pack
unfolding new_name le words all is_sort is_output ◌and◌ with_symbol
take_symbol P body = do
  _ ← within (ltb (length P.symbols) most_symbols)
  _ ← right (leb 6 (length body))
  let arity = le 2 body 4
  _ ← within (leb arity most_arity)
  _ ← right (leb (6 + 4 * arity) (length body))
  let inputs = words arity (drop 6 body)
  let name = drop (6 + 4 * arity) body
  _ ← right (is_output P (le 4 body 0) and all (is_sort P) inputs)
  _ ← right (new_name name (map (λ (y : Symbol). y.name) P.symbols))
  good (with_symbol P (record { output = le 4 body 0; inputs = inputs; name = name }))

-- what is left of a rule's body, and how many prefix words were read
pub record Unread : Type 0 where
  pub rest : List ℕ
  pub read : ℕ

-- a prefix word, and what is left behind it
pub record Word : Type 0 where
  pub word : ℕ
  pub unread : Unread

-- the next word: "256 prefix words a rule", "the 257th prefix word where reading reaches it"
unfoldable pub next_word : Unread → Checked Word
unfolding le
next_word u = do
  _ ← right (leb 4 (length u.rest))
  _ ← within (ltb u.read most_words)
  good (record { word = le 4 u.rest 0; unread = record { rest = drop 4 u.rest; read = suc u.read } })

-- "symbol number, or 2^31 + variable number"
abbrev pub variable : ℕ
variable = 2147483648

-- a word that may stand where a term of sort s is wanted
unfoldable pub fits : Pack → List ℕ → ℕ → ℕ → Bool
unfolding ◌and◌ symbol_of
fits P vars s w =
    elim (leb variable w) [
      | true ↦ ltb (w - variable) (length vars) and eqb (get_or vars (w - variable) 0) s
      | false ↦ ltb w (length P.symbols) and eqb (symbol_of P w).output s
    ]

-- the sorts of the terms that follow a word
unfoldable pub wanted : Pack → ℕ → List ℕ
unfolding symbol_of
wanted P w = elim (leb variable w) [ true ↦ [] | false ↦ (symbol_of P w).inputs ]

-- the term of a word and the terms behind it
unfoldable pub made : ℕ → Terms → Term
made w ts = elim (leb variable w) [ true ↦ var (w - variable) | false ↦ app w ts ]

-- terms in prefix order, and what is left behind them
pub record Prefix : Type 0 where
  pub terms : Terms
  pub unread : Unread

-- terms of the sorts wanted, in prefix order, at most d deep
unfoldable pub prefix : ℕ → Pack → List ℕ → List ℕ → Unread → Checked Prefix
unfolding next_word fits wanted made
prefix zero P vars [] u = good (record { terms = nil; unread = u })
prefix zero P vars (s ∷ ss) u = next_word u >>= λ w. over
prefix (suc d) P vars [] u = good (record { terms = nil; unread = u })
prefix (suc d) P vars (s ∷ ss) u = do
  w ← next_word u
  _ ← right (fits P vars s w.word)
  below ← prefix d P vars (wanted P w.word) w.unread
  behind ← prefix (suc d) P vars ss below.unread
  good (record { terms = cons (made w.word below.terms) behind.terms; unread = behind.unread })

-- the only term of a list of one
unfoldable pub only : Terms → Term
only nil = var 0
only (cons t ts) = t

-- 3 rule: u16 variables, u16 premises, the variables' sorts, premises and conclusion in prefix order, name.
-- "4,096 rules, 64 variables, 16 premises"; no term of 256 words is deeper than 256
unfoldable pub take_rule : Pack → List ℕ → Checked Pack
unfolding new_name le words all is_sort ◌and◌ prefix only with_rule
take_rule P body = do
  _ ← within (ltb (length P.rules) most_rules)
  _ ← right (leb 4 (length body))
  let variables = le 2 body 0
  let premises = le 2 body 2
  _ ← within (leb variables most_variables and leb premises most_premises)
  _ ← right (leb (4 + 4 * variables) (length body))
  let vars = words variables (drop 4 body)
  _ ← right (all (is_sort P) vars)
  ps ← prefix most_words P vars (replicate premises prop) (record { rest = drop (4 + 4 * variables) body; read = 0 })
  c ← prefix most_words P vars (prop ∷ []) ps.unread
  let name = c.unread.rest
  _ ← right (new_name name (map (λ (y : Rule). y.name) P.rules))
  good (with_rule P (record { vars = vars; premises = ps.terms; conclusion = only c.terms; name = name }))
