-- A rule's words against nodes, word by word, with a stack of the nodes still to be matched: the same as the definition's matching.
use Rattle.std.specs.Prelude.{◌≡◌, refl, Bool, true, false, List, [], ◌∷◌, ◌++◌, ℕ, suc, ◌+◌, ◌-◌, ◌<◌, eqb, leb, length, replicate}
use Rattle.std.proofs.Common.{sym, ap, ◌∙◌, append-nil, append_assoc, arith, le-leb, eqb-true}
use Rattle.std.proofs.Math.Option.{Option, none, some}
use Rattle.std.proofs.lemmas.Bool.{lt-leb}
use Rattle.std.proofs.lemmas.List.{length-replicate}
use Rattle.definition.specs.Pack.{prop, Term, Terms, var, app, nil, cons, Rule, Step, Pack, symbol_of, rule_of, node_of, step_of}
use Rattle.definition.specs.Theory.{variable}
use Rattle.definition.specs.Certificate.{count}
use Rattle.definition.specs.Verdict.{Bound, value_of, bound, provided, onwards, matches, match_all, matched, passes}
use Rattle.definition.specs.Good.{Below, Sorted, SortedAll, Good, Few}
use Rattle.definition.proofs.Laws.Prefix.{term_words, terms_words}
use Rattle.definition.proofs.Laws.Suffix.{judgments_sorted}
use Rattle.definition.proofs.Laws.Tree.{args-below, arguments_many}
use Rattle.definition.proofs.Laws.Grow.{below_more}
use Rattle.definition.proofs.Laws.Agreement.{judged, judged-below, onwards-same}
use Rattle.pack_read.specs.Reads.{rule_words}

-- each word takes its node off the stack; a symbol puts the node's arguments on it
unfoldable pub match_words : Pack → List ℕ → List ℕ → List Bound → Option (List Bound)
unfolding node_of value_of bound provided onwards
match_words P [] [] bs = some bs
match_words P [] (n ∷ ns) bs = none
match_words P (w ∷ ws) [] bs = none
match_words P (w ∷ ws) (n ∷ ns) bs =
    elim (leb variable w) [
      | true ↦ onwards (bound (w - variable) n bs (value_of (w - variable) bs)) (λ cs. match_words P ws ns cs)
      | false ↦ provided (eqb (node_of P n).head w) (match_words P ws ((node_of P n).args ++ ns) bs)
    ]

-- to go on twice
pub onwards_twice : (m : Option (List Bound)) (f g : List Bound → Option (List Bound)) → onwards m (λ bs. onwards (f bs) g) ≡ onwards (onwards m f) g
unfolding onwards
onwards_twice none f g = refl
onwards_twice (some bs) f g = refl

-- to stop there
pub onwards_stop : (m : Option (List Bound)) → onwards m (λ bs. some bs) ≡ m
unfolding onwards
onwards_stop none = refl
onwards_stop (some bs) = refl

-- a test ahead of going on
pub provided-onwards : (t : Bool) (r m : Option (List Bound)) (g : List Bound → Option (List Bound)) → (t ≡ true → r ≡ onwards m g) → provided t r ≡ onwards (provided t m) g
unfolding provided onwards
provided-onwards true r m g h = h refl
provided-onwards false r m g h = refl

module _ (P : Pack) (G : Good P) (F : Few P) (vars : List ℕ) where
  -- a symbol's number is no variable's word
  pub symbol-word : (h : ℕ) → h < length P.symbols → leb variable h ≡ false
  symbol-word h l = lt-leb variable h (omega (arith, F.symbols))

  pub node-many : (n : ℕ) → n < length P.nodes → length (node_of P n).args ≡ length (symbol_of P (node_of P n).head).inputs
  node-many n l = arguments_many P n (symbol_of P (node_of P n).head).inputs (node_of P n).args (G.nodes n l).args

  pub node-below : (n : ℕ) → n < length P.nodes → Below (length P.nodes) (node_of P n).args
  node-below n l = below_more n (length P.nodes) (node_of P n).args (omega arith) (args-below P G n l)

  -- a term's words, then the others
  mutual
    unfolding match_words term_words matches onwards

    pub words_term : (t : Term) (s : ℕ) → Sorted P vars t s → (n : ℕ) → n < length P.nodes → (ws ns : List ℕ) (bs : List Bound)
        → match_words P (term_words t ++ ws) (n ∷ ns) bs ≡ onwards (matches P t n bs) (λ cs. match_words P ws ns cs)
    words_term (var k) s S n l ws ns bs =
        let e : variable + k - variable ≡ k = omega arith in
        rw (le-leb variable (variable + k) (omega arith), e, match_words)
    words_term (app h ts) s S n l ws ns bs =
        rw (symbol-word h S.0, match_words)
        (provided-onwards (eqb (node_of P n).head h) _ (match_all P ts (node_of P n).args bs) _ (λ t.
        let e : (node_of P n).head ≡ h = eqb-true _ _ t in
        words_terms ts (symbol_of P h).inputs S.2 (node_of P n).args (node-many n l ∙ ap (λ (x : ℕ). length (symbol_of P x).inputs) e) (node-below n l) ws ns bs))

    pub words_terms : (ts : Terms) (ss : List ℕ) → SortedAll P vars ts ss → (us : List ℕ) → length us ≡ length ss → Below (length P.nodes) us → (ws ns : List ℕ) (bs : List Bound)
        → match_words P (terms_words ts ++ ws) (us ++ ns) bs ≡ onwards (match_all P ts us bs) (λ cs. match_words P ws ns cs)
    words_terms nil [] S [] m b ws ns bs = refl
    words_terms nil [] S (a ∷ us) m b ws ns bs = absurd (omega arith)
    words_terms nil (s ∷ ss) S us m b ws ns bs = absurd S
    words_terms (cons t ts) [] S us m b ws ns bs = absurd S
    words_terms (cons t ts) (s ∷ ss) S [] m b ws ns bs = absurd (omega arith)
    words_terms (cons t ts) (s ∷ ss) S (a ∷ us) m b ws ns bs =
        rw (append_assoc (term_words t) (terms_words ts) ws)
        (words_term t s S.0 a b.0 (terms_words ts ++ ws) (us ++ ns) bs
        ∙ onwards-same (matches P t a bs) _ _ (λ cs. words_terms ts ss S.1 us (omega arith) b.1 ws ns cs)
        ∙ onwards_twice (matches P t a bs) (λ cs. match_all P ts us cs) (λ cs. match_words P ws ns cs))

-- the nodes that a step's rule is matched against: the judgments of its refs, then its own
abbrev pub against : Pack → Step → List ℕ
against P s = judged P s.refs ++ (s.judgment ∷ [])

pub length-judged : (P : Pack) (refs : List ℕ) → length (judged P refs) ≡ length refs
length-judged P [] = refl
length-judged P (r ∷ refs) = ap suc (length-judged P refs)

-- a step passes just if its rule's words match
pub passes-words : (P : Pack) → Good P → Few P → (i : ℕ) → i < length P.steps → passes P (step_of P i) ≡ matched (match_words P (rule_words (rule_of P (step_of P i).rule)) (against P (step_of P i)) [])
unfolding passes match_words
passes-words P G F i l =
    let s : Step = step_of P i in
    let g = G.steps i l in
    let rule : Rule = rule_of P s.rule in
    let r = G.rules s.rule g.rule in
    let m : length (judged P s.refs) ≡ length (replicate (count rule.premises) prop) = length-judged P s.refs ∙ g.refs ∙ sym (length-replicate (count rule.premises) prop) in
    let b : Below (length P.nodes) (judged P s.refs) = judged-below P G s.refs (below_more i (length P.steps) s.refs (omega arith) g.earlier) in
    sym (ap matched
    (words_terms P G F rule.vars rule.premises (replicate (count rule.premises) prop) (judgments_sorted P rule.vars rule.premises r.premises) (judged P s.refs) m b (term_words rule.conclusion) (s.judgment ∷ []) []
    ∙ onwards-same (match_all P rule.premises (judged P s.refs) []) _ _ (λ cs.
    ap (λ (ws : List ℕ). match_words P ws (s.judgment ∷ []) cs) (sym (append-nil (term_words rule.conclusion)))
    ∙ words_term P G F rule.vars rule.conclusion prop r.conclusion s.judgment g.judgment.given [] [] cs
    ∙ onwards_stop (matches P rule.conclusion s.judgment cs))))
