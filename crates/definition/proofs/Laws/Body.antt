-- What is read from each kind of body and written back gives the same body.
use Rattle.std.specs.Prelude.{◌≡◌, refl, true, false, List, [], ◌∷◌, ◌++◌, ℕ, zero, suc, ◌+◌, ◌*◌, ◌-◌, ◌/◌, eqb, leb, length, drop, replicate}
use Rattle.std.proofs.Common.{sym, ap, ◌∙◌, subst, append_assoc, append-nil, arith, leb-true, eqb-true, drop_of_length-le}
use Rattle.std.proofs.lemmas.List.{length-replicate}
use Rattle.definition.specs.Test.{is, see, never, tests, and_parts}
use Rattle.definition.specs.Little.{le}
use Rattle.definition.specs.Pack.{prop, Terms, nil, cons, Pack, symbol_of, rule_of, with_sort, with_symbol, with_rule, with_node, with_step, with_goal, with_result, with_cut, with_abstract}
use Rattle.definition.specs.Frame.{Checked, good, ◌>>=◌}
use Rattle.definition.proofs.Laws.Frame.{good_eq, bind_good, right_then, within_then}
use Rattle.definition.specs.Theory.{words, take_sort, take_symbol, Unread, Word, next_word, variable, wanted, made, Prefix, prefix, only, take_rule}
use Rattle.definition.specs.Certificate.{count, take_node, take_step, take_goal, take_result, take_cut, take_abstract}
use Rattle.definition.specs.Encode.{put, put_words, put_term, put_terms, sort_body, symbol_body, rule_body, node_body, step_body, goal_body, result_body, cut_body, abstract_body}
use Rattle.definition.proofs.Laws.Put.{Bytes, bytes_drop, bytes-behind, put-le, put_is, onto, put-words-at, put-words-end, length-words}

-- what follows from the two steps of a good result
bind_then : {A B C : Type 0} (m : Checked A) (f : A → Checked B) (b : B) → m >>= f ≡ good b → ((a : A) → m ≡ good a → f a ≡ good b → C) → C
bind_then m f b e k = let r = bind_good m f b e in k r.0 r.1 r.2

-- the next word, with what is behind it
put_word : (u : Unread) (w : Word) → Bytes u.rest → next_word u ≡ good w → put 4 w.word ++ w.unread.rest ≡ u.rest
unfolding next_word
put_word u w h e =
    let t1 = right_then _ _ _ e in
    let t2 = within_then _ _ _ t1.1 in
    let q = good_eq t2.1 in
    ap (λ (x : Word). put 4 x.word ++ x.unread.rest) (sym q) ∙ put-le 4 u.rest 0 h (leb-true _ _ t1.0)

-- no terms
count_none : (ts : Terms) → count ts ≡ 0 → ts ≡ nil
unfolding count
count_none nil n = refl
count_none (cons t ts) n = absurd (omega arith)

-- a term's word, and the terms behind it
put-made : (P : Pack) (w : ℕ) (ts : Terms) → count ts ≡ length (wanted P w) → put_term (made w ts) ≡ put 4 w ++ put_terms ts
unfolding made wanted put_term
put-made P w ts n = elim (see (leb variable w)) [
  | is true p ↦
      let none : ts ≡ nil = count_none ts (rw (p, wanted) at n) in
      let v : variable + (w - variable) ≡ w = omega tests in
      rw (p, made, none, v) (sym (append-nil (put 4 w)))
  | is false p ↦ rw (p, made)
]

-- terms read in prefix order: their bytes, with what is behind them, and how many they are
record Wrote (n : ℕ) (u : Unread) (p : Prefix) : Type 0 where
  bytes : put_terms p.terms ++ p.unread.rest ≡ u.rest
  many : count p.terms ≡ n

-- no terms
wrote_none : (u : Unread) → Wrote 0 u (record { terms = nil; unread = u })
unfolding put_terms count
wrote_none u = record { bytes = refl; many = refl }

-- a word, the terms below it and the terms behind it
wrote_more : (P : Pack) (n : ℕ) (u : Unread) (w : Word) (p q : Prefix) → put 4 w.word ++ w.unread.rest ≡ u.rest → Wrote (length (wanted P w.word)) w.unread p
    → Wrote n p.unread q → Wrote (suc n) u (record { terms = cons (made w.word p.terms) q.terms; unread = q.unread })
unfolding put_terms count
wrote_more P n u w p q first below behind = record {
  bytes =
      append_assoc (put_term (made w.word p.terms)) (put_terms q.terms) q.unread.rest
      ∙ ap (λ (t : List ℕ). t ++ (put_terms q.terms ++ q.unread.rest)) (put-made P w.word p.terms below.many)
      ∙ append_assoc (put 4 w.word) (put_terms p.terms) (put_terms q.terms ++ q.unread.rest)
      ∙ onto (put 4 w.word) (onto (put_terms p.terms) behind.bytes below.bytes) first;
  many = ap suc behind.many;
}

-- what is left behind terms has bytes alone
wrote_bytes : (n : ℕ) (u : Unread) (p : Prefix) → Wrote n u p → Bytes u.rest → Bytes p.unread.rest
wrote_bytes n u p w h = bytes-behind (put_terms p.terms) p.unread.rest w.bytes h

-- terms in prefix order, written back
put-prefix : (d : ℕ) (P : Pack) (vars ss : List ℕ) (u : Unread) (p : Prefix) → Bytes u.rest → prefix d P vars ss u ≡ good p → Wrote (length ss) u p
unfolding prefix
put-prefix zero P vars [] u p h e = subst (Wrote 0 u) (good_eq e) (wrote_none u)
put-prefix zero P vars (s ∷ ss) u p h e = bind_then (next_word u) _ p e λ w i f. never (cc)
put-prefix (suc d) P vars [] u p h e = subst (Wrote 0 u) (good_eq e) (wrote_none u)
put-prefix (suc d) P vars (s ∷ ss) u p h e =
    bind_then (next_word u) _ p e λ w i f.
    bind_then (prefix d P vars (wanted P w.word) w.unread) _ p (right_then _ _ p f).1 λ below j g.
    bind_then (prefix (suc d) P vars ss below.unread) _ p g λ behind k q.
    let first = put_word u w h i in
    let h1 = bytes-behind (put 4 w.word) w.unread.rest first h in
    let t1 = put-prefix d P vars (wanted P w.word) w.unread below h1 j in
    let t2 = put-prefix (suc d) P vars ss below.unread behind (wrote_bytes (length (wanted P w.word)) w.unread below t1 h1) k in
    subst (Wrote (suc (length ss)) u) (good_eq q) (wrote_more P (length ss) u w below behind first t1 t2)

-- the only term of a list of one
put_only : (ts : Terms) → count ts ≡ 1 → put_term (only ts) ≡ put_terms ts
unfolding count only put_term
put_only nil n = absurd (omega arith)
put_only (cons t ts) n = let none : ts ≡ nil = count_none ts (omega arith) in rw none (sym (append-nil (put_term t)))

-- a body that was taken up: as what, and that this has the body's bytes
abbrev pub Took : {A : Type 0} → (A → Pack) → (A → List ℕ) → List ℕ → Pack → Type 0
Took {A} add write body Q = (x : A) × (add x ≡ Q) × (write x ≡ body)

-- 1 sort: the name
pub took-sort : (P : Pack) (body : List ℕ) (Q : Pack) → Bytes body → take_sort P body ≡ good Q → Took (with_sort P) sort_body body Q
unfolding take_sort
took-sort P body Q h e =
    let t1 = within_then _ _ _ e in
    let t2 = right_then _ _ _ t1.1 in
    (body, good_eq t2.1, refl)

-- 2 symbol: output sort, arity, input sorts, name
pub took-symbol : (P : Pack) (body : List ℕ) (Q : Pack) → Bytes body → take_symbol P body ≡ good Q → Took (with_symbol P) symbol_body body Q
unfolding take_symbol symbol_body
took-symbol P body Q h e =
    let t1 = within_then _ _ _ e in
    let t2 = right_then _ _ _ t1.1 in
    let t3 = within_then _ _ _ t2.1 in
    let t4 = right_then _ _ _ t3.1 in
    let t5 = right_then _ _ _ t4.1 in
    let t6 = right_then _ _ _ t5.1 in
    let n = le 2 body 4 in
    let inputs = words n (drop 6 body) in
    let l = leb-true _ _ t2.0 in
    let behind = onto (put 2 (length inputs)) (put-words-at 6 n body h (leb-true _ _ t4.0)) (put_is (length inputs) 2 body 4 (length-words n (drop 6 body)) h l) in
    (_, good_eq t6.1, onto (put 4 (le 4 body 0)) behind (put-le 4 body 0 h (omega arith)))

-- 3 rule: the two counts, the variables' sorts, premises, conclusion, name
pub took-rule : (P : Pack) (body : List ℕ) (Q : Pack) → Bytes body → take_rule P body ≡ good Q → Took (with_rule P) rule_body body Q
unfolding take_rule rule_body
took-rule P body Q h e =
    let n = le 2 body 0 in
    let vars = words n (drop 4 body) in
    let start : Unread = record { rest = drop (4 + 4 * n) body; read = 0 } in
    let t1 = within_then _ _ Q e in
    let t2 = right_then _ _ Q t1.1 in
    let t3 = within_then _ _ Q t2.1 in
    let t4 = right_then _ _ Q t3.1 in
    let t5 = right_then _ _ Q t4.1 in
    bind_then (prefix 256 P vars (replicate (le 2 body 2) prop) start) _ Q t5.1 λ ps i f.
    bind_then (prefix 256 P vars (prop ∷ []) ps.unread) _ Q f λ c j g.
    let t6 = right_then _ _ Q g in
    let w1 = put-prefix 256 P vars (replicate (le 2 body 2) prop) start ps (bytes_drop (4 + 4 * n) body h) i in
    let w2 = put-prefix 256 P vars (prop ∷ []) ps.unread c (wrote_bytes _ start ps w1 (bytes_drop (4 + 4 * n) body h)) j in
    let l = leb-true _ _ t2.0 in
    let conclusion : put_term (only c.terms) ++ c.unread.rest ≡ ps.unread.rest = ap (λ (t : List ℕ). t ++ c.unread.rest) (put_only c.terms w2.many) ∙ w2.bytes in
    let terms = onto (put_terms ps.terms) conclusion w1.bytes in
    let sorts = onto (put_words vars) terms (put-words-at 4 n body h (leb-true _ _ t4.0)) in
    let premises = onto (put 2 (count ps.terms)) sorts (put_is (count ps.terms) 2 body 2 (w1.many ∙ length-replicate (le 2 body 2) prop) h l) in
    (_, good_eq t6.1, onto (put 2 (length vars)) premises (put_is (length vars) 2 body 0 (length-words n (drop 4 body)) h (omega arith)))

-- 4 ground node: head, arguments
pub took-node : (P : Pack) (body : List ℕ) (Q : Pack) → Bytes body → take_node P body ≡ good Q → Took (with_node P) node_body body Q
unfolding take_node node_body
took-node P body Q h e =
    let t1 = right_then _ _ _ e in
    let t2 = right_then _ _ _ t1.1 in
    let t3 = right_then _ _ _ t2.1 in
    let t4 = right_then _ _ _ t3.1 in
    let t5 = right_then _ _ _ t4.1 in
    let head = le 4 body 0 in
    (_, good_eq t5.1, onto (put 4 head) (put-words-end 4 (length (symbol_of P head).inputs) body h (eqb-true _ _ t3.0)) (put-le 4 body 0 h (leb-true _ _ t1.0)))

-- 5 step: rule, judgment, refs
pub took-step : (P : Pack) (body : List ℕ) (Q : Pack) → Bytes body → take_step P body ≡ good Q → Took (with_step P) step_body body Q
unfolding take_step step_body
took-step P body Q h e =
    let t1 = right_then _ _ _ e in
    let t2 = right_then _ _ _ t1.1 in
    let t3 = right_then _ _ _ t2.1 in
    let t4 = right_then _ _ _ t3.1 in
    let l = leb-true _ _ t1.0 in
    let rule = le 4 body 0 in
    let behind = onto (put 4 (le 4 body 4)) (put-words-end 8 (count (rule_of P rule).premises) body h (eqb-true _ _ t3.0)) (put-le 4 body 4 h l) in
    (_, good_eq t4.1, onto (put 4 rule) behind (put-le 4 body 0 h (omega arith)))

-- 6 goal: judgment, name
pub took-goal : (P : Pack) (body : List ℕ) (Q : Pack) → Bytes body → take_goal P body ≡ good Q → Took (with_goal P) goal_body body Q
unfolding take_goal goal_body
took-goal P body Q h e =
    let t1 = right_then _ _ _ e in
    let t2 = right_then _ _ _ t1.1 in
    let t3 = right_then _ _ _ t2.1 in
    (_, good_eq t3.1, put-le 4 body 0 h (leb-true _ _ t1.0))

-- 7 result: step, name
pub took-result : (P : Pack) (body : List ℕ) (Q : Pack) → Bytes body → take_result P body ≡ good Q → Took (with_result P) result_body body Q
unfolding take_result result_body
took-result P body Q h e =
    let t1 = right_then _ _ _ e in
    let t2 = right_then _ _ _ t1.1 in
    let t3 = right_then _ _ _ t2.1 in
    (_, good_eq t3.1, put-le 4 body 0 h (leb-true _ _ t1.0))

-- 8 cut: predicate, positions
pub took-cut : (P : Pack) (body : List ℕ) (Q : Pack) → Bytes body → take_cut P body ≡ good Q → Took (with_cut P) cut_body body Q
unfolding take_cut cut_body
took-cut P body Q h e =
    let t1 = right_then _ _ _ e in
    let t2 = right_then _ _ _ t1.1 in
    let t3 = right_then _ _ _ t2.1 in
    let t4 = right_then _ _ _ t3.1 in
    let t5 = right_then _ _ _ t4.1 in
    (_, good_eq t5.1, onto (put 4 (le 4 body 0)) (put-words-end 4 ((length body - 4) / 4) body h (eqb-true _ _ t3.0)) (put-le 4 body 0 h (leb-true _ _ t1.0)))

-- 9 abstract: constructor, position, and nothing behind them
pub took-abstract : (P : Pack) (body : List ℕ) (Q : Pack) → Bytes body → take_abstract P body ≡ good Q → Took (with_abstract P) abstract_body body Q
unfolding take_abstract abstract_body
took-abstract P body Q h e =
    let t1 = right_then _ _ _ e in
    let t2 = right_then _ _ _ t1.1 in
    let t3 = right_then _ _ _ t2.1 in
    let l : length body ≡ 8 = eqb-true _ _ (and_parts (eqb (length P.abstracts) 0) (eqb (length body) 8) t1.0).1 in
    let behind = onto (put 4 (le 4 body 4)) (sym (drop_of_length-le body {i = 8} (omega arith))) (put-le 4 body 4 h (omega arith)) in
    (_, good_eq t3.1, onto (put 4 (le 4 body 0)) behind (put-le 4 body 0 h (omega arith)))
