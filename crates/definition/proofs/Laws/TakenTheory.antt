-- What a sort, a symbol and a rule that were taken are like.
use Rattle.std.specs.Prelude.{◌≡◌, refl, true, false, not, List, [], ◌∷◌, map, ℕ, zero, suc, ◌+◌, ◌*◌, ◌-◌, ◌<◌, ◌≤◌, eqb, ltb, leb, length, get_or, drop, replicate}
use Rattle.std.proofs.Common.{sym, ap, subst, arith, ltb-true, leb-true, eqb-true}
use Rattle.definition.specs.Test.{is, see, never, and_parts, all, any, same, same_refl}
use Rattle.definition.specs.Little.{le}
use Rattle.definition.specs.Pack.{prop, Symbol, Terms, nil, cons, Rule, Pack, no_such_symbol, no_rule, symbol_of}
use Rattle.definition.specs.Frame.{Checked, good, over, ◌>>=◌}
use Rattle.definition.proofs.Laws.Frame.{good_eq, bind_good, right_then, within_then}
use Rattle.definition.specs.Theory.{is_name, new_name, words, take_sort, is_sort, is_output, take_symbol, Unread, Word, next_word, variable, fits, wanted, made, Prefix, prefix, only, take_rule}
use Rattle.definition.specs.Certificate.{count}
use Rattle.definition.specs.Good.{Below, Sorted, SortedAll, Judgments, words_of, words_of_all, GoodSymbol, GoodRule}
use Rattle.definition.proofs.Laws.Put.{length-words}
use Rattle.definition.proofs.Laws.Grow.{Fresh, still, more, none-fresh, fresh-map}
use Rattle.definition.proofs.Laws.Taken.{Taken}

-- numbers that all pass are below n
pub all-below : (n : ℕ) (xs : List ℕ) → all (λ x. ltb x n) xs ≡ true → Below n xs
unfolding all
all-below n [] e = tt
all-below n (x ∷ xs) e =
    let p = and_parts (ltb x n) (all (λ x. ltb x n) xs) e in
    (ltb-true _ _ p.0, all-below n xs p.1)

-- a name that none has
name_new : (n d : List ℕ) (names : List (List ℕ)) → new_name n names ≡ true → (is_name n ≡ true) × Fresh (λ (m : List ℕ). m) d names n
unfolding new_name
name_new n d names e =
    let p = and_parts (is_name n) (not (any (same n) names)) e in
    (p.0, none-fresh (same n) (λ m. m) d names n (λ y q. rw q (same_refl n)) p.1)

-- a thing with a name that none of its kind has
pub named_new : {A : Type 0} (key : A → List ℕ) (d : A) (xs : List A) (x : A)
    → new_name (key x) (map key xs) ≡ true → (is_name (key x) ≡ true) × Fresh key d xs x
named_new key d xs x e =
    let p = name_new (key x) (key d) (map key xs) e in
    (p.0, fresh-map key d xs x p.1)

-- a good result of two steps, for what follows from both
pub bind_then : {A B C : Type 0} {m : Checked A} {f : A → Checked B} {b : B}
    → m >>= f ≡ good b → ((a : A) → m ≡ good a → f a ≡ good b → C) → C
bind_then e k =
    let g = bind_good _ _ _ e in
    k g.0 g.1 g.2

-- a sort that was taken
pub taken-sort : (P : Pack) (body : List ℕ) (Q : Pack) → take_sort P body ≡ good Q → Taken P Q
unfolding take_sort
taken-sort P body Q e =
    let t1 = within_then _ _ _ e in
    let t2 = right_then _ _ _ t1.1 in
    let new = name_new body [] P.sorts t2.0 in
    let few = ltb-true _ _ t1.0 in
    subst (Taken P) (good_eq t2.1) (record { sorts = more body (new.0, new.1, few); symbols = still; rules = still; nodes = still; steps = still; goals = still; results = still; cuts = still; abstracts = still })

-- an output that is no mark of a predicate is a sort
output_sort : (P : Pack) (s : ℕ) → is_output P s ≡ true → (s ≡ prop → ⊥) → s < length P.sorts
unfolding is_output is_sort
output_sort P s e h = elim (see (eqb s prop)) [
  | is true p ↦ absurd (h (eqb-true _ _ p))
  | is false p ↦ ltb-true _ _ (rw (p, is_output) at e)
]

-- sorts that were given
sorts-below : (P : Pack) (ss : List ℕ) → all (is_sort P) ss ≡ true → Below (length P.sorts) ss
unfolding is_sort
sorts-below P ss e = all-below (length P.sorts) ss e

-- a symbol that was taken
pub taken-symbol : (P : Pack) (body : List ℕ) (Q : Pack) → take_symbol P body ≡ good Q → Taken P Q
unfolding take_symbol
taken-symbol P body Q e =
    let arity = le 2 body 4 in
    let inputs = words arity (drop 6 body) in
    let y : Symbol = record { output = le 4 body 0; inputs = inputs; name = drop (6 + 4 * arity) body } in
    let t1 = within_then _ _ _ e in
    let t2 = right_then _ _ _ t1.1 in
    let t3 = within_then _ _ _ t2.1 in
    let t4 = right_then _ _ _ t3.1 in
    let t5 = right_then _ _ _ t4.1 in
    let t6 = right_then _ _ _ t5.1 in
    let given = and_parts (is_output P (le 4 body 0)) (all (is_sort P) inputs) t5.0 in
    let new = named_new (λ (z : Symbol). z.name) no_such_symbol P.symbols y t6.0 in
    let g : GoodSymbol P y = record {
      output = output_sort P (le 4 body 0) given.0;
      inputs = sorts-below P inputs given.1;
      arity = rw (length-words arity (drop 6 body)) (leb-true _ _ t3.0);
      name = new.0;
    } in
    let few = ltb-true _ _ t1.0 in
    subst (Taken P) (good_eq t6.1) (record { sorts = still; symbols = more y (g, new.1, few); rules = still; nodes = still; steps = still; goals = still; results = still; cuts = still; abstracts = still })

-- a word that fits, over terms of the sorts that it wants, is a term of the sort
made_sorted : (P : Pack) (vars : List ℕ) (s w : ℕ) (ts : Terms) → fits P vars s w ≡ true → SortedAll P vars ts (wanted P w) → Sorted P vars (made w ts) s
unfolding fits wanted made
made_sorted P vars s w ts e h = elim (see (leb variable w)) [
  | is true p ↦
      let q = and_parts (ltb (w - variable) (length vars)) (eqb (get_or vars (w - variable) 0) s) (rw (p, fits) at e) in
      rw (p, made) (ltb-true _ _ q.0, eqb-true _ _ q.1)
  | is false p ↦
      let q = and_parts (ltb w (length P.symbols)) (eqb (symbol_of P w).output s) (rw (p, fits) at e) in
      rw (p, made) (ltb-true _ _ q.0, eqb-true _ _ q.1, rw (p, wanted) at h)
]

-- what is read in prefix order is well sorted
pub prefix_sorted : (d : ℕ) (P : Pack) (vars ss : List ℕ) (u : Unread) (p : Prefix) → prefix d P vars ss u ≡ good p → SortedAll P vars p.terms ss
unfolding prefix
prefix_sorted zero P vars [] u p e = subst (λ (q : Prefix). SortedAll P vars q.terms []) (good_eq e) tt
prefix_sorted zero P vars (s ∷ ss) u p e = let w = bind_good _ _ _ e in never (let q : over ≡ good p = w.2 in cc)
prefix_sorted (suc d) P vars [] u p e = subst (λ (q : Prefix). SortedAll P vars q.terms []) (good_eq e) tt
prefix_sorted (suc d) P vars (s ∷ ss) u p e =
    bind_then e λ w _ e1.
    let t = right_then _ _ _ e1 in
    bind_then t.1 λ below e2 e3.
    bind_then e3 λ behind e4 e5.
    let deep = prefix_sorted d P vars (wanted P w.word) w.unread below e2 in
    let first = made_sorted P vars s w.word below.terms t.0 deep in
    let rest = prefix_sorted (suc d) P vars ss below.unread behind e4 in
    subst (λ (q : Prefix). SortedAll P vars q.terms (s ∷ ss)) (good_eq e5) (first, rest)

-- where no term is wanted there is none
none-wanted : (P : Pack) (vars : List ℕ) (ts : Terms) → SortedAll P vars ts [] → words_of_all ts ≡ 0
unfolding words_of
none-wanted P vars nil h = refl
none-wanted P vars (cons t ts) h = absurd h

-- a word and the terms that it wants have a word more than these
made-words : (P : Pack) (vars : List ℕ) (w : ℕ) (ts : Terms) → SortedAll P vars ts (wanted P w) → words_of (made w ts) ≡ suc (words_of_all ts)
unfolding wanted made words_of
made-words P vars w ts h = elim (see (leb variable w)) [
  | is true p ↦ rw (p, made) (ap suc (sym (none-wanted P vars ts (rw (p, wanted) at h))))
  | is false p ↦ rw (p, made)
]

-- as many words were read as the terms have, and no more than 256
prefix-words : (d : ℕ) (P : Pack) (vars ss : List ℕ) (u : Unread) (p : Prefix) → prefix d P vars ss u ≡ good p → u.read ≤ 256
    → (p.unread.read ≡ u.read + words_of_all p.terms) × (p.unread.read ≤ 256)
unfolding prefix next_word words_of
prefix-words zero P vars [] u p e h = subst (λ (q : Prefix). (q.unread.read ≡ u.read + words_of_all q.terms) × (q.unread.read ≤ 256)) (good_eq e) (omega arith, h)
prefix-words zero P vars (s ∷ ss) u p e h = let w = bind_good _ _ _ e in never (let q : over ≡ good p = w.2 in cc)
prefix-words (suc d) P vars [] u p e h = subst (λ (q : Prefix). (q.unread.read ≡ u.read + words_of_all q.terms) × (q.unread.read ≤ 256)) (good_eq e) (omega arith, h)
prefix-words (suc d) P vars (s ∷ ss) u p e h =
    bind_then e λ w e0 e1.
    let t0 = right_then _ _ _ e0 in
    let t1 = within_then _ _ _ t0.1 in
    let read : suc u.read ≡ w.unread.read = ap (λ (x : Word). x.unread.read) (good_eq t1.1) in
    let room : u.read < 256 = ltb-true _ _ t1.0 in
    let t = right_then (fits P vars s w.word) _ _ e1 in
    bind_then t.1 λ below e2 e3.
    bind_then e3 λ behind e4 e5.
    let first = prefix-words d P vars (wanted P w.word) w.unread below e2 (omega arith) in
    let rest = prefix-words (suc d) P vars ss below.unread behind e4 first.1 in
    let one = made-words P vars w.word below.terms (prefix_sorted d P vars (wanted P w.word) w.unread below e2) in
    subst (λ (q : Prefix). (q.unread.read ≡ u.read + words_of_all q.terms) × (q.unread.read ≤ 256)) (good_eq e5) (omega (arith, first.0, rest.0, one), rest.1)

-- terms of n times the mark of a predicate are n judgments
pub judgments_read : (P : Pack) (vars : List ℕ) (n : ℕ) (ts : Terms) → SortedAll P vars ts (replicate n prop) → Judgments P vars ts × (count ts ≡ n)
unfolding count
judgments_read P vars zero nil h = (tt, refl)
judgments_read P vars zero (cons t ts) h = absurd h
judgments_read P vars (suc n) nil h = absurd h
judgments_read P vars (suc n) (cons t ts) h =
    let r = judgments_read P vars n ts h.1 in
    ((h.0, r.0), ap suc r.1)

-- the only term is of the only sort
only_sorted : (P : Pack) (vars : List ℕ) (s : ℕ) (ts : Terms) → SortedAll P vars ts (s ∷ []) → Sorted P vars (only ts) s
unfolding only
only_sorted P vars s nil h = absurd h
only_sorted P vars s (cons t ts) h = h.0

-- and has all the words
only-words : (P : Pack) (vars : List ℕ) (s : ℕ) (ts : Terms) → SortedAll P vars ts (s ∷ []) → words_of (only ts) ≡ words_of_all ts
unfolding only words_of
only-words P vars s nil h = absurd h
only-words P vars s (cons t ts) h = omega (arith, none-wanted P vars ts h.1)

-- a rule that was taken
pub taken-rule : (P : Pack) (body : List ℕ) (Q : Pack) → take_rule P body ≡ good Q → Taken P Q
unfolding take_rule
taken-rule P body Q e =
    let variables = le 2 body 0 in
    let premises = le 2 body 2 in
    let vars = words variables (drop 4 body) in
    let t1 = within_then _ _ _ e in
    let t2 = right_then _ _ _ t1.1 in
    let t3 = within_then _ _ _ t2.1 in
    let t4 = right_then _ _ _ t3.1 in
    let t5 = right_then _ _ _ t4.1 in
    bind_then t5.1 λ ps e6 e7.
    bind_then e7 λ c e8 e9.
    let t10 = right_then _ _ _ e9 in
    let r : Rule = record { vars = vars; premises = ps.terms; conclusion = only c.terms; name = c.unread.rest } in
    let small = and_parts (leb variables 64) (leb premises 16) t3.0 in
    let new = named_new (λ (z : Rule). z.name) no_rule P.rules r t10.0 in
    let js = judgments_read P vars premises ps.terms (prefix_sorted 256 P vars (replicate premises prop) _ ps e6) in
    let conclusion = prefix_sorted 256 P vars (prop ∷ []) ps.unread c e8 in
    let first = prefix-words 256 P vars (replicate premises prop) _ ps e6 (omega arith) in
    let last = prefix-words 256 P vars (prop ∷ []) ps.unread c e8 first.1 in
    let one = only-words P vars prop c.terms conclusion in
    let g : GoodRule P r = record {
      vars = sorts-below P vars t5.0;
      variables = rw (length-words variables (drop 4 body)) (leb-true _ _ small.0);
      premises = js.0;
      arity = rw js.1 (leb-true _ _ small.1);
      conclusion = only_sorted P vars prop c.terms conclusion;
      words = omega (arith, first.0, last.0, last.1, one);
      name = new.0;
    } in
    let few = ltb-true _ _ t1.0 in
    subst (Taken P) (good_eq t10.1) (record { sorts = still; symbols = still; rules = more r (g, new.1, few); nodes = still; steps = still; goals = still; results = still; cuts = still; abstracts = still })
