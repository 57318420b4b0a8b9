-- What a turn of matching comes to, in the order in which code tests.
use Rattle.std.specs.Prelude.{Some}
use Rattle.std.specs.Prelude.{◌≡◌, Bool, true, false, ℕ, suc, ◌+◌, ◌-◌, ◌≤◌, ◌<◌, eqb, get_or, take, drop, replicate}
use Rattle.std.proofs.Math.Path.{sym, ap, subst}
use Rattle.std.proofs.Common.{◌∙◌, arith, length-append, length-drop, drop-cons}
use mathlib.Core.List.{List, [], ◌∷◌, ◌++◌}
use Rattle.std.proofs.Math.Option.{none, some}
use borrow.Author.Tests.{le-leb, lt-leb, eq-eqb, ne_eqb}
use Rattle.std.proofs.Math.ListN.{length}
use Rattle.std.proofs.lemmas.List.{length-replicate}
use Rattle.definition.specs.Pack.{prop, Pack, Rule, Step, symbol_of, rule_of, node_of, step_of}
use Rattle.definition.specs.Certificate.{count}
use Rattle.definition.specs.Theory.{variable}
use Rattle.definition.specs.Verdict.{Bound, value_of, bound, provided, onwards, matched, passes}
use Rattle.definition.specs.Good.{Below}
use Rattle.definition.proofs.Laws.Grow.{below_more, below_both}
use Rattle.definition.proofs.Laws.Agreement.{judged, judged-below}
use Rattle.definition.proofs.Laws.Prefix.{terms_words}
use Rattle.definition.proofs.Laws.Suffix.{judgments_sorted}
use Rattle.pack_read.specs.Clause.{words-most}
use Rattle.base.specs.Part.{put}
use Rattle.buffer.specs.Zero.{zeros_long, zeros_there}
use Rattle.base.specs.Stack.{stacked, length-stacked, Took}
use Rattle.base.specs.declared.stack.Stack.{Stack}
use Rattle.pack_read.specs.Reads.{rule_words}
use Rattle.pack_read.specs.Held.{Proper}
use Rattle.check_steps.specs.Words.{match_words, node-many, node-below, against, length-judged, passes-words}
use Rattle.check_steps.specs.Pending.{Pending, rule-pending, pending-most, pending-none, word_there, next-variable, next-symbol}
use Rattle.check_steps.specs.Values.{value_in, Binds}
use Rattle.check_steps.specs.Matching.{Matching, Ready, rest}

-- the state behind word i
abbrev pub Goes : Pack → ℕ → List ℕ → List ℕ → List ℕ → Stack → Stack → ℕ → List Bound → Type 0
Goes P r stack stack' vals' s s' i bs = (cs : List Bound) × Matching P r stack' vals' s' (suc i) cs × (rest P r stack s.len i bs ≡ rest P r stack' s'.len (suc i) cs) × (i < 256)

module _ (P : Pack) (Q : Proper P) (r : ℕ) (l : r < length P.rules) (stack vals : List ℕ) (s : Stack) (i : ℕ) (bs : List Bound) (M : Matching P r stack vals s i bs) where
  abbrev W : List ℕ
  W = rule_words (rule_of P r)

  abbrev vars : List ℕ
  vars = (rule_of P r).vars

  pub few_vars : length vars ≤ 64
  few_vars = (Q.good.rules r l).variables

  -- the nodes are all on the stack
  pub on_stack : s.at + s.len ≤ length stack
  on_stack = omega (arith, M.base, M.room, pending-most P vars (drop i W) s.len M.pending, length-drop i W, words-most P Q.good r l)

  -- no node is left, and no word
  pub all_done : stacked s.at s.len stack ≡ [] → rest P r stack s.len i bs ≡ some bs
  unfolding match_words
  all_done e =
      let f : stacked 0 s.len stack ≡ [] = ap (λ (a : ℕ). stacked a s.len stack) (sym M.base) ∙ e in
      let z : s.len ≡ 0 = sym (length-stacked 0 s.len stack) ∙ ap length f in
      rw (pending-none P vars (drop i W) (subst (Pending P vars (drop i W)) z M.pending), f)

  -- a node is left, and a word
  module _ (n : ℕ) (t : Stack) (took : Took (stacked s.at s.len stack) s.at stack (Some (n, t))) where
    on_top : stacked 0 s.len stack ≡ n ∷ stacked 0 t.len stack
    on_top = ap (λ (a : ℕ). stacked a s.len stack) (sym M.base) ∙ took.2 ∙ ap (λ (a : ℕ). n ∷ stacked a t.len stack) M.base

    one_less : s.len ≡ suc t.len
    one_less = sym (length-stacked 0 s.len stack) ∙ ap length on_top ∙ ap suc (length-stacked 0 t.len stack)

    left : Pending P vars (drop i W) (suc t.len)
    left = subst (Pending P vars (drop i W)) one_less M.pending

    pub there : i < length W
    there = word_there P Q.few vars W i t.len left

    early : i < 256
    early = omega (arith, there, words-most P Q.good r l)

    stands : Below (length P.nodes) (n ∷ stacked 0 t.len stack)
    stands = subst (Below (length P.nodes)) on_top M.below

    pub a_node : n < length P.nodes
    a_node = stands.0

    next_word : drop i W ≡ get_or W i 0 ∷ drop (suc i) W
    next_word = drop-cons W i 0 there

    module _ (w : ℕ) (word : w ≡ get_or W i 0) where
      cut : drop i W ≡ w ∷ drop (suc i) W
      cut = next_word ∙ ap (λ (x : ℕ). x ∷ drop (suc i) W) (sym word)

      -- the word is a variable's
      module _ (high : variable ≤ w) where
        follows : (get_or W i 0 - variable < length vars) × Pending P vars (drop (suc i) W) t.len
        follows = next-variable P Q.few vars W i t.len left (omega (arith, word, high))

        pub variable-below : w - variable < length vars
        variable-below = omega (arith, word, follows.0)

        turns-to : rest P r stack s.len i bs ≡ onwards (bound (w - variable) n bs (value_of (w - variable) bs)) (λ cs. match_words P (drop (suc i) W) (stacked 0 t.len stack) cs)
        unfolding match_words
        turns-to = rw (cut, on_top, le-leb variable w high, match_words)

        pub value-fits : (vals' : List ℕ) → length vals' ≡ length vals → Binds vals vals' (w - variable) n true → Goes P r stack stack vals' s t i bs
        unfolding onwards
        value-fits vals' long B =
            let b = B (length vars) bs variable-below M.values in
            (b.0, record { base = took.0 ∙ M.base; room = M.room; slots = long ∙ M.slots; pending = follows.1; below = stands.1; values = b.2 }, turns-to ∙ rw b.1, early)

        pub value_differs : (vals' : List ℕ) → Binds vals vals' (w - variable) n false → rest P r stack s.len i bs ≡ none
        unfolding onwards
        value_differs vals' B = turns-to ∙ rw (B (length vars) bs variable-below M.values)

      -- the word is a symbol
      module _ (low : w < variable) where
        follows_symbol : (get_or W i 0 < length P.symbols) × Pending P vars (drop (suc i) W) (length (symbol_of P (get_or W i 0)).inputs + t.len)
        follows_symbol = next-symbol P Q.few vars W i t.len left (omega (arith, word, low))

        tests_head : rest P r stack s.len i bs ≡ provided (eqb (node_of P n).head w) (match_words P (drop (suc i) W) ((node_of P n).args ++ stacked 0 t.len stack) bs)
        unfolding match_words
        tests_head = rw (cut, on_top, lt-leb variable w low, match_words)

        pub head_differs : ((node_of P n).head ≡ w → ⊥) → rest P r stack s.len i bs ≡ none
        unfolding provided
        head_differs d = tests_head ∙ rw (ne_eqb (node_of P n).head w d)

        module _ (head : (node_of P n).head ≡ w) where
          many : length (node_of P n).args ≡ length (symbol_of P (get_or W i 0)).inputs
          many = node-many P Q.good Q.few vars n a_node ∙ ap (λ (h : ℕ). length (symbol_of P h).inputs) (head ∙ word)

          pub arguments_room : length (node_of P n).args + t.len ≤ length stack
          arguments_room = omega (arith, many, pending-most P vars (drop (suc i) W) _ follows_symbol.1, length-drop (suc i) W, words-most P Q.good r l, M.room)

          pub head-fits : (stack' : List ℕ) (s' : Stack) → length stack' ≡ length stack → s'.at ≡ 0 → stacked 0 s'.len stack' ≡ (node_of P n).args ++ stacked 0 t.len stack → Goes P r stack stack' vals s s' i bs
          unfolding provided
          head-fits stack' s' long base e =
              let m : length (symbol_of P (get_or W i 0)).inputs + t.len ≡ s'.len =
              ap (λ (k : ℕ). k + t.len) (sym many) ∙ ap (λ (k : ℕ). length (node_of P n).args + k) (sym (length-stacked 0 t.len stack)) ∙ sym (length-append (node_of P n).args (stacked 0 t.len stack)) ∙ ap length (sym e) ∙ length-stacked 0 s'.len stack' in (
                bs,
                record {
                  base = base;
                  room = long ∙ M.room;
                  slots = M.slots;
                  pending = subst (Pending P vars (drop (suc i) W)) m follows_symbol.1;
                  below = subst (Below (length P.nodes)) (sym e) (below_both (length P.nodes) (node_of P n).args (stacked 0 t.len stack) (node-below P Q.good Q.few vars n a_node) stands.1);
                  values = M.values;
                },
                tests_head ∙ rw (eq-eqb (node_of P n).head w head, e),
                early,
              )

-- ahead of the first word: the first n values were lent and came back as zeros
pub at_first : (P : Pack) → Proper P → (r : ℕ) (stack vals : List ℕ) (s : Stack) → Ready P r stack s → length vals ≡ 64 → (n : ℕ) (zeros : List ℕ) → n ≡ length (rule_of P r).vars → zeros ≡ replicate (length (take (n - 0) (drop 0 vals))) 0
    → Matching P r stack (put 0 (n - 0) zeros vals) s 0 []
unfolding value_of
at_first P Q r stack vals s R slots n zeros vars_are z =
    let few : n ≤ length vals = omega (arith, vars_are, (Q.good.rules r R.rule).variables, slots) in
    record {
      base = R.base;
      room = R.room;
      slots = zeros_long 0 n n vals zeros (omega arith) few z ∙ slots;
      pending = R.pending;
      below = R.below;
      values = λ k h.
          let first : k ≡ 0 + k = omega arith in
          sym (ap value_in (ap (λ (i : ℕ). get_or (put 0 (n - 0) zeros vals) i 0) first ∙ zeros_there 0 n n vals zeros (omega arith) few z k (omega (arith, vars_are, h))));
    }

-- a step's rule is to be matched against the judgments of its refs and its own
pub step_ready : (P : Pack) → Proper P → (i : ℕ) → i < length P.steps → (stack : List ℕ) (s : Stack) → s.at ≡ 0 → length stack ≡ 256 → stacked 0 s.len stack ≡ against P (step_of P i) → (k : ℕ) → k ≡ (step_of P i).rule → Ready P k stack s
unfolding terms_words
step_ready P Q i l stack s base room e k rule-is =
    let x : Step = step_of P i in
    let g = Q.good.steps i l in
    let rule : Rule = rule_of P x.rule in
    let r = Q.good.rules x.rule g.rule in
    let ps : ℕ = count rule.premises in
    let m : length (replicate ps prop ++ (prop ∷ [])) ≡ s.len =
    length-append (replicate ps prop) (prop ∷ []) ∙ ap (λ (k : ℕ). k + 1) (length-replicate ps prop ∙ sym g.refs ∙ sym (length-judged P x.refs))
    ∙ sym (length-append (judged P x.refs) (x.judgment ∷ [])) ∙ ap length (sym e) ∙ length-stacked 0 s.len stack in
    subst (λ (n : ℕ). Ready P n stack s) (sym rule-is)
    (record {
      rule = g.rule;
      base = base;
      room = room;
      pending = rule-pending P rule.vars rule.premises rule.conclusion (replicate ps prop) (judgments_sorted P rule.vars rule.premises r.premises) r.conclusion s.len m;
      below = subst (Below (length P.nodes)) (sym e) (below_both (length P.nodes) (judged P x.refs) (x.judgment ∷ []) (judged-below P Q.good x.refs (below_more i (length P.steps) x.refs (omega arith) g.earlier)) (g.judgment.given, tt));
    })

-- there is room for them
pub judgments-room : (P : Pack) → Proper P → (i : ℕ) → i < length P.steps → length (step_of P i).refs ≤ 16
judgments-room P Q i l = let g = Q.good.steps i l in omega (arith, g.refs, (Q.good.rules (step_of P i).rule g.rule).arity)

-- whether its rule matches is whether it passes
pub step_decided : (P : Pack) → Proper P → (i : ℕ) → i < length P.steps → (ns : List ℕ) → ns ≡ against P (step_of P i) → (k : ℕ) → k ≡ (step_of P i).rule → (b : Bool) → b ≡ matched (match_words P (rule_words (rule_of P k)) ns []) → b ≡ passes P (step_of P i)
step_decided P Q i l ns e k r b f =
    f ∙ ap (λ (n : ℕ). matched (match_words P (rule_words (rule_of P n)) ns [])) r ∙ ap (λ (ms : List ℕ). matched (match_words P (rule_words (rule_of P (step_of P i).rule)) ms [])) e ∙ sym (passes-words P Q.good Q.few i l)
