-- What a turn of matching comes to, in the order in which code tests.
use Rattle.std.specs.Prelude.{Some}
use Rattle.std.specs.Prelude.{◌≡◌, true, false, ℕ, suc, ◌+◌, ◌-◌, ◌≤◌, ◌<◌, eqb, get_or, drop}
use Rattle.std.proofs.Math.Path.{sym, ap, subst}
use Rattle.std.proofs.Common.{◌∙◌, arith, length-append, length-drop, drop-cons}
use mathlib.Core.List.{List, [], ◌∷◌, ◌++◌}
use borrow.Author.Tests.{le-leb, lt-leb, eq-eqb, ne_eqb}
use Rattle.std.proofs.Math.ListN.{length}
use Rattle.definition.specs.Pack.{Node, no_node, Pack, symbol_of, rule_of, node_of}
use Rattle.definition.specs.Theory.{variable}
use Rattle.definition.specs.Verdict.{Bound, value_of, bound, provided, onwards}
use Rattle.definition.specs.Good.{Below}
use Rattle.definition.proofs.Laws.Grow.{below_both}
use Rattle.emission.specs.Patterns.{over}
use Rattle.base.specs.Outside.{Outside}
use Rattle.base.specs.Stack.{stacked, length-stacked, stacked-same, Took}
use Rattle.base.specs.declared.stack.Stack.{Stack}
use Rattle.pack_read.specs.Reads.{rule_words}
use Rattle.pack_read.specs.Held.{Proper}
use Rattle.pack_read.specs.Clause.{words-most}
use Rattle.store.specs.Words.{key_of}
use Rattle.check_steps.specs.Words.{match_words}
use Rattle.check_steps.specs.Pending.{Pending, pending-most, pending-none, word_there, next-variable, next-symbol}
use Rattle.emit_theory.specs.Stores.{SortedStore}
use Rattle.emit_maps.specs.Map.{mapped_same}
use Rattle.emit_match.specs.Words.{arguments_many, arguments_below}
use Rattle.emit_match.specs.Places.{Laid, Stays, stays_none, stays_stack}
use Rattle.emit_match.specs.Values.{Binds}
use Rattle.emit_match.specs.Pushed.{ArgumentsOn}
use Rattle.emit_match.specs.Partly.{Partly, rest, SymbolTold, Goes}
use Rattle.emit_match.specs.declared.places.Matching.{Matching}
use Rattle.check_steps.specs.declared.matching.Turn.{Turn}
use Rattle.check_steps.specs.declared.matching.Turn.TheVariants.{Next, Done, Fails}

module _ (P : Pack) (Q : Proper P) (s : List Node) (S : SortedStore P s) (m : Matching) (r : ℕ) (l : r < length P.rules) (work : List ℕ) (L : Laid work m) (t : Stack) (i : ℕ) (bs : List Bound) (M : Partly P s m r work t i bs) where
  abbrev W : List ℕ
  W = rule_words (rule_of P r)

  abbrev vars : List ℕ
  vars = (rule_of P r).vars

  -- no more patterns wait than there are words
  few : t.len ≤ 256
  few = omega (arith, pending-most P vars (drop i W) t.len M.pending, length-drop i W, words-most P Q.good r l)

  -- they are all on the stack
  pub on_stack : t.at + t.len ≤ length work
  on_stack = omega (arith, M.base, few, L.room)

  -- no pattern is left, and no word
  pub all_done : stacked t.at t.len work ≡ [] → Goes P s m r work work t i bs Done
  unfolding match_words
  all_done e =
      let f : stacked m.stack t.len work ≡ [] = ap (λ (a : ℕ). stacked a t.len work) (sym M.base) ∙ e in
      let z : t.len ≡ 0 = sym (length-stacked m.stack t.len work) ∙ ap length f in
      (rw (pending-none P vars (drop i W) (subst (Pending P vars (drop i W)) z M.pending), f), M.values)

  -- a pattern is left, and a word
  module _ (p : ℕ) (u : Stack) (took : Took (stacked t.at t.len work) t.at work (Some (p, u))) where
    on_top : stacked m.stack t.len work ≡ p ∷ stacked m.stack u.len work
    on_top = ap (λ (a : ℕ). stacked a t.len work) (sym M.base) ∙ took.2 ∙ ap (λ (a : ℕ). p ∷ stacked a u.len work) M.base

    one_less : t.len ≡ suc u.len
    one_less = sym (length-stacked m.stack t.len work) ∙ ap length on_top ∙ ap suc (length-stacked m.stack u.len work)

    base : u.at ≡ m.stack
    base = took.0 ∙ M.base

    left : Pending P vars (drop i W) (suc u.len)
    left = subst (Pending P vars (drop i W)) one_less M.pending

    pub there : i < length W
    there = word_there P Q.few vars W i u.len left

    early : i < 256
    early = omega (arith, there, words-most P Q.good r l)

    stands : Below (length s) (p ∷ stacked m.stack u.len work)
    stands = subst (Below (length s)) on_top M.below

    pub a_pattern : p < length s
    a_pattern = stands.0

    module _ (w : ℕ) (word : w ≡ get_or W i 0) where
      cut : drop i W ≡ w ∷ drop (suc i) W
      cut = drop-cons W i 0 there ∙ ap (λ (x : ℕ). x ∷ drop (suc i) W) (sym word)

      -- the word is a variable's
      module _ (high : variable ≤ w) where
        follows : (get_or W i 0 - variable < length vars) × Pending P vars (drop (suc i) W) u.len
        follows = next-variable P Q.few vars W i u.len left (omega (arith, word, high))

        pub variable-below : w - variable < 64
        variable-below = omega (arith, word, follows.0, (Q.good.rules r l).variables)

        turns-to : rest P s m r work t i bs ≡ onwards (bound (w - variable) p bs (value_of (w - variable) bs)) (λ cs. match_words (over P s) (drop (suc i) W) (stacked m.stack u.len work) cs)
        unfolding match_words
        turns-to = rw (cut, on_top, le-leb variable w high, match_words)

        pub value-fits : (work' : List ℕ) → Outside m.values (m.values + 64) work work' → Binds work work' m.values (w - variable) p true → Goes P s m r work work' t i bs (Next u)
        unfolding onwards
        value-fits work' O B =
            let b = B bs M.values in
            let same : stacked m.stack u.len work' ≡ stacked m.stack u.len work = stacked-same m.stack u.len work work' (λ j h. O.behind (m.stack + j) (omega (arith, L.apart))) in (
              b.0,
              record { base = base; pending = follows.1; below = subst (Below (length s)) (sym same) stands.1; values = b.2 },
              turns-to ∙ rw b.1 (ap (λ (ns : List ℕ). match_words (over P s) (drop (suc i) W) ns b.0) (sym same)),
              early,
            )

        pub value_differs : (work' : List ℕ) → Binds work work' m.values (w - variable) p false → Goes P s m r work work' t i bs Fails
        unfolding onwards
        value_differs work' B = turns-to ∙ rw (B bs M.values)

      -- the word is a symbol's
      module _ (low : w < variable) where
        follows_symbol : (get_or W i 0 < length P.symbols) × Pending P vars (drop (suc i) W) (length (symbol_of P (get_or W i 0)).inputs + u.len)
        follows_symbol = next-symbol P Q.few vars W i u.len left (omega (arith, word, low))

        tests_head : rest P s m r work t i bs ≡ provided (eqb (get_or s p no_node).head w) (match_words (over P s) (drop (suc i) W) ((get_or s p no_node).args ++ stacked m.stack u.len work) bs)
        unfolding match_words node_of
        tests_head = rw (cut, on_top, lt-leb variable w low, match_words)

        head_differs : (work' : List ℕ) → ((get_or s p no_node).head ≡ w → ⊥) → Goes P s m r work work' t i bs Fails
        unfolding provided
        head_differs work' d = tests_head ∙ rw (ne_eqb (get_or s p no_node).head w d)

        module _ (head : (get_or s p no_node).head ≡ w) where
          args-many : length (get_or s p no_node).args ≡ length (symbol_of P (get_or W i 0)).inputs
          args-many = arguments_many P Q.few s S p a_pattern (get_or W i 0) follows_symbol.0 (head ∙ word)

          args_few : length (get_or s p no_node).args + u.len ≤ 256
          args_few = omega (arith, args-many, pending-most P vars (drop (suc i) W) _ follows_symbol.1, length-drop (suc i) W, words-most P Q.good r l)

          pub args-room : u.at + u.len + length (get_or s p no_node).args ≤ length work
          args-room = omega (arith, base, args_few, L.room)

          -- they end within the stack
          args-within : u.at + u.len + length (get_or s p no_node).args ≤ m.stack + 256
          args-within = omega (arith, base, args_few)

          head-fits : (work' : List ℕ) (u' : Stack) → ArgumentsOn work work' (key_of (get_or s p no_node)) u u' → Goes P s m r work work' t i bs (Next u')
          unfolding provided
          head-fits work' u' A =
              let e : stacked m.stack u'.len work' ≡ (get_or s p no_node).args ++ stacked m.stack u.len work =
              ap (λ (a : ℕ). stacked a u'.len work') (sym (A.base ∙ base)) ∙ A.words ∙ ap (λ (a : ℕ). (get_or s p no_node).args ++ stacked a u.len work) base in
              let n : length (symbol_of P (get_or W i 0)).inputs + u.len ≡ u'.len =
              ap (λ (k : ℕ). k + u.len) (sym args-many) ∙ ap (λ (k : ℕ). length (get_or s p no_node).args + k) (sym (length-stacked m.stack u.len work))
              ∙ sym (length-append (get_or s p no_node).args (stacked m.stack u.len work)) ∙ ap length (sym e) ∙ length-stacked m.stack u'.len work' in (
                bs,
                record {
                  base = A.base ∙ base;
                  pending = subst (Pending P vars (drop (suc i) W)) n follows_symbol.1;
                  below = subst (Below (length s)) (sym e) (below_both (length s) (get_or s p no_node).args (stacked m.stack u.len work) (arguments_below P Q.few s S p a_pattern (get_or W i 0) follows_symbol.0 (head ∙ word)) stands.1);
                  values = mapped_same work work' m.values 64 bs M.values (λ k h. A.outside.ahead (m.values + k) (omega (arith, base, L.apart)));
                },
                tests_head ∙ rw (eq-eqb (get_or s p no_node).head w head, e),
                early,
              )

        -- the two of them
        pub symbol_goes : (work' : List ℕ) (x : Turn) → SymbolTold work work' (get_or s p no_node) w u x → Goes P s m r work work' t i bs x
        symbol_goes work' (Next u') T = head-fits T.0 work' u' T.1
        symbol_goes work' Done T = absurd T
        symbol_goes work' Fails T = head_differs work' T.0

        pub symbol_stays : (work' : List ℕ) (x : Turn) → SymbolTold work work' (get_or s p no_node) w u x → Stays m work work'
        symbol_stays work' (Next u') T =
            stays_stack m work work' L (u.at + u.len) (u.at + u.len + (length (key_of (get_or s p no_node)) - 1)) (omega (arith, base)) (omega (arith, args-within T.0)) T.1.outside
        symbol_stays work' Done T = absurd T
        symbol_stays work' Fails T = subst (λ (xs : List ℕ). Stays m work xs) (sym T.1) (stays_none m work)
