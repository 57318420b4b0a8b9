-- A node is taken: a variable has nothing; an application's variable is marked and its arguments are met.
use Rattle.std.specs.Prelude.{◌≡◌, refl, Bool, not}
use Rattle.std.proofs.Math.Path.{sym, ap, subst}
use Rattle.std.proofs.Common.{◌∙◌, arith}
use Rattle.std.proofs.Math.Bool.{true, false}
use mathlib.Core.List.{List, ◌∷◌}
use Prim.Native.Nat.{ℕ, ◌+◌, ◌≤◌, ◌<◌}
use borrow.Author.Tests.{eq-eqb, ne_eqb}
use Rattle.std.proofs.Math.Dec.{ltb}
use Rattle.std.proofs.Math.ListN.{length, get_or}
use Rattle.definition.specs.Test.{never, or_right}
use Rattle.definition.specs.Pack.{Node, no_node}
use Rattle.definition.specs.Store.{variable_head, is_variable}
use Rattle.definition.specs.Classes.{is_some}
use Rattle.base.specs.Outside.{Outside, outside_none, outside_then, outside_wider}
use Rattle.base.specs.declared.stack.Stack.{Stack}
use Rattle.theory.specs.Copies.Terms.{below-variable, below-applied}
use Rattle.theory.specs.Unification.Count.{count}
use Rattle.theory.specs.Walks.Stands.{hits, hits_short, stands_here}
use Rattle.theory.specs.Walks.Reaching.{Done, Reaching, front_met, reaching_finds, reaching_takes}
use Rattle.store.specs.Stored.{nodes}
use Rattle.store.specs.declared.nodes.Store.{Store}
use Rattle.memo.specs.Recall.{Remembers}
use Rattle.memo.specs.Lent.{lent, lent-before, recall-before}
use Rattle.memo.specs.declared.memo.Memo.{Memo}
use Rattle.emit_open.specs.declared.open.Opening.{Opening}
use Rattle.emit_open.specs.Held.{met_in, marked_in, Low, waiting, unmet, Given, given_on, given_len, Bounded, waiting-same, marks-behind}
use Rattle.emit_open.specs.Meets.{Taking, MeetsAll}
use Rattle.emit_open.specs.Notes.{Notable, Notes}

-- ---- `take`: what it asks
pub record Ready (work words : List ℕ) (l : Opening) (st : Store) (met : Memo) (todo : Stack) (q c i : ℕ) : Type 0 where
  pub given : Given work words l st met
  pub base : todo.at ≡ l.stack
  pub room : todo.len + unmet work words l st met ≤ length (nodes words st)
  pub root : ℕ
  pub bounded : Bounded words l st root c i
  pub reaching : Reaching (nodes words st) c i root (q ∷ waiting work todo) (met_in work l met) (marked_in work l)

-- and promises: the walk goes on with what waits then
pub record Takes (work work' words : List ℕ) (l : Opening) (st : Store) (met : Memo) (todo : Stack) (q c i : ℕ) (r : Stack) : Type 0 where
  pub outside : Outside l.stack l.end work work'
  pub between : (j : ℕ) → l.past ≤ j → j < l.marks → get_or work' j 0 ≡ get_or work j 0
  pub kept : Remembers (lent l.met l.past work') met
  pub base : r.at ≡ l.stack
  pub low : Low work l → Low work' l
  pub room : r.len + unmet work' words l st met ≤ todo.len + unmet work words l st met
  pub reaching : (p : ℕ) → Reaching (nodes words st) c i p (q ∷ waiting work todo) (met_in work l met) (marked_in work l)
      → Reaching (nodes words st) c i p (waiting work' r) (met_in work' l met) (marked_in work' l)

module _ (work words : List ℕ) (l : Opening) (st : Store) (met : Memo) (todo : Stack) (q c i : ℕ) (Q : Ready work words l st met todo q c i) where
  -- the store's nodes
  abbrev s : List Node
  s = nodes words st

  -- it was met
  front : met_in work l met q ≡ true
  front = front_met s c i Q.given.patterns.earlier Q.root q (waiting work todo) (met_in work l met) (marked_in work l) Q.reaching

  -- so it is a node
  pub ready_node : q < length s
  ready_node = Q.reaching.inside q front

  module _ (head : ℕ) (e : head ≡ (get_or s q no_node).head) where
    -- a variable has nothing
    pub takes-variable : head ≡ 4294967294 → Takes work work words l st met todo q c i todo
    unfolding is_variable
    takes-variable v =
        let b = ap (λ (xs : List ℕ). length xs) (below-variable (get_or s q no_node) (eq-eqb (get_or s q no_node).head variable_head (sym e ∙ v))) in
        let none : (k : ℕ) → hits s c i q k ≡ false = λ k. hits_short s c i q k (omega (arith, b)) in
        record {
          outside = outside_none l.stack l.end work;
          between = λ j a b. refl;
          kept = Q.given.kept;
          base = Q.base;
          low = λ z. z;
          room = omega arith;
          reaching = λ p R. reaching_takes s c i Q.given.patterns.earlier p q (waiting work todo) (met_in work l met) (marked_in work l) R
              (record { has = λ k h. never (let z : true ≡ false = sym h ∙ none k in cc); kids-met = λ j h. absurd (omega (arith, b)) });
        }

    module _ (d : head ≡ 4294967294 → ⊥) where
      -- an application
      applied : is_variable (get_or s q no_node) ≡ false
      unfolding is_variable
      applied = ne_eqb (get_or s q no_node).head variable_head (λ z. d (e ∙ z))

      -- what it has can be marked
      pub takes_notable : Notable work words l st q c i
      takes_notable = record {
        met = met;
        given = Q.given;
        pattern = ready_node;
        applied = applied;
        bound = λ k h. Q.bounded k (Q.reaching.under k q front (stands_here s c i Q.given.patterns.earlier k q ready_node h));
      }

      module _ (mid : List ℕ) (N : Notes work mid words l st q c i) where
        -- marks leave the stack and the memo
        wide : Outside l.stack l.end work mid
        wide = outside_wider l.marks l.end l.stack l.end work mid (omega (arith, Q.given.stack, Q.given.table, Q.given.gap)) (omega arith) N.outside

        pub takes-given : Given mid words l st met
        takes-given =
            let H = Q.given in
            given_on work words l st met H mid met wide
            (subst (λ (zs : List ℕ). Remembers zs met) (sym (lent-before l.marks l.end work mid N.outside l.met l.past (omega (arith, H.table)) H.gap (omega (arith, H.gap, H.order, H.fits)))) H.kept)

        met-same : met_in mid l met ≡ met_in work l met
        unfolding met_in
        met-same =
            let H = Q.given in
            λ j x. is_some (recall-before l.marks l.end work mid N.outside l.met l.past (omega (arith, H.table)) H.gap (omega (arith, H.gap, H.order, H.fits)) met x j)

        waits_same : waiting mid todo ≡ waiting work todo
        waits_same = let H = Q.given in waiting-same l.marks l.end work mid N.outside todo (omega (arith, Q.base, Q.room, H.stack, H.table, H.gap, given_len work words l st met H))

        unmet-same : unmet mid words l st met ≡ unmet work words l st met
        unmet-same = ap (λ (f : ℕ → Bool). count (λ x. not (f x)) (length s)) met-same

        -- its arguments can be met
        pub takes_taking : (k : ℕ) → k ≡ length (get_or s q no_node).args → Taking mid words l st met todo q k
        takes_taking k a = record { given = takes-given; base = Q.base; pattern = ready_node; applied = applied; arity = a; room = omega (arith, Q.room, unmet-same) }

        -- all of it
        pub takes_all : (work' : List ℕ) (r : Stack) → MeetsAll mid work' words l st met todo q r → Takes work work' words l st met todo q c i r
        unfolding marked_in
        takes_all work' r M =
            let H = Q.given in
            let E = H.patterns.earlier in
            let marks = marks-behind l.stack l.past mid work' M.outside l H.gap H.order (omega (arith, H.fits, N.outside.long)) in
            record {
              outside = outside_then l.stack l.end work mid work' wide (outside_wider l.stack l.past l.stack l.end mid work' (omega arith) (omega (arith, H.gap, H.order)) M.outside);
              between = λ j a b. M.outside.behind j a ∙ N.outside.ahead j b;
              kept = M.kept;
              base = M.base;
              low = λ z k. omega (arith, N.low z k, ap (λ (ws : List ℕ). get_or ws k 0) marks);
              room = omega (arith, M.room, unmet-same);
              reaching = λ p R.
                  let found = reaching_finds s c i E p q (waiting work todo) (met_in work l met) (marked_in work l) R (marked_in mid l) N.marked in
                  let there : Reaching s c i p (q ∷ waiting mid todo) (met_in mid l met) (marked_in mid l) = rw (waits_same, met-same) found in
                  let all = M.reaching c i p (marked_in mid l) there in
                  let done : Done s c i (met_in work' l met) (marked_in mid l) q = record {
                    has = λ k h. N.marked k ∙ or_right (marked_in work l k) (hits s c i q k) h;
                    kids-met = λ j h.
                        let b = below-applied (get_or s q no_node) applied in
                        ap (λ (xs : List ℕ). met_in work' l met (get_or xs j 0)) b ∙ M.first j (omega (arith, h, ap (λ (xs : List ℕ). length xs) b));
                  } in
                  let back = sym marks in
                  let same : marked_in mid l ≡ marked_in work' l = λ j k. ltb 0 (get_or (back j) k 0) in
                  subst (λ (f : ℕ → Bool). Reaching s c i p (waiting work' r) (met_in work' l met) f) same
                  (reaching_takes s c i E p q (waiting work' r) (met_in work' l met) (marked_in mid l) all done);
            }
