-- The walk: all marks are cleared and the pattern is met; with each turn one node that waits is taken; at the end the marks are the definition's.
use Rattle.std.specs.Prelude.{Some}
use Rattle.std.specs.Prelude.{◌≡◌, false, ltb, length, replicate}
use Rattle.std.proofs.Math.Path.{refl, sym, ap, subst}
use Rattle.std.proofs.Common.{◌∙◌, arith}
use Rattle.std.proofs.Math.Bool.{not}
use mathlib.Core.List.{List, [], ◌∷◌}
use Prim.Native.Nat.{ℕ, zero, suc, ◌+◌, ◌-◌, ◌≤◌, ◌<◌}
use Rattle.std.proofs.Math.ListN.{get_or}
use Rattle.definition.specs.Store.{term_of}
use Rattle.definition.specs.Classes.{is_some, mark}
use Rattle.definition.specs.Open.{at}
use Rattle.base.specs.Listed.{only_at}
use Rattle.base.specs.Outside.{Outside, outside_then, outside_wider}
use Rattle.base.specs.Part.{part, put, part_at}
use Rattle.base.specs.Stack.{stacked, length-stacked, Took}
use Rattle.base.specs.declared.stack.Stack.{Stack}
use Rattle.theory.specs.Unification.Count.{count_most}
use Rattle.theory.specs.Walks.Reaching.{Reaching, reaching_first, reaching_ends}
use Rattle.store.specs.Stored.{nodes}
use Rattle.store.specs.declared.nodes.Store.{Store}
use Rattle.memo.specs.Recall.{Remembers}
use Rattle.memo.specs.Lent.{lent, lent-before, back-lent, back_outside, Clears}
use Rattle.memo.specs.declared.memo.Memo.{Memo}
use Rattle.emit_open.specs.declared.open.Opening.{Opening}
use Rattle.emit_open.specs.Held.{met_in, marked_in, Low, waiting, unmet, Given, given_len, given-place, given_on, Bounded, marks-behind}
use Rattle.emit_open.specs.Meets.{Meetable, Meets, Enters, unmet_fewer}
use Rattle.emit_open.specs.Takes.{Ready, Takes}

-- ---- `at` promises: each mark is the definition's, the memo can be used on, and nothing has changed ahead of the stack, between the memo and
-- the marks, or behind the marks
pub record Opens (work work' words : List ℕ) (l : Opening) (st : Store) (p c i : ℕ) (met : Memo) : Type 0 where
  pub outside : Outside l.stack l.end work work'
  pub between : (j : ℕ) → l.past ≤ j → j < l.marks → get_or work' j 0 ≡ get_or work j 0
  pub kept : Remembers (lent l.met l.past work') met
  pub marks : (k : ℕ) → k < l.end - l.marks → get_or work' (l.marks + k) 0 ≡ mark (at c i k (term_of (nodes words st) p))

-- between two turns
pub record Going (first work words : List ℕ) (l : Opening) (st : Store) (met : Memo) (p c i : ℕ) (todo : Stack) : Type 0 where
  pub given : Given work words l st met
  pub outside : Outside l.stack l.end first work
  pub between : (j : ℕ) → l.past ≤ j → j < l.marks → get_or work j 0 ≡ get_or first j 0
  pub base : todo.at ≡ l.stack
  pub low : Low work l
  pub room : todo.len + unmet work words l st met ≤ length (nodes words st)
  pub reaching : Reaching (nodes words st) c i p (waiting work todo) (met_in work l met) (marked_in work l)

-- ---- the turns
module _ (first work words : List ℕ) (l : Opening) (st : Store) (met : Memo) (p c i : ℕ) (todo : Stack) (G : Going first work words l st met p c i todo) where
  -- what waits stands in work
  pub going_inside : todo.at + todo.len ≤ length work
  going_inside = let H = G.given in omega (arith, G.base, G.room, H.stack, H.table, H.gap, H.order, H.fits, given_len work words l st met H)

  module _ (q : ℕ) (rest : Stack) (T : Took (waiting work todo) todo.at work (Some (q, rest))) where
    -- one less waits
    pub going_less : suc rest.len ≡ todo.len
    going_less =
        sym (ap (λ (n : ℕ). suc n) (length-stacked todo.at rest.len work)) ∙ sym (ap (λ (ws : List ℕ). length ws) T.2) ∙ length-stacked todo.at todo.len work

    -- it is the first of what waits
    front : waiting work todo ≡ q ∷ waiting work rest
    front = T.2 ∙ ap (λ (a : ℕ). q ∷ stacked a rest.len work) (sym T.0)

    -- it can be taken
    pub going_ready : Bounded words l st p c i → Ready work words l st met rest q c i
    going_ready B = record {
      given = G.given;
      base = T.0 ∙ G.base;
      room = omega (arith, G.room, going_less);
      root = p;
      bounded = B;
      reaching = subst (λ (ws : List ℕ). Reaching (nodes words st) c i p ws (met_in work l met) (marked_in work l)) front G.reaching;
    }

    -- and the walk goes on
    pub going_on : (work' : List ℕ) (r : Stack) → Takes work work' words l st met rest q c i r → Going first work' words l st met p c i r
    going_on work' r M = record {
      given = given_on work words l st met G.given work' met M.outside M.kept;
      outside = outside_then l.stack l.end first work work' G.outside M.outside;
      between = λ j a b. M.between j a b ∙ G.between j a b;
      base = M.base;
      low = M.low G.low;
      room = omega (arith, M.room, G.room, going_less);
      reaching = M.reaching p (subst (λ (ws : List ℕ). Reaching (nodes words st) c i p ws (met_in work l met) (marked_in work l)) front G.reaching);
    }

    -- with less left to do
    pub going_fewer : (work' : List ℕ) (r : Stack) → Takes work work' words l st met rest q c i r → r.len + unmet work' words l st met < todo.len + unmet work words l st met
    going_fewer work' r M = omega (arith, M.room, going_less)

  -- none waits
  pub going_done : waiting work todo ≡ [] → Opens first work words l st p c i met
  unfolding marked_in mark part
  going_done e =
      let H = G.given in
      let R : Reaching (nodes words st) c i p [] (met_in work l met) (marked_in work l) = subst (λ (ws : List ℕ). Reaching (nodes words st) c i p ws (met_in work l met) (marked_in work l)) e G.reaching in
      record {
        outside = G.outside;
        between = G.between;
        kept = H.kept;
        marks = λ k h.
            let w : ℕ = get_or (lent l.marks l.end work) k 0 in
            let word : get_or work (l.marks + k) 0 ≡ w = sym (part_at l.marks (l.end - l.marks) work k h) in
            word ∙ as_mark w (G.low k) ∙ ap mark (reaching_ends (nodes words st) c i H.patterns.earlier p (met_in work l met) (marked_in work l) R k);
      }
    where
      as_mark : (w : ℕ) → w ≤ 1 → w ≡ mark (ltb 0 w)
      as_mark zero h = refl
      as_mark (suc zero) h = refl
      as_mark (suc (suc w)) h = absurd (omega arith)

-- ---- the start
module _ (work words : List ℕ) (l : Opening) (st : Store) (met : Memo) (H : Given work words l st met) (p : ℕ) (lp : p < length (nodes words st)) where
  -- all marks are cleared
  module _ (ys : List ℕ) (long : length ys ≡ length (lent l.marks l.end work)) (Z : ys ≡ replicate (length (lent l.marks l.end work)) 0) where
    abbrev clean : List ℕ
    clean = put l.marks (l.end - l.marks) ys work

    -- nothing else has changed
    clean_outside : Outside l.marks l.end work clean
    clean_outside = back_outside l.marks l.end work H.order H.fits ys long

    -- no mark is set
    clean-marks : (k : ℕ) → get_or (lent l.marks l.end clean) k 0 ≡ 0
    clean-marks k = ap (λ (zs : List ℕ). get_or zs k 0) (back-lent l.marks l.end work H.order H.fits ys long ∙ Z) ∙ only_at 0 (length (lent l.marks l.end work)) k

    -- the memo can be cleared
    pub clean-placed : (l.met ≤ l.past) × (l.past ≤ length clean) × Remembers (lent l.met l.past clean) met
    clean-placed = (
      omega (arith, H.table),
      omega (arith, H.gap, H.order, H.fits, clean_outside.long),
      subst (λ (zs : List ℕ). Remembers zs met) (sym (lent-before l.marks l.end work clean clean_outside l.met l.past (omega (arith, H.table)) H.gap (omega (arith, H.gap, H.order, H.fits)))) H.kept,
    )

    module _ (mid : List ℕ) (fresh : Memo) (A : Clears clean mid l.met l.past fresh) where
      -- what the start leaves
      mid_outside : Outside l.stack l.end work mid
      mid_outside = outside_then l.stack l.end work clean mid
          (outside_wider l.marks l.end l.stack l.end work clean (omega (arith, H.stack, H.table, H.gap)) (omega arith) clean_outside)
          (outside_wider l.met l.past l.stack l.end clean mid (omega (arith, H.stack)) (omega (arith, H.gap, H.order)) A.outside)

      pub mid-given : Given mid words l st fresh
      mid-given = given_on work words l st met H mid fresh mid_outside A.remembers

      -- nothing is met
      mid_none : (x : ℕ) → met_in mid l fresh x ≡ false
      unfolding met_in
      mid_none x = ap is_some (A.empty x)

      -- nor marked
      mid-marks : lent l.marks l.end mid ≡ lent l.marks l.end clean
      mid-marks = marks-behind l.met l.past clean mid A.outside l H.gap H.order (omega (arith, H.fits, clean_outside.long))

      -- nothing waits yet
      abbrev pub none_waits : Stack
      none_waits = record { at = l.stack; len = 0 }

      -- the pattern can be met
      pub first_meetable : Meetable mid l fresh none_waits p
      first_meetable = record {
        base = refl;
        order = omega (arith, H.table);
        fits = omega (arith, H.gap, H.order, H.fits, mid_outside.long);
        kept = A.remembers;
        place = given-place mid words l st fresh mid-given p lp;
        room = λ e. omega (arith, H.stack, lp, given_len work words l st met H);
      }

      -- it is met, and the walk begins
      pub first_going : (c i : ℕ) (first : List ℕ) (todo : Stack) → Meets (met_in mid l fresh p) mid first l fresh none_waits p todo → Going work first words l st fresh p c i todo
      unfolding marked_in stacked
      first_going c i first todo M =
          let E : Enters mid first l fresh none_waits p todo = rw (mid_none p) at M in
          let W : Outside l.stack l.end mid first = outside_wider l.stack l.past l.stack l.end mid first (omega arith) (omega (arith, H.gap, H.order)) E.outside in
          let marks : (k : ℕ) → get_or (lent l.marks l.end first) k 0 ≡ 0 =
          λ k. ap (λ (zs : List ℕ). get_or zs k 0) (marks-behind l.stack l.past mid first E.outside l H.gap H.order (omega (arith, H.fits, mid_outside.long)) ∙ mid-marks) ∙ clean-marks k in
          record {
            given = given_on mid words l st fresh mid-given first fresh W E.kept;
            outside = outside_then l.stack l.end work mid first mid_outside W;
            between = λ j a b. E.outside.behind j a ∙ A.outside.behind j a ∙ clean_outside.ahead j b;
            base = E.base;
            low = λ k. omega (arith, marks k);
            room = omega (arith, E.more, unmet_fewer mid first words l st fresh p lp (mid_none p) E.here E.others, count_most (λ x. not (met_in mid l fresh x)) (length (nodes words st)));
            reaching = subst (λ (ws : List ℕ). Reaching (nodes words st) c i p ws (met_in first l fresh) (marked_in first l)) (sym E.stack)
                (reaching_first (nodes words st) c i p (met_in first l fresh) (marked_in first l) lp E.here (λ x d. E.others x d ∙ mid_none x) (λ k. ap (ltb 0) (marks k)));
          }
