-- What a turn of the walk does.
use Rattle.std.specs.Prelude.{Option, Some, None}
use Rattle.std.specs.Prelude.{◌≡◌, refl, ℕ, suc, ◌+◌, ◌*◌, ◌-◌, ◌≤◌, ◌<◌, length, get_or, drop, set}
use Rattle.std.proofs.Common.{sym, ◌∙◌, mul-le-mul_right, arith}
use Rattle.std.proofs.Math.Path.{ap, subst}
use mathlib.Core.List.{List, [], ◌∷◌}
use Rattle.std.proofs.Math.Option.{none}
use Rattle.definition.specs.Pack.{no_node}
use Rattle.definition.proofs.Laws.Grow.{below_at}
use Rattle.definition.specs.Run.{outcome}
use Rattle.base.specs.Stack.{stacked, stacked-same, stacked_pop}
use Rattle.base.specs.Outside.{Outside, outside_set}
use Rattle.base.specs.declared.stack.Stack.{Stack}
use Rattle.emission.specs.State.{Emitter}
use Rattle.emission.specs.Words.{pattern_of, word_of}
use Rattle.store.specs.Words.{key_of}
use Rattle.store.specs.Stored.{nodes}
use Rattle.emit_theory.specs.Outcomes.{ran}
use Rattle.emit_theory.specs.Search.Proving.{has_on}
use Rattle.definition.specs.Pack.{prop}
use Rattle.emit_state.specs.Places.{walk_at, scratch_end}
use Rattle.emit_state.specs.Holding.{Buffers, lends, World, Ready}
use Rattle.emit_state.specs.Frame.{holding_scratch}
use Rattle.emit_state.specs.declared.places.Places.{Places}
use Rattle.emit_state.specs.declared.standing.Standing.{Standing}
use Rattle.emit_words.specs.First.{Worded}
use Rattle.emit_words.specs.Pending.{pending, top_of, Waits, top_below, push_waits, push-same}
use Rattle.emit_words.specs.Spelling.{InEach, Lacks, Lacked, pattern_is}
use Rattle.emit_words.specs.Putting.{Whole}
use Rattle.emit_words.specs.Defining.{Defining, Definable, Defines}
use Rattle.emit_words.specs.Walking.{waiting, Walks, Walking, Finishing, Turned, judgment_low, stack_low, top_low}
use Rattle.emit_words.specs.declared.walk.Turn.TheVariants.{Next, Done}

-- one less of the first, whatever the second is below k
falls : (a b k x y : ℕ) → a < b → x < k → a * k + x < b * k + y
falls a b k x y h l = let g : suc a * k ≤ b * k = mul-le-mul_right k h in omega arith

module _ (pack work words proof : List ℕ) (l : Places) (m : Standing) (j : ℕ) (s : Stack) where
  -- the buffers ahead of the turn, and the top
  abbrev b : Buffers
  b = lends pack work words proof

  abbrev top : ℕ
  top = top_of j (waiting b s)

  -- ---- an argument that has no word is put on top
  module _ (K : Walking b l m j s) (p : ℕ) (t : p ≡ top) (key : List ℕ) (k : key ≡ key_of (get_or (nodes words m.store) p no_node)) where
    -- a key's arguments are the top's
    args_of : (w : World) (e : Emitter) → Walks b l m w e j s → drop 1 key ≡ (pattern_of e top).args
    args_of w e W = ap (drop 1) (k ∙ ap key_of (pattern_is pack work words proof l m w e W.ready p)) ∙ ap (λ (q : ℕ). (pattern_of e q).args) t

    -- all have words
    pub top-whole : Lacked work words l m (drop 1 key) None → InEach work words l m (λ w e. Whole e p)
    top-whole A pk pf w e R = subst (λ (xs : List ℕ). Worded e xs (length xs)) (ap (drop 1) (k ∙ ap key_of (pattern_is pk work words pf l m w e R p))) (A pk pf w e R)

    module _ (a : ℕ) (A : Lacked work words l m (drop 1 key) (Some a)) (work' : List ℕ) (is : work' ≡ set work (s.at + s.len) a) (u : Stack) (at : u.at ≡ s.at)
        (on : stacked u.at u.len work' ≡ a ∷ stacked s.at s.len work) where
      -- the buffers behind it
      abbrev b' : Buffers
      b' = lends pack work' words proof

      -- what holds of the first argument without a word holds of a
      of_first : (w : World) (e : Emitter) → Walks b l m w e j s → (Q : ℕ → Type 0)
          → ((i : ℕ) → i < length (pattern_of e top).args → Worded e (pattern_of e top).args i → word_of e (get_or (pattern_of e top).args i 0) ≡ none → Q (get_or (pattern_of e top).args i 0)) → Q a
      of_first w e W Q h =
          let T = subst (λ (xs : List ℕ). Lacks e xs (Some a)) (args_of w e W) (A pack proof w e W.ready) in
          subst Q T.2 (h T.0 T.1 T.3 (ap (word_of e) T.2 ∙ T.4))

      -- the same state is held
      ready_on : (w : World) (e : Emitter) → Walks b l m w e j s → Ready b' l m w e
      ready_on w e W =
          let R = W.ready in
          let low = stack_low pack work words proof l m j s w e W in
          let O : Outside (walk_at l) (scratch_end l) work work' = subst (Outside (walk_at l) (scratch_end l) work) (sym is) (outside_set (walk_at l) (scratch_end l) work (s.at + s.len) a (omega (arith, K.at)) (omega (arith, K.at, low))) in
          record { holding = holding_scratch b l m w e R.holding work' O; sound = R.sound; supposed = R.supposed }

      -- the argument is before the top
      lower : a < top
      lower = let w = K.world in let e = K.state in let W = K.walks in of_first w e W (λ x. x < top) (λ i h _ _. below_at top (pattern_of e top).args i (top_below w.setting e W.ready.sound j W.has (waiting b s) W.waits) h)

      -- so a turn was taken
      pub turn-pushed : Turned b b' l m j s (Some (Next m u))
      turn-pushed = (
        record { at = at; store = refl; less = let z : top_of j (waiting b' u) ≡ a = ap (top_of j) on in omega (arith, lower, z) },
        λ w e W. record {
          state = e;
          walks = record {
            ready = ready_on w e W;
            has = W.has;
            waits = subst (Waits w.setting e 0 j) (sym on) (of_first w e W (λ x. Waits w.setting e 0 j (x ∷ waiting b s)) (λ i h _ n. push_waits w.setting e W.ready.sound j W.has (waiting b s) W.waits i h n));
          };
          same = of_first w e W (λ x. ran w.lent (pending w.setting j (waiting b s)) e ≡ ran w.lent (pending w.setting j (x ∷ waiting b s)) e)
              (λ i h d n. ap (outcome w.lent) (push-same w.setting e W.ready.sound j W.has (waiting b s) W.waits i h d))
              ∙ ap (λ (ps : List ℕ). ran w.lent (pending w.setting j ps) e) (sym on);
        },
      )

  -- ---- the top is finished
  module _ (p : ℕ) (F : Finishing b l m j p s) where
    -- nothing waits: it is the judgment
    pub turn-done : s.len ≡ 0 → Turned b b l m j s (Some Done)
    unfolding stacked
    turn-done z w e W =
        let y : waiting b s ≡ [] = ap (λ (n : ℕ). stacked s.at n work) z in
        let q : p ≡ j = F.top ∙ ap (top_of j) y in
        (W.ready, subst (Whole e) q (F.whole pack proof w e W.ready), y)

    -- else it is on the stack
    module _ (some : s.len ≡ 0 → ⊥) where
      -- its word is the last
      on_top : stacked s.at s.len work ≡ p ∷ stacked s.at (s.len - 1) work
      on_top =
          let n : s.len ≡ (s.len - 1) + 1 = omega arith in
          let y = ap (λ (k : ℕ). stacked s.at k work) n ∙ stacked_pop s.at (s.len - 1) work in
          let q : p ≡ get_or work (s.at + (s.len - 1)) 0 = F.top ∙ ap (top_of j) y in
          y ∙ ap (λ (x : ℕ). x ∷ stacked s.at (s.len - 1) work) (sym q)

      -- it can be defined
      defining : (w : World) (e : Emitter) → Walks b l m w e j s → Defining b l m w e p × Waits w.setting e (suc p) j (stacked s.at (s.len - 1) work)
      defining w e W =
          let X = subst (Waits w.setting e 0 j) on_top W.waits in
          (record { ready = W.ready; speaks = X.3; lacks = X.2; whole = F.whole pack proof w e W.ready }, X.4)

      -- in some state
      pub turn_definable : Definable b l m p
      turn_definable = let K = F.walking in record { world = K.world; state = K.state; defining = (defining K.world K.state K.walks).0 }

      module _ (work' proof' : List ℕ) (r : Option Standing) (D : Defines b (lends pack work' words proof') l m p r) where
        -- the text is short
        pub turn_short : r ≡ None → Turned b (lends pack work' words proof') l m j s None
        turn_short q w e W =
            let E = subst (Defines b (lends pack work' words proof') l m p) q D in
            ap (λ (ps : List ℕ). ran w.lent (pending w.setting j ps) e) on_top ∙ E w e (defining w e W).0 j (stacked s.at (s.len - 1) work)

        -- it is defined, and taken off
        pub turn_defined : (t : Standing) → r ≡ Some t → Turned b (lends pack work' words proof') l m j s (Some (Next t (record { at = s.at; len = s.len - 1 })))
        turn_defined t q =
            let E = subst (Defines b (lends pack work' words proof') l m p) q D in
            let B = E.0 in
            let K = F.walking in
            let st = stacked s.at (s.len - 1) work in
            let same : stacked s.at (s.len - 1) work' ≡ st = stacked-same s.at (s.len - 1) work work' (λ i h. B.outside.behind (s.at + i) (omega (arith, K.at))) in
            let N = E.1 K.world K.state (defining K.world K.state K.walks).0 in
            let go : (w : World) (e : Emitter) (W : Walks b l m w e j s) → Walks (lends pack work' words proof') l t w (E.1 w e (defining w e W).0).state j (record { at = s.at; len = s.len - 1 }) =
            λ w e W. let C = E.1 w e (defining w e W).0 in record {
              ready = C.ready;
              has = has_on w.setting e C.state C.grew prop j W.has;
              waits = subst (Waits w.setting C.state 0 j) (sym same) (C.waits j st (defining w e W).1);
            } in
            let low = top_low pack work' words proof' l t j (record { at = s.at; len = s.len - 1 }) K.world N.state (go K.world K.state K.walks) in
            let room = judgment_low pack work words proof l m j s K.world K.state K.walks in (
              record {
                at = refl;
                store = B.store;
                less = rw B.long (falls (length proof - t.text) (length proof - m.text) (l.room + 1) (top_of j (stacked s.at (s.len - 1) work')) top (omega (arith, B.longer, B.ends)) (omega (arith, low, room)));
              },
              λ w e W. let C = E.1 w e (defining w e W).0 in record {
                state = C.state;
                walks = go w e W;
                same = ap (λ (ps : List ℕ). ran w.lent (pending w.setting j ps) e) on_top ∙ C.same j st ∙ ap (λ (ps : List ℕ). ran w.lent (pending w.setting j ps) C.state) (sym same);
              },
            )
