-- From one pattern that gets its value to the next on the stack.
use Rattle.std.specs.Prelude.{Some, None}
use Rattle.std.specs.Prelude.{◌≡◌, List, [], ◌∷◌, ℕ, suc, ◌+◌, ◌≤◌, ◌<◌, length}
use Rattle.std.proofs.Common.{sym, ap, subst, ◌∙◌, arith}
use Rattle.std.proofs.Math.Option.{none, some}
use Rattle.definition.specs.Test.{never}
use Rattle.base.specs.Outside.{Outside}
use Rattle.base.specs.Stack.{stacked, stacked-same, Took}
use Rattle.base.specs.declared.stack.Stack.{Stack}
use Rattle.memo.specs.Lent.{lent-before}
use Rattle.memo.specs.Recall.{Remembers}
use Rattle.memo.specs.declared.memo.Memo.{Memo}
use Rattle.store.specs.Stored.{nodes}
use Rattle.store.specs.declared.nodes.Store.{Store}
use Rattle.emit_state.specs.Places.{replaced_at, stamp_at, walk_at, values_at, replaced_in, Laid, SameIn}
use Rattle.emit_state.specs.declared.places.Places.{Places}
use Rattle.emit_replace.specs.Again.{Rests}
use Rattle.emit_replace.specs.Known.{Known, Waits, waits_same, waits_less, gaps, gaps_less}
use Rattle.emit_replace.specs.Reading.{values_in, Readable, nodes-room}
use Rattle.emit_replace.specs.Walking.{queue, Pending, values_same, pending_few, pending-room}

-- the memo stays while one walks down
pub remembers_on : (work work' : List ℕ) (l : Places) (memo : Memo) → Laid work l → Outside (walk_at l) (values_at l) work work' → Remembers (replaced_in work l) memo → Remembers (replaced_in work' l) memo
remembers_on work work' l memo L O M = rw (lent-before (walk_at l) (values_at l) work work' O (replaced_at l) (stamp_at l) (omega arith) (omega arith) (omega (arith, L.within))) M

-- what has a value keeps it
pub known_on : (work work' : List ℕ) (l : Places) (memo : Memo) → Laid work l → Outside (walk_at l) (values_at l) work work' → (x : ℕ) → Known (values_in work l memo) x → Known (values_in work' l memo) x
known_on work work' l memo L O x k = (k.0, values_same work work' l memo L O x ∙ k.1)

module _ (work words : List ℕ) (l : Places) (st : Store) (memo : Memo) (q : ℕ) (stack : Stack) (d : ℕ) (P : Pending work words l st memo q stack d) where
  -- a pattern that waits has no value
  pub pending_apart : (x : ℕ) → Known (values_in work l memo) x → q ≡ x → ⊥
  pending_apart x k e = never (let z : none ≡ some k.0 = sym P.waits.1 ∙ ap (values_in work l memo) e ∙ k.1 in cc)

  -- it is at most the last
  pub pending-below : q < suc d
  pending-below = omega (arith, pending_few work words l st memo q stack d P)

  -- and has room for its value
  pub pending-valued : q < l.room
  pending-valued = omega (arith, pending-below, P.rests.long, nodes-room work words l st P.readable)

  module _ (work' : List ℕ) (long : length work' ≡ length work) (same : SameIn (walk_at l) (length work) work work') where
    -- those that wait still do
    on_stack : stacked stack.at stack.len work' ≡ stacked stack.at stack.len work
    on_stack = stacked-same stack.at stack.len work work' (λ i h. same (stack.at + i) (omega (arith, P.base)) (omega (arith, pending-room work words l st memo q stack d P, P.readable.laid.within)))

    -- there is nothing behind the stack
    pub stack_inside : stack.at + stack.len ≤ length work'
    stack_inside = omega (arith, pending-room work words l st memo q stack d P, P.readable.laid.within)

    module _ (others : (o : ℕ) → (q ≡ o → ⊥) → values_in work' l memo o ≡ values_in work l memo o) where
      -- fewer are without a value
      pub fewer_gaps : (v : ℕ) → values_in work' l memo q ≡ some v → gaps (values_in work' l memo) l.room < gaps (values_in work l memo) l.room
      fewer_gaps v here = gaps_less (values_in work l memo) (values_in work' l memo) q v l.room pending-valued P.waits.1 here others

      -- the next one
      pub pending_next : (words' : List ℕ) (st' : Store) → Readable work' words' l st' → Rests (suc d) (nodes words' st') → (next : ℕ) (rest : Stack) → Took (stacked stack.at stack.len work') stack.at work' (Some (next, rest))
          → Pending work' words' l st' memo next rest d × (stacked stack.at stack.len work ≡ queue work' next rest)
      pending_next words' st' R S next rest T =
          let e : stacked stack.at stack.len work ≡ queue work' next rest = sym on_stack ∙ T.2 ∙ ap (λ (a : ℕ). next ∷ stacked a rest.len work') (sym T.0) in
          let w : Waits (values_in work l memo) d (suc q) (queue work' next rest) = subst (λ (ps : List ℕ). Waits (values_in work l memo) d (suc q) ps) e P.waits.2 in
          let z = waits_same (values_in work l memo) (values_in work' l memo) d (suc q) (queue work' next rest) (λ o h. others o (λ i. omega arith)) w in
          (record { readable = R; rests = S; base = T.0 ∙ P.base; waits = waits_less (values_in work' l memo) d 0 (suc q) next (stacked rest.at rest.len work') (omega arith) z }, e)

      -- there is none
      pub pending-last : Took (stacked stack.at stack.len work') stack.at work' None → (q ≡ d) × (stacked stack.at stack.len work ≡ [])
      pending-last T =
          let e : stacked stack.at stack.len work ≡ [] = sym on_stack ∙ T in
          let w : suc q ≡ suc d = subst (λ (ps : List ℕ). Waits (values_in work l memo) d (suc q) ps) e P.waits.2 in
          (omega arith, e)
