-- The walk down to a pattern whose arguments all have values: what waits on its stack, and what is left to be replaced.
use Rattle.std.specs.Prelude.{Option, Some, None}
use Rattle.std.specs.Prelude.{◌≡◌, refl, List, ◌∷◌, ℕ, suc, ◌+◌, ◌<◌, get_or, set}
use Rattle.std.proofs.Common.{sym, ap, subst, ◌∙◌, arith}
use Rattle.std.proofs.Math.Option.{none, some}
use Rattle.definition.specs.Test.{never}
use Rattle.definition.proofs.Laws.Grow.{below_more, below_at}
use Rattle.base.specs.Outside.{Outside, outside_none, outside_then, outside_set}
use Rattle.base.specs.Stack.{stacked, length-stacked}
use Rattle.base.specs.declared.stack.Stack.{Stack}
use Rattle.memo.specs.Lent.{lent-before, recall-before}
use Rattle.memo.specs.declared.memo.Memo.{Memo}
use Rattle.store.specs.Stored.{nodes}
use Rattle.store.specs.declared.nodes.Store.{Store}
use Rattle.emission.specs.Patterns.{replace}
use Rattle.emit_state.specs.Places.{replaced_at, stamp_at, walk_at, values_at, index_end, Laid}
use Rattle.emit_state.specs.Frame.{laid_on}
use Rattle.emit_state.specs.declared.places.Places.{Places}
use Rattle.emit_replace.specs.Again.{Rests}
use Rattle.emit_replace.specs.Known.{Values, Known, AllKnown, FirstOpen, Waits, waits_few, waits_same}
use Rattle.emit_replace.specs.Right.{Right, right-same, argument_first}
use Rattle.emit_replace.specs.Reading.{args_in, values_in, Readable, At, nodes-room}
use Rattle.emit_replace.specs.declared.walk.Reached.{Reached}

-- the first argument without a value, or none
abbrev pub Opens : Values → List ℕ → Option ℕ → Type 0
Opens μ args (Some a) = FirstOpen μ args a
Opens μ args None = AllKnown μ args

-- pattern p, and those on the stack that wait for it
abbrev pub queue : List ℕ → ℕ → Stack → List ℕ
queue work p stack = p ∷ stacked stack.at stack.len work

-- they have no value yet, the last of them is d, and up to d patterns rest on earlier ones
pub record Pending (work words : List ℕ) (l : Places) (st : Store) (memo : Memo) (p : ℕ) (stack : Stack) (d : ℕ) : Type 0 where
  pub readable : Readable work words l st
  pub rests : Rests (suc d) (nodes words st)
  pub base : stack.at ≡ walk_at l
  pub waits : Waits (values_in work l memo) d 0 (queue work p stack)

-- so for some d
abbrev pub Waiting : List ℕ → List ℕ → Places → Store → Memo → ℕ → Stack → Type 0
Waiting work words l st memo p stack = (d : ℕ) × Pending work words l st memo p stack d

-- from one pattern down to another nothing else changes, and what is left to be replaced comes to the same
pub record Descending (work work' words : List ℕ) (l : Places) (st : Store) (memo : Memo) (p p' : ℕ) (stack stack' : Stack) : Type 0 where
  pub outside : Outside (walk_at l) (values_at l) work work'
  pub pending : (d : ℕ) → Pending work words l st memo p stack d → Pending work' words l st memo p' stack' d
  pub left : (x y d : ℕ) → Pending work words l st memo p stack d → Known (values_in work l memo) x → Right x y d (values_in work l memo) (nodes words st)
      → (replace (suc d) x y (queue work' p' stack') (nodes words st)).store ≡ (replace (suc d) x y (queue work p stack) (nodes words st)).store

-- down to one whose arguments all have values
pub record Descends (work work' words : List ℕ) (l : Places) (st : Store) (memo : Memo) (p : ℕ) (stack : Stack) (r : Reached) : Type 0 where
  pub down : Descending work work' words l st memo p r.pattern stack r.under
  pub ripe : AllKnown (values_in work l memo) (args_in words st r.pattern)

-- ---- laws
-- what is on the stack leaves the values
pub values_same : (work work' : List ℕ) (l : Places) (memo : Memo) → Laid work l → Outside (walk_at l) (values_at l) work work' → (q : ℕ) → values_in work' l memo q ≡ values_in work l memo q
values_same work work' l memo L O = recall-before (walk_at l) (values_at l) work work' O (replaced_at l) (stamp_at l) (omega arith) (omega arith) (omega (arith, L.within)) memo

-- and the patterns
pub readable_on : (work work' words : List ℕ) (l : Places) (st : Store) → Readable work words l st → Outside (walk_at l) (values_at l) work work' → Readable work' words l st
readable_on work work' words l st R O = record {
  laid = laid_on l work work' R.laid O.long;
  room_is = R.room_is;
  stored = rw (lent-before (walk_at l) (values_at l) work work' O l.index (index_end l) (omega arith) (omega (arith, R.laid.index)) (omega (arith, R.laid.index, R.laid.within))) R.stored;
}

module _ (work words : List ℕ) (l : Places) (st : Store) (memo : Memo) (p : ℕ) (stack : Stack) (d : ℕ) (P : Pending work words l st memo p stack d) where
  -- how many wait
  pub pending_few : p + stack.len < suc d
  pending_few = omega (arith, waits_few _ d 0 (queue work p stack) P.waits, waits_few _ d (suc p) (stacked stack.at stack.len work) P.waits.2, length-stacked stack.at stack.len work)

  -- the first is there
  pub pending-at : At work words l st p
  pending-at =
      let h = P.rests.earlier p (omega (arith, pending_few)) in
      record {
        readable = P.readable;
        inside = omega (arith, pending_few, P.rests.long);
        args = below_more p l.room (args_in words st p) (omega (arith, pending_few, P.rests.long, nodes-room work words l st P.readable)) h;
      }

  -- there is room on the stack
  pub pending-room : stack.at + stack.len < values_at l
  pending-room = omega (arith, pending_few, P.rests.long, nodes-room work words l st P.readable, P.base)

  -- an argument is less
  pub open_less : (a : ℕ) → FirstOpen (values_in work l memo) (args_in words st p) a → a < p
  open_less a F = let h = below_at p (args_in words st p) F.at (P.rests.earlier p (omega (arith, pending_few))) F.inside in omega (arith, F.is_it)

-- nothing was done yet
pub descending_none : (work words : List ℕ) (l : Places) (st : Store) (memo : Memo) (p : ℕ) (stack : Stack) → Descending work work words l st memo p p stack stack
descending_none work words l st memo p stack = record { outside = outside_none (walk_at l) (values_at l) work; pending = λ d P. P; left = λ x y d P k r. refl }

-- one argument further down
module _ (work work₁ words : List ℕ) (l : Places) (st : Store) (memo : Memo) (p p₁ : ℕ) (stack stack₁ : Stack) (W : Waiting work words l st memo p stack) (D : Descending work work₁ words l st memo p p₁ stack stack₁)
    (a : ℕ) (F : FirstOpen (values_in work₁ l memo) (args_in words st p₁) a) (work₂ : List ℕ) (stack₂ : Stack) (same : stack₂.at ≡ stack₁.at)
    (on : stacked stack₂.at stack₂.len work₂ ≡ queue work₁ p₁ stack₁) (is_set : work₂ ≡ set work₁ (stack₁.at + stack₁.len) p₁) where
  -- the words outside the stack
  more_outside : Outside (walk_at l) (values_at l) work₁ work₂
  more_outside =
      let P = D.pending W.0 W.1 in
      rw is_set (outside_set (walk_at l) (values_at l) work₁ (stack₁.at + stack₁.len) p₁ (omega (arith, P.base)) (pending-room work₁ words l st memo p₁ stack₁ W.0 P))

  -- the argument waits on top
  more-pending : (d : ℕ) → Pending work₁ words l st memo p₁ stack₁ d → Pending work₂ words l st memo a stack₂ d
  more-pending d P =
      let f = values_same work₁ work₂ l memo P.readable.laid more_outside in
      record {
        readable = readable_on work₁ work₂ words l st P.readable more_outside;
        rests = P.rests;
        base = same ∙ P.base;
        waits = (
          omega arith,
          f a ∙ F.open_yet,
          subst (λ (ps : List ℕ). Waits (values_in work₂ l memo) d (suc a) ps) (sym on)
              (waits_same (values_in work₁ l memo) (values_in work₂ l memo) d (suc a) (queue work₁ p₁ stack₁) (λ q _. f q) (open_less work₁ words l st memo p₁ stack₁ d P a F, P.waits.1, P.waits.2)),
        );
      }

  -- all the way from the start
  pub descending_more : Descending work work₂ words l st memo p a stack stack₂
  descending_more = record {
    outside = outside_then (walk_at l) (values_at l) work work₁ work₂ D.outside more_outside;
    pending = λ d P. more-pending d (D.pending d P);
    left = λ x y d P k r.
        let P₁ = D.pending d P in
        let f = values_same work work₁ l memo P.readable.laid D.outside in
        let n : p₁ ≡ x → ⊥ = λ e. never (let z : none ≡ some k.0 = sym P₁.waits.1 ∙ ap (values_in work₁ l memo) e ∙ f x ∙ k.1 in cc) in
        ap (λ (ps : List ℕ). (replace (suc d) x y (a ∷ ps) (nodes words st)).store) on
        ∙ argument_first x y d (values_in work₁ l memo) p₁ a (stacked stack₁.at stack₁.len work₁) (nodes words st) P.rests (right-same x y d (values_in work l memo) (values_in work₁ l memo) (nodes words st) f r) (omega (arith, pending_few work₁ words l st memo p₁ stack₁ d P₁)) n F
        ∙ D.left x y d P k r;
  }

-- all arguments have values, at the start too
pub ripe_before : (work work₁ : List ℕ) (l : Places) (memo : Memo) → Laid work l → Outside (walk_at l) (values_at l) work work₁ → (ps : List ℕ) → AllKnown (values_in work₁ l memo) ps → AllKnown (values_in work l memo) ps
ripe_before work work₁ l memo L O ps k i h = let z = k i h in (z.0, sym (values_same work work₁ l memo L O (get_or ps i 0)) ∙ z.1)
