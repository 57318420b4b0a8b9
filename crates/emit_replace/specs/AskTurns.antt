-- A turn of asking keeps what is asked.
use Rattle.std.specs.Prelude.{Some, None}
use Rattle.std.specs.Prelude.{◌≡◌, refl, List, [], ◌∷◌, ℕ, suc, ◌+◌, ◌≤◌, ◌<◌, length, get_or}
use Rattle.std.proofs.Common.{sym, ap, subst, ◌∙◌, arith}
use Rattle.std.proofs.Math.Option.{some}
use Rattle.base.specs.Outside.{outside_none, outside_then, outside_wider}
use Rattle.base.specs.Stack.{stacked, Took}
use Rattle.base.specs.declared.stack.Stack.{Stack}
use Rattle.memo.specs.Lent.{lent-before, Puts}
use Rattle.memo.specs.Recall.{Remembers}
use Rattle.memo.specs.declared.memo.Memo.{Memo}
use Rattle.store.specs.Stored.{nodes}
use Rattle.store.specs.declared.nodes.Store.{Store}
use Rattle.emission.specs.Patterns.{mentions}
use Rattle.emit_state.specs.Places.{replaced_at, stamp_at, walk_at, values_at, index_end, replaced_in, Laid, SameIn}
use Rattle.emit_state.specs.Frame.{laid_on}
use Rattle.emit_state.specs.declared.places.Places.{Places}
use Rattle.emit_replace.specs.Known.{gaps, gaps-same}
use Rattle.emit_replace.specs.Mentions.{bit, any_one, Says, says_more}
use Rattle.emit_replace.specs.Reading.{args_in, values_in, Readable, At}
use Rattle.emit_replace.specs.Walking.{Descending, Descends, values_same, pending-at}
use Rattle.emit_replace.specs.Turning.{remembers_on, known_on, pending_apart, pending-below, pending-valued, stack_inside, fewer_gaps, pending_next, pending-last}
use Rattle.emit_replace.specs.Asking.{alone, Kept, Asking, Asked, Answered, AsksOn, Mentioned}
use Rattle.emit_replace.specs.declared.walk.Reached.{Reached}
use Rattle.emit_replace.specs.declared.mentions.Told.TheVariants.{On, Done}

-- down to another pattern the same is asked
asking_down : (work work₁ words : List ℕ) (l : Places) (st : Store) (memo : Memo) (p q : ℕ) (stack under : Stack) → Descending work work₁ words l st memo p q stack under → (x d : ℕ)
    → Asking work words l st memo p stack x d → Asking work₁ words l st memo q under x d
asking_down work work₁ words l st memo p q stack under D x d A =
    let L = A.pending.readable.laid in
    record {
      pending = D.pending d A.pending;
      remembers = remembers_on work work₁ l memo L D.outside A.remembers;
      begun = known_on work work₁ l memo L D.outside x A.begun;
      says = λ r v h. A.says r v (sym (values_same work work₁ l memo L D.outside r) ∙ h);
    }

module _ (work work₁ words : List ℕ) (l : Places) (st : Store) (memo : Memo) (p : ℕ) (stack : Stack) (A : Asked work words l st memo p stack) (r : Reached) (D : Descends work work₁ words l st memo p stack r) where
  -- the pattern come to
  abbrev q : ℕ
  q = r.pattern

  -- the same is asked there
  down : Asking work₁ words l st memo q r.under A.0 A.1
  down = asking_down work work₁ words l st memo p q stack r.under D.down A.0 A.1 A.2

  -- it is there
  pub ask_at : At work₁ words l st q
  ask_at = pending-at work₁ words l st memo q r.under A.1 down.pending

  -- it can get a value
  pub ask_remembers : Laid work₁ l × Remembers (replaced_in work₁ l) memo × (q < l.room)
  ask_remembers = (down.pending.readable.laid, down.remembers, pending-valued work₁ words l st memo q r.under A.1 down.pending)

  module _ (mark : ℕ) (e : mark ≡ bit (any_one (values_in work₁ l memo) (args_in words st q))) (work₂ : List ℕ) (P : Puts work₁ work₂ (replaced_at l) (stamp_at l) memo q mark) where
    -- the stack stays
    same : SameIn (walk_at l) (length work₁) work₁ work₂
    same i a h = P.outside.behind i (omega arith)

    -- it ends within the words
    pub ask_stack : r.under.at + r.under.len ≤ length work₂
    ask_stack = stack_inside work₁ words l st memo q r.under A.1 down.pending work₂ P.outside.long same

    -- the patterns too
    readable : Readable work₂ words l st
    readable =
        let R = down.pending.readable in
        record {
          laid = laid_on l work₁ work₂ R.laid P.outside.long;
          room_is = R.room_is;
          stored = rw (lent-before (replaced_at l) (stamp_at l) work₁ work₂ P.outside l.index (index_end l) (omega arith) (omega (arith, R.laid.index)) (omega (arith, R.laid.index, R.laid.within))) R.stored;
        }

    -- nothing else was written
    kept : Kept l work work₂
    kept = record {
      outside =
          outside_then (replaced_at l) (values_at l) work work₁ work₂ (outside_wider (walk_at l) (values_at l) (replaced_at l) (values_at l) work work₁ (omega arith) (omega arith) D.down.outside)
          (outside_wider (replaced_at l) (stamp_at l) (replaced_at l) (values_at l) work₁ work₂ (omega arith) (omega arith) P.outside);
      stamp = P.outside.behind (stamp_at l) (omega arith) ∙ D.down.outside.ahead (stamp_at l) (omega arith);
    }

    -- one value more
    less : gaps (values_in work₂ l memo) l.room < gaps (values_in work l memo) l.room
    less =
        let f = values_same work work₁ l memo A.2.pending.readable.laid D.down.outside in
        let a = fewer_gaps work₁ words l st memo q r.under A.1 down.pending work₂ P.outside.long same P.others mark P.here in
        omega (arith, a, gaps_on f)
      where
        gaps_on : (f : (o : ℕ) → values_in work₁ l memo o ≡ values_in work l memo o) → gaps (values_in work₁ l memo) l.room ≡ gaps (values_in work l memo) l.room
        gaps_on f = gaps-same (values_in work l memo) (values_in work₁ l memo) l.room (λ o h. f o)

    module _ (x d : ℕ) (B : Asking work₁ words l st memo q r.under x d) where
      -- its value is right
      says : Says x (nodes words st) d (values_in work₂ l memo)
      says =
          let f = values_same work work₁ l memo A.2.pending.readable.laid D.down.outside in
          says_more x (nodes words st) d (values_in work₁ l memo) (values_in work₂ l memo) q B.pending.rests B.says (pending-below work₁ words l st memo q r.under d B.pending) (pending_apart work₁ words l st memo q r.under d B.pending x B.begun)
          (λ i h. let z = D.ripe i h in (z.0, f (get_or (args_in words st q) i 0) ∙ z.1)) (P.here ∙ ap some e) P.others

      -- the next is asked
      next-asked : (next : ℕ) (rest : Stack) → Took (stacked r.under.at r.under.len work₂) r.under.at work₂ (Some (next, rest)) → Asking work₂ words l st memo next rest x d
      next-asked next rest T =
          let N = pending_next work₁ words l st memo q r.under d B.pending work₂ P.outside.long same P.others words st readable B.pending.rests next rest T in
          record { pending = N.0; remembers = P.remembers; begun = (B.begun.0, P.others x (pending_apart work₁ words l st memo q r.under d B.pending x B.begun) ∙ B.begun.1); says = says }

      -- or all is answered
      last-answered : Took (stacked r.under.at r.under.len work₂) r.under.at work₂ None → Answered work₂ words l st memo x d mark
      last-answered T =
          let N = pending-last work₁ words l st memo q r.under d B.pending work₂ P.outside.long same P.others T in
          (says q mark P.here ∙ ap (λ (z : ℕ). bit (mentions (suc d) (nodes words st) x (z ∷ []))) N.0, P.remembers)

    -- the turn, with a next one
    pub asks_on : (next : ℕ) (rest : Stack) → Took (stacked r.under.at r.under.len work₂) r.under.at work₂ (Some (next, rest)) → AsksOn work work₂ words l st memo p stack (On next rest)
    asks_on next rest T = record { kept = kept; goes = λ x d B. next-asked x d (asking_down work work₁ words l st memo p q stack r.under D.down x d B) next rest T; less = less }

    -- without one
    pub asks_done : Took (stacked r.under.at r.under.len work₂) r.under.at work₂ None → AsksOn work work₂ words l st memo p stack (Done mark)
    asks_done T = record { kept = kept; goes = λ x d B. last-answered x d (asking_down work work₁ words l st memo p q stack r.under D.down x d B) T; less = less }

-- turns so far
pub record AsksSince (work work' words : List ℕ) (l : Places) (st : Store) (memo : Memo) (p p' : ℕ) (stack stack' : Stack) : Type 0 where
  pub kept : Kept l work work'
  pub goes : (x d : ℕ) → Asking work words l st memo p stack x d → Asking work' words l st memo p' stack' x d

-- none yet
pub since_none : (work words : List ℕ) (l : Places) (st : Store) (memo : Memo) (p : ℕ) (stack : Stack) → AsksSince work work words l st memo p p stack stack
since_none work words l st memo p stack = record { kept = record { outside = outside_none (replaced_at l) (values_at l) work; stamp = refl }; goes = λ x d A. A }

module _ (work work₁ words : List ℕ) (l : Places) (st : Store) (memo : Memo) (p p₁ : ℕ) (stack stack₁ : Stack) (S : AsksSince work work₁ words l st memo p p₁ stack stack₁) where
  -- what was written so far
  kept_more : (work₂ : List ℕ) → Kept l work₁ work₂ → Kept l work work₂
  kept_more work₂ K = record { outside = outside_then (replaced_at l) (values_at l) work work₁ work₂ S.kept.outside K.outside; stamp = K.stamp ∙ S.kept.stamp }

  -- it is still asked
  pub since_asked : stack ≡ alone l → Asked work words l st memo p (alone l) → Asked work₁ words l st memo p₁ stack₁
  since_asked e A = (A.0, A.1, S.goes A.0 A.1 (subst (λ (z : Stack). Asking work words l st memo p z A.0 A.1) (sym e) A.2))

  -- one more
  pub since_more : (work₂ : List ℕ) (p₂ : ℕ) (stack₂ : Stack) → AsksOn work₁ work₂ words l st memo p₁ stack₁ (On p₂ stack₂) → AsksSince work work₂ words l st memo p p₂ stack stack₂
  since_more work₂ p₂ stack₂ T = record { kept = kept_more work₂ T.kept; goes = λ x d A. T.goes x d (S.goes x d A) }

  -- the last
  pub since_done : (work₂ : List ℕ) (v : ℕ) → stack ≡ alone l → AsksOn work₁ work₂ words l st memo p₁ stack₁ (Done v) → Mentioned work work₂ words l st memo p v
  since_done work₂ v e T = record { kept = kept_more work₂ T.kept; says = λ x d A. T.goes x d (S.goes x d (subst (λ (z : Stack). Asking work words l st memo p z x d) (sym e) A)) }
