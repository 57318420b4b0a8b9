-- A turn of replacing keeps what is left to be replaced.
use Rattle.std.specs.Prelude.{Some, None}
use Rattle.std.specs.Prelude.{◌≡◌, ℕ, suc, ◌+◌, ◌/◌, ◌≤◌, ◌<◌}
use Rattle.std.proofs.Common.{sym, subst, ◌∙◌, arith, length-append}
use Rattle.std.proofs.Math.Path.{ap}
use mathlib.Core.List.{List}
use Rattle.std.proofs.Math.ListN.{length}
use Rattle.definition.specs.Pack.{Node, most_arity}
use Rattle.definition.specs.Store.{Stored as StoredAt, below, pattern_words}
use Rattle.theory.specs.Patterns.Interned.{Grows, with, grows_long}
use Rattle.theory.specs.Walks.Again.{stored}
use Rattle.base.specs.Outside.{Outside}
use Rattle.base.specs.Stack.{stacked, Took}
use Rattle.base.specs.declared.id.Pattern.{Pattern}
use Rattle.base.specs.declared.stack.Stack.{Stack}
use Rattle.memo.specs.declared.memo.Memo.{Memo}
use Rattle.store.specs.Words.{words_append}
use Rattle.store.specs.Stored.{nodes}
use Rattle.store.specs.declared.nodes.Store.{Store}
use Rattle.emission.specs.Patterns.{replace}
use Rattle.emit_state.specs.Places.{walk_at, values_at, Laid, SameIn}
use Rattle.emit_state.specs.Frame.{laid_on}
use Rattle.emit_state.specs.Grown.{Apart}
use Rattle.emit_state.specs.declared.places.Places.{Places}
use Rattle.emit_replace.specs.Again.{rests_same, rests_grow, kind, itself, bare, applied, one, one-bare, one_grows, replace_grows}
use Rattle.emit_replace.specs.Known.{AllKnown, gaps}
use Rattle.emit_replace.specs.Right.{Right, right-same, right-more, one_known, left-more}
use Rattle.emit_replace.specs.Reading.{args_in, values_in, Readable}
use Rattle.emit_replace.specs.Walking.{Descending, values_same, pending-at}
use Rattle.emit_replace.specs.Turning.{remembers_on, known_on, pending_apart, pending-below, stack_inside, fewer_gaps, pending_next, pending-last}
use Rattle.emit_replace.specs.Making.{Made, NoRoom, Finishable, FinishedAs}
use Rattle.emit_replace.specs.Putting.{Task, Going, Came}

-- more patterns take more words
pub words-longer : (s t : List Node) → Grows s t → length (pattern_words s) ≤ length (pattern_words t)
words-longer s t (with more e) = let a = ap length (ap pattern_words e ∙ words_append s more) in let b = length-append (pattern_words s) (pattern_words more) in omega arith

-- the walk's stack is among what may be written
pub apart_walk : (l : Places) (work work' : List ℕ) → Laid work l → Outside (walk_at l) (values_at l) work work' → Apart l work work'
apart_walk l work work' L O = record { long = O.long; ahead = λ i a h. O.ahead i (omega (arith, L.index)); between = λ i a h. O.ahead i (omega arith); behind = λ i a h. O.behind i a }

-- down to another pattern the same is left
pub going_down : (work work₁ words : List ℕ) (l : Places) (st : Store) (memo : Memo) (p q : ℕ) (stack under' : Stack) → Descending work work₁ words l st memo p q stack under' → (t : Task)
    → Going work words l st memo p stack t → Going work₁ words l st memo q under' t
going_down work work₁ words l st memo p q stack under' D t G =
    let L = G.pending.readable.laid in
    record {
      pending = D.pending t.d G.pending;
      remembers = remembers_on work work₁ l memo L D.outside G.remembers;
      few = G.few;
      begun = known_on work work₁ l memo L D.outside t.x G.begun;
      right = right-same t.x t.y t.d (values_in work l memo) (values_in work₁ l memo) (nodes words st) (values_same work work₁ l memo L D.outside) G.right;
      left = D.left t.x t.y t.d G.pending G.begun G.right ∙ G.left;
    }

-- a pattern whose arguments all have values
module _ (work words : List ℕ) (l : Places) (st : Store) (memo : Memo) (q : ℕ) (stack : Stack) (t : Task) (G : Going work words l st memo q stack t) (K : AllKnown (values_in work l memo) (args_in words st q)) where
  -- what is made of it is what it is replaced by
  one-made : (v : ℕ) (s' : List Node) → Made (values_in work l memo) (nodes words st) q v s' → one t.x t.y t.d q (nodes words st) ≡ stored v s'
  one-made v s' M =
      let n = pending_apart work words l st memo q stack t.d G.pending t.x G.begun in
      elim (kind t.x q (args_in words st q)) [
        | itself e ↦ absurd (n e)
        | bare _ e ↦ one-bare t.x t.y t.d q (nodes words st) n e ∙ M.bare e
        | applied _ h ↦ one_known t.x t.y t.d (values_in work l memo) q (nodes words st) G.pending.rests G.right (pending-below work words l st memo q stack t.d G.pending) n h K ∙ M.applied h
      ]

  -- if there is no room for it there is none for the whole
  pub short_whole : NoRoom work words l st memo q → length words < length (pattern_words t.final)
  unfolding replace
  short_whole N =
      let n = pending_apart work words l st memo q stack t.d G.pending t.x G.begun in
      let e = one_known t.x t.y t.d (values_in work l memo) q (nodes words st) G.pending.rests G.right (pending-below work words l st memo q stack t.d G.pending) n N.applied K in
      let s' = (one t.x t.y t.d q (nodes words st)).store in
      let g = words-longer s' t.final (subst (Grows s') G.left (replace_grows t.x t.y (suc t.d) (stacked stack.at stack.len work) s')) in
      omega (arith, N.short, g, ap (λ (r : StoredAt). length (pattern_words r.store)) e)

  -- it can be made
  pub going_finishable : Finishable work words l st memo q
  going_finishable = record { there = pending-at work words l st memo q stack t.d G.pending; few = G.few q (pending-below work words l st memo q stack t.d G.pending); remembers = G.remembers }

  module _ (work' words' : List ℕ) (v : Pattern) (st' : Store) (F : FinishedAs work words work' words' l st memo q v st') (long : length words' ≡ length words) where
    -- the stores
    abbrev s : List Node
    s = nodes words st

    -- with what was made
    abbrev s' : List Node
    s' = nodes words' st'

    -- it is replaced by what was made
    made : one t.x t.y t.d q s ≡ stored v.0 s'
    made = one-made v.0 s' F.made

    -- the store has grown
    grows : Grows s s'
    grows = subst (λ (r : StoredAt). Grows s r.store) made (one_grows t.x t.y t.d q s)

    -- no pattern is left out
    pub finished_grown : st.len ≤ st'.len
    finished_grown = omega (arith, grows_long s s' grows, G.pending.readable.stored.placed.len, F.stored_on.placed.len)

    -- the stack stays
    same : SameIn (walk_at l) (length work) work work'
    same i a h = F.stack i (omega arith) h

    -- it ends within the words
    pub finished_stack : stack.at + stack.len ≤ length work'
    finished_stack = stack_inside work words l st memo q stack t.d G.pending work' F.apart.long same

    -- one value more
    pub finished_less : gaps (values_in work' l memo) l.room < gaps (values_in work l memo) l.room
    finished_less = fewer_gaps work words l st memo q stack t.d G.pending work' F.apart.long same F.others v.0 F.here

    -- all values are right
    right : Right t.x t.y t.d (values_in work' l memo) s'
    right = right-more t.x t.y t.d (values_in work l memo) (values_in work' l memo) s s' q v.0 G.pending.rests G.right (pending-below work words l st memo q stack t.d G.pending) made F.here F.others

    -- the rest is left
    left : (replace (suc t.d) t.x t.y (stacked stack.at stack.len work) s').store ≡ t.final
    left = left-more t.x t.y t.d q v.0 (stacked stack.at stack.len work) s s' made ∙ G.left

    -- the next is to be replaced
    pub going_next : (next : ℕ) (rest : Stack) → Took (stacked stack.at stack.len work') stack.at work' (Some (next, rest)) → Going work' words' l st' memo next rest t
    going_next next rest T =
        let R : Readable work' words' l st' = record { laid = laid_on l work work' G.pending.readable.laid F.apart.long; room_is = G.pending.readable.room_is ∙ ap (λ (n : ℕ). n / 2) (sym long); stored = F.stored_on } in
        let N = pending_next work words l st memo q stack t.d G.pending work' F.apart.long same F.others words' st' R (rests_grow (suc t.d) s s' G.pending.rests grows) next rest T in
        record {
          pending = N.0;
          remembers = F.remembers;
          few = λ i h. subst (λ (n : Node). length (below n) ≤ most_arity) (sym (rests_same (suc t.d) i s s' G.pending.rests grows h)) (G.few i h);
          begun = (G.begun.0, F.others t.x (pending_apart work words l st memo q stack t.d G.pending t.x G.begun) ∙ G.begun.1);
          right = right;
          left = ap (λ (ps : List ℕ). (replace (suc t.d) t.x t.y ps s').store) (sym N.1) ∙ left;
        }

    -- or nothing is left
    pub going_done : Took (stacked stack.at stack.len work') stack.at work' None → Came work' words' l st' memo v.0 t
    unfolding replace
    going_done T =
        let N = pending-last work words l st memo q stack t.d G.pending work' F.apart.long same F.others T in
        record {
          stored_on = F.stored_on;
          remembers = F.remembers;
          nodes_are = ap (λ (ps : List ℕ). (replace (suc t.d) t.x t.y ps s').store) (sym N.1) ∙ left;
          value = ap (λ (n : ℕ). one t.x t.y t.d n s') (sym N.0) ∙ (right q v.0 F.here).0;
        }
