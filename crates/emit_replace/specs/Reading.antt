-- What is read of patterns in a walk, and the values that they have in its memo.
use Rattle.std.specs.Option.{is_some, unwrap_or}
use Rattle.std.specs.Prelude.{Option as Optional, Some, None}
use Rattle.std.specs.Prelude.{◌≡◌, refl, true, false, List, [], ℕ, ◌/◌, ◌≤◌, ◌<◌, length, get_or, set}
use Rattle.std.proofs.Common.{ap, ◌∙◌, arith, get_or-set_same, eq-eqb, ne_eqb}
use Rattle.std.proofs.Math.Option.{Option, none, some}
use Rattle.definition.specs.Pack.{Node}
use Rattle.definition.specs.Good.{Below}
use Rattle.definition.specs.Store.{variable_head, is_variable, below}
use Rattle.definition.specs.Test.{is, see, never}
use Rattle.definition.proofs.Laws.Grow.{below_at}
use Rattle.theory.specs.Copies.Terms.{below-variable, below-applied}
use Rattle.base.specs.Outside.{Outside, outside_then, outside_wider, outside_set}
use Rattle.memo.specs.Recall.{known, recall, Remembers, length-recall}
use Rattle.memo.specs.Lent.{recall_at, lent_long, lent-before, recall-before, Puts, Clears}
use Rattle.memo.specs.declared.memo.Memo.{Memo}
use Rattle.store.specs.Stored.{Stored, nodes}
use Rattle.store.specs.declared.nodes.Store.{Store}
use Rattle.emit_state.specs.Places.{replaced_at, stamp_at, walk_at, index_in, replaced_in, Laid}
use Rattle.emit_state.specs.declared.places.Places.{Places}
use Rattle.emit_replace.specs.Again.{under}
use Rattle.emit_replace.specs.Known.{valued}

-- the patterns below a pattern
abbrev pub args_in : List ℕ → Store → ℕ → List ℕ
args_in words st p = under (nodes words st) p

-- what patterns have for a value
abbrev pub values_in : List ℕ → Places → Memo → ℕ → Option ℕ
values_in work l memo = recall_at (replaced_at l) (stamp_at l) work memo

-- the patterns can be read
pub record Readable (work words : List ℕ) (l : Places) (st : Store) : Type 0 where
  pub laid : Laid work l
  pub room_is : l.room ≡ length words / 2
  pub stored : Stored (index_in work l) words st

-- pattern p is there, and those below it have room for values
pub record At (work words : List ℕ) (l : Places) (st : Store) (p : ℕ) : Type 0 where
  pub readable : Readable work words l st
  pub inside : p < length (nodes words st)
  pub args : Below l.room (args_in words st p)

-- x has the value v, and nothing else has one
pub record Begun (work work' : List ℕ) (l : Places) (x v : ℕ) (memo : Memo) : Type 0 where
  pub outside : Outside (replaced_at l) (walk_at l) work work'
  pub stamp : get_or work' (stamp_at l) 0 ≡ memo.stamp
  pub remembers : Remembers (replaced_in work' l) memo
  pub here : values_in work' l memo x ≡ some v
  pub others : (q : ℕ) → (x ≡ q → ⊥) → values_in work' l memo q ≡ none

-- ---- laws
-- each pattern has a word for its value
pub values-many : (work : List ℕ) (l : Places) (memo : Memo) → Laid work l → length (recall (replaced_in work l) memo) ≡ l.room
values-many work l memo L = omega (arith, length-recall (replaced_in work l) memo, lent_long (replaced_at l) (stamp_at l) work (omega arith) (omega (arith, L.within)))

-- there is room for all patterns
pub nodes-room : (work words : List ℕ) (l : Places) (st : Store) → Readable work words l st → length (nodes words st) ≤ l.room
nodes-room work words l st R = omega (arith, R.stored.ranged.half, R.stored.ranged.most, R.room_is)

-- each argument has a word for its value
pub args-room : (work words : List ℕ) (l : Places) (st : Store) (p : ℕ) → At work words l st p → (i : ℕ) → i < length (args_in words st p) → get_or (args_in words st p) i 0 < l.room
args-room work words l st p A i h = below_at l.room (args_in words st p) i A.args h

-- below a variable there is nothing
pub none_below : (n : Node) → n.head ≡ variable_head → below n ≡ []
unfolding is_variable
none_below n e = below-variable n (eq-eqb n.head variable_head e)

-- below another pattern there are its arguments
pub all-below : (n : Node) → (n.head ≡ variable_head → ⊥) → below n ≡ n.args
unfolding is_variable
all-below n e = below-applied n (ne_eqb n.head variable_head e)

-- so too where there is something
pub some_below : (n : Node) (i : ℕ) → i < length (below n) → below n ≡ n.args
some_below n i h = elim (see (is_variable n)) [
  | is true v ↦ absurd (omega (arith, ap length (below-variable n v)))
  | is false v ↦ below-applied n v
]

-- the memo is cleared, its stamp written, and one value put
module _ (work work₁ : List ℕ) (l : Places) (memo : Memo) (L : Laid work l) (C : Clears work work₁ (replaced_at l) (stamp_at l) memo) where
  -- with its stamp
  abbrev stamped : List ℕ
  stamped = set work₁ (stamp_at l) memo.stamp

  -- only its word was written
  stamped_outside : Outside (stamp_at l) (walk_at l) work₁ stamped
  stamped_outside = outside_set (stamp_at l) (walk_at l) work₁ (stamp_at l) memo.stamp (omega arith) (omega arith)

  -- all stands where it stood
  pub stamped_laid : Laid stamped l
  stamped_laid = record { tables = L.tables; index = L.index; within = omega (arith, L.within, C.outside.long, stamped_outside.long); small = omega (arith, L.small, C.outside.long, stamped_outside.long) }

  -- the values are still none
  stamped-same : replaced_in stamped l ≡ replaced_in work₁ l
  stamped-same = lent-before (stamp_at l) (walk_at l) work₁ stamped stamped_outside (replaced_at l) (stamp_at l) (omega arith) (omega arith) (omega (arith, L.within, C.outside.long))

  -- the memo is a memo still
  pub stamped_remembers : Remembers (replaced_in stamped l) memo
  stamped_remembers = rw stamped-same C.remembers

  -- x has the one value
  pub begun : (work₂ : List ℕ) (x v : ℕ) → Puts stamped work₂ (replaced_at l) (stamp_at l) memo x v → Begun work work₂ l x v memo
  begun work₂ x v P = record {
    outside =
        outside_then (replaced_at l) (walk_at l) work stamped work₂
        (outside_then (replaced_at l) (walk_at l) work work₁ stamped (outside_wider (replaced_at l) (stamp_at l) (replaced_at l) (walk_at l) work work₁ (omega arith) (omega arith) C.outside) (outside_wider (stamp_at l) (walk_at l) (replaced_at l) (walk_at l) work₁ stamped (omega arith) (omega arith) stamped_outside))
        (outside_wider (replaced_at l) (stamp_at l) (replaced_at l) (walk_at l) stamped work₂ (omega arith) (omega arith) P.outside);
    stamp = P.outside.behind (stamp_at l) (omega arith) ∙ get_or-set_same work₁ (stamp_at l) memo.stamp 0 (omega (arith, L.within, C.outside.long));
    remembers = P.remembers;
    here = P.here;
    others = λ q n. P.others q n ∙ recall-before (stamp_at l) (walk_at l) work₁ stamped stamped_outside (replaced_at l) (stamp_at l) (omega arith) (omega arith) (omega (arith, L.within, C.outside.long)) memo q ∙ C.empty q;
  }

-- ---- what was asked for
-- a value that is there
pub some_known : (r : Optional ℕ) → is_some r ≡ true → (v : ℕ) × (known r ≡ some v)
some_known (Some v) h = (v, refl)
some_known None h = never (cc)

-- or isn't
pub none_known : (r : Optional ℕ) → is_some r ≡ false → known r ≡ none
none_known (Some v) h = never (cc)
none_known None h = refl

-- the value, or 0
pub known_or : (r : Optional ℕ) → unwrap_or r 0 ≡ valued (known r)
unfolding valued
known_or (Some v) = refl
known_or None = refl
