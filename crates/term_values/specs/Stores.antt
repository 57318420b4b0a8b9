-- What the functions on single words promise: a value is read or put down, a pair is put down, a root is found, all values are taken away.
use Rattle.std.specs.Prelude.{Option as Optional, Some, None}
use Rattle.std.specs.Prelude.{◌≡◌, refl, false, List, [], ℕ, ◌+◌, ◌*◌, ◌-◌, ◌≤◌, ◌<◌, length, get_or, set, take, drop, replicate}
use Rattle.std.proofs.Common.{sym, ap, ◌∙◌, arith}
use Rattle.std.proofs.Math.Option.{Option, none, some}
use Rattle.definition.specs.Verdict.{Bound, value_of}
use Rattle.definition.specs.Graph.{Graph, circular}
use Rattle.base.specs.Word.{word_of}
use Rattle.term_values.specs.Words.{values_end, values_at, table_in, Stands, stands_none, Placed, Framed, table_at, table-set, table_long, table-back, framed_back, framed_set}
use Rattle.base.specs.Outside.{outside_then}
use Rattle.base.specs.Part.{put}
use Rattle.buffer.specs.Zero.{zeros_long, zeros_there, zeros-before, zeros-behind}
use Rattle.theory.specs.Unification.Inner.{Inner}
use Rattle.graph.specs.declared.graph.Graph.{Graph as Counts}
use Rattle.graph.specs.Cells.{rows_end, Laid, nodes_few, Shows, SameRows}
use Rattle.graph.specs.Links.{Found}
use Rattle.term_values.specs.declared.values.Valued.{Valued}
use Rattle.base.specs.declared.id.Ground.{Ground}

-- ---- a value is read
abbrev pub known_as : Optional Ground → Option ℕ
known_as (Some n) = some n.0
known_as None = none

-- it is that of x in whatever values the table holds
abbrev pub ValueIs : List ℕ → List ℕ → ℕ → Optional Ground → Type 0
ValueIs words table x r = (s : Counts) (h : Graph) (vs : List Bound) → Stands words table s h vs → x < s.nodes → value_of x vs ≡ known_as r

-- a word tells a value
word_none : (o : Option ℕ) → word_of o ≡ 0 → o ≡ none
word_none none e = refl
word_none (some n) e = absurd (omega (arith, e))

-- another is a ground node's
word_some : (o : Option ℕ) (w : ℕ) → word_of o ≡ w → (w ≡ 0 → ⊥) → o ≡ some (w - 1)
word_some none w e d = absurd (d (sym e))
word_some (some n) w e d = let q : n ≡ w - 1 = omega (arith, e) in ap some q

module _ (words work : List ℕ) (l : Valued) (F : Placed words work l) (x : ℕ) (h : x < length words) where
  -- where it stands
  word_at : l.at + values_at words + x ≡ l.at + (values_at words + x)
  word_at = omega arith

  -- the word
  word_is : get_or (table_in l work) (values_at words + x) 0 ≡ get_or work (l.at + values_at words + x) 0
  word_is = table_at l work (values_at words + x) (omega (arith, F.room)) ∙ ap (λ (i : ℕ). get_or work i 0) (sym word_at)

  -- it tells that there is none
  pub value_none : get_or work (l.at + values_at words + x) 0 ≡ 0 → ValueIs words (table_in l work) x None
  value_none e s g vs S m = word_none (value_of x vs) (sym (S.values x m) ∙ word_is ∙ e)

  -- it tells which
  pub value_some : (get_or work (l.at + values_at words + x) 0 ≡ 0 → ⊥) → (s : Counts) (g : Graph) (vs : List Bound) → Stands words (table_in l work) s g vs → x < s.nodes → value_of x vs ≡ some (get_or work (l.at + values_at words + x) 0 - 1)
  value_some d s g vs S m = word_some (value_of x vs) (get_or work (l.at + values_at words + x) 0) (sym (S.values x m) ∙ word_is) d

-- ---- a value is put down
abbrev pub PutsValue : List ℕ → List ℕ → List ℕ → Valued → ℕ → ℕ → Type 0
PutsValue words work work' l x n = (table_in l work' ≡ set (table_in l work) (values_at words + x) (n + 1)) × Framed words l work work'

-- a store does that
pub puts_value : (words work : List ℕ) (l : Valued) → Placed words work l → (x n : ℕ) → x < length words → PutsValue words work (set work (l.at + values_at words + x) (n + 1)) l x n
puts_value words work l F x n h =
    let e : l.at + (values_at words + x) ≡ l.at + values_at words + x = omega arith in
    rw (← e) (table-set l work (values_at words + x) (n + 1) (omega (arith, F.room)), framed_set words l work (values_at words + x) (n + 1) (omega arith))

-- ---- a pair is put down
abbrev pub PutsPair : List ℕ → List ℕ → List ℕ → Valued → ℕ → ℕ → ℕ → Type 0
PutsPair words work work' l top x n = (table_in l work' ≡ set (set (table_in l work) (rows_end words + 2 * top) x) (rows_end words + 2 * top + 1) n) × Framed words l work work'

-- two stores do that
pub puts_pair : (words work : List ℕ) (l : Valued) → Placed words work l → (top x n : ℕ) → top ≤ length words
    → PutsPair words work (set (set work (l.at + rows_end words + 2 * top) x) (l.at + rows_end words + 2 * top + 1) n) l top x n
puts_pair words work l F top x n h =
    let i : ℕ = rows_end words + 2 * top in
    let e : l.at + i ≡ l.at + rows_end words + 2 * top = omega arith in
    let f : l.at + (i + 1) ≡ l.at + rows_end words + 2 * top + 1 = omega arith in
    let first : List ℕ = set work (l.at + i) x in
    rw (← f, ← e) (
      table-set l first (i + 1) n (omega (arith, F.room)) ∙ ap (λ (t : List ℕ). set t (i + 1) n) (table-set l work i x (omega (arith, F.room))),
      outside_then l.at (l.at + values_end words) work first (set first (l.at + (i + 1)) n) (framed_set words l work i x (omega arith)) (framed_set words l first (i + 1) n (omega arith)),
    )

-- ---- a root is found
abbrev pub FindsRoot : List ℕ → List ℕ → List ℕ → Valued → Counts → ℕ → ℕ → Type 0
FindsRoot words work work' l s x r = Found words (table_in l work) (table_in l work') s x r × Framed words l work work'

-- `find` over the table does that
pub finds_root : (words work : List ℕ) (l : Valued) → Placed words work l → (s : Counts) (x r : ℕ) (table' : List ℕ) → Found words (table_in l work) table' s x r → FindsRoot words work (put l.at (l.end - l.at) table' work) l s x r
finds_root words work l F s x r table' A = (rw (table-back words work l F table' A.3) A, framed_back words work l F table' A.3)

-- ---- all values are taken away
abbrev pub Clears : List ℕ → List ℕ → List ℕ → Valued → Counts → Type 0
Clears words work work' l s = ((h : Graph) → Shows words (table_in l work) s h → Inner h → circular h ≡ false → Stands words (table_in l work') s h []) × Framed words l work work'

module _ (words work : List ℕ) (l : Valued) (F : Placed words work l) (s : Counts) (L : Laid words (table_in l work) s) where
  -- a word for each node has room
  pub clear_few : s.nodes ≤ length words
  clear_few = omega (arith, nodes_few words (table_in l work) s L, L.fits)

  -- zeros do that
  pub clears : (zs : List ℕ) → zs ≡ replicate (length (take (l.at + values_at words + s.nodes - (l.at + values_at words)) (drop (l.at + values_at words) work))) 0
      → Clears words work (put (l.at + values_at words) (l.at + values_at words + s.nodes - (l.at + values_at words)) zs work) l s
  clears zs z =
      let a : ℕ = l.at + values_at words in
      let e : ℕ = l.at + values_at words + s.nodes in
      let room : e ≤ length work = omega (arith, F.room, F.fits, clear_few) in
      let next : List ℕ = put a (e - a) zs work in
      let long = zeros_long a e s.nodes work zs refl room z in
      let placed : Placed words next l = record { room = F.room; fits = omega (arith, F.fits, long) } in
      let same : SameRows words (table_in l work) (table_in l next) = record {
        long = table_long words next l placed ∙ sym (table_long words work l F);
        rows = λ i h.
            table_at l next i (omega (arith, F.room)) ∙ zeros-before a e s.nodes work zs refl room z (l.at + i) (omega arith)
            ∙ sym (table_at l work i (omega (arith, F.room)));
      } in
      let zero-there : (r : ℕ) → r < s.nodes → get_or (table_in l next) (values_at words + r) 0 ≡ 0 =
      λ r h.
      let k : l.at + (values_at words + r) ≡ a + r = omega arith in
      table_at l next (values_at words + r) (omega (arith, F.room, clear_few)) ∙ ap (λ (i : ℕ). get_or next i 0) k ∙ zeros_there a e s.nodes work zs refl room z r h in (
        (λ h S I A. stands_none words (table_in l work) (table_in l next) s h S I A same zero-there),
        record { long = long; ahead = λ i h. zeros-before a e s.nodes work zs refl room z i (omega arith); behind = λ i h. zeros-behind a e s.nodes work zs refl room z i (omega (arith, clear_few)) },
      )
