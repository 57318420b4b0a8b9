-- The words of the classes in work, and what is left of them by a store.
use Rattle.std.specs.Prelude.{◌≡◌, ℕ, ◌+◌, ◌*◌, ◌≤◌, ◌<◌, length, get_or}
use Rattle.std.proofs.Math.Path.{ap}
use Rattle.std.proofs.Common.{◌∙◌, arith}
use mathlib.Core.List.{List}
use Rattle.std.proofs.Math.ListN.{set, length-set}
use Rattle.std.proofs.Math.Seq.{get_or-set_same, get_or-set_other}
use Rattle.base.specs.Part.{part, part_at, length_part, part-set, part-set-before}
use Rattle.base.specs.Outside.{Outside, outside_then, outside_set}
use Rattle.base.specs.Upto.{Upto}
use Rattle.pack_tables.specs.Catalog.{records_of}
use Rattle.pack_tables.specs.declared.catalog.Catalog.{Catalog}
use Rattle.pack_read.specs.Held.{Held}
use Rattle.pack_reader.specs.Marks.{marks_at, Marks}
use Rattle.class_keys.specs.Firsts.{Placed, placed_on, placed-many}
use Rattle.class_keys.specs.declared.classes.Keying.{Keying}

-- the first step of class i
abbrev pub first_in : List ℕ → Keying → ℕ → ℕ
first_in work k i = get_or work (k.at + k.cap + i) 0

-- how many steps class i has
abbrev pub count_in : List ℕ → Keying → ℕ → ℕ
count_in work k i = get_or work (k.at + 2 * k.cap + i) 0

-- where the slots start
abbrev pub slots_at : Keying → ℕ
slots_at k = k.at + 3 * k.cap

-- where all words end
abbrev pub end_of : Keying → ℕ
end_of k = k.at + (6 * k.cap + 1)

-- the slots for n steps
unfoldable pub slots_in : List ℕ → Keying → ℕ → List ℕ
slots_in work k n = part (slots_at k) (3 * n + 1) work

-- the pack is held, with the marks of its cut predicates; behind them there is room for its nodes and steps, and the class buffer has
-- a word for each step
pub record Keyable (bytes work class : List ℕ) (c : Catalog) (k : Keying) : Type 0 where
  pub held : Held bytes work c
  pub marks : Marks bytes work c
  pub behind : marks_at c + c.cap ≤ k.at
  pub room : end_of k ≤ length work
  pub nodes : length (records_of work c 3) ≤ k.cap
  pub steps : length (records_of work c 4) ≤ k.cap
  pub words : length (records_of work c 4) ≤ length class

-- as the first steps ask for
abbrev pub placed : (bytes work class : List ℕ) (c : Catalog) (k : Keying) → Keyable bytes work class c k → Placed bytes work c k.at
placed bytes work class c k K = record { held = K.held; marks = K.marks; behind = K.behind; room = omega (arith, K.room, K.nodes) }

-- words from `at` on, and of the class buffer, may change
pub keyable_on : (bytes work class work' class' : List ℕ) (c : Catalog) (k : Keying) → Keyable bytes work class c k → Upto k.at work work' → length class' ≡ length class → Keyable bytes work' class' c k
keyable_on bytes work class work' class' c k K U l =
    let p = placed bytes work class c k K in
    let q = placed_on bytes work work' c k.at p U in
    let n = placed-many bytes work work' c k.at p U in
    record {
      held = q.held;
      marks = q.marks;
      behind = K.behind;
      room = omega (arith, K.room, U.long);
      nodes = omega (arith, K.nodes, n 3 (omega arith));
      steps = omega (arith, K.steps, n 4 (omega arith));
      words = omega (arith, K.words, n 4 (omega arith));
    }

-- class i has one step more
unfoldable pub joined : List ℕ → Keying → ℕ → List ℕ
joined work k i = set work (k.at + 2 * k.cap + i) (count_in work k i + 1)

-- class m begins with step s, and slot t holds it
unfoldable pub begun : List ℕ → Keying → ℕ → ℕ → ℕ → List ℕ
begun work k m t s = set (set (set work (k.at + k.cap + m) s) (k.at + 2 * k.cap + m) 1) (k.at + 3 * k.cap + t) (m + 1)

-- a slot, by its word
pub slot_at : (work : List ℕ) (k : Keying) (n t : ℕ) → t < 3 * n + 1 → get_or (slots_in work k n) t 0 ≡ get_or work (slots_at k + t) 0
unfolding slots_in
slot_at work k n t h = part_at (slots_at k) (3 * n + 1) work t h

module _ (work : List ℕ) (k : Keying) (room : end_of k ≤ length work) (n : ℕ) (most : n ≤ k.cap) where
  -- there are so many slots
  pub length-slots : length (slots_in work k n) ≡ 3 * n + 1
  unfolding slots_in
  length-slots = length_part (slots_at k) (3 * n + 1) work (omega arith)

  -- ---- a class that has one step more
  module _ (i : ℕ) (h : i < n) where
    -- nothing outside the keys' words is written
    pub joined_outside : Outside k.at (end_of k) work (joined work k i)
    unfolding joined
    joined_outside = outside_set k.at (end_of k) work (k.at + 2 * k.cap + i) (count_in work k i + 1) (omega arith) (omega arith)

    -- the first steps of judgments stay
    pub joined_upto : Upto (k.at + k.cap) work (joined work k i)
    unfolding joined
    joined_upto = record { long = length-set work (k.at + 2 * k.cap + i) (count_in work k i + 1); words = λ j l. get_or-set_other work (k.at + 2 * k.cap + i) j (count_in work k i + 1) 0 (λ e. omega (arith, e)) }

    -- the classes' first steps stay
    pub joined-first : (j : ℕ) → j < n → first_in (joined work k i) k j ≡ first_in work k j
    unfolding joined
    joined-first j l = get_or-set_other work (k.at + 2 * k.cap + i) (k.at + k.cap + j) (count_in work k i + 1) 0 (λ e. omega (arith, e))

    -- its count
    pub joined_same : count_in (joined work k i) k i ≡ count_in work k i + 1
    unfolding joined
    joined_same = get_or-set_same work (k.at + 2 * k.cap + i) (count_in work k i + 1) 0 (omega arith)

    -- the counts of the others stay
    pub joined-other : (j : ℕ) → (j ≡ i → ⊥) → count_in (joined work k i) k j ≡ count_in work k j
    unfolding joined
    joined-other j d = get_or-set_other work (k.at + 2 * k.cap + i) (k.at + 2 * k.cap + j) (count_in work k i + 1) 0 (λ e. d (omega (arith, e)))

    -- the slots stay
    pub joined-slots : slots_in (joined work k i) k n ≡ slots_in work k n
    unfolding joined slots_in
    joined-slots = part-set-before (slots_at k) (3 * n + 1) work (k.at + 2 * k.cap + i) (count_in work k i + 1) (omega arith)

  -- ---- a class that begins
  module _ (m t s : ℕ) (h : m < n) (l : t < 3 * n + 1) where
    -- with its first step
    abbrev one : List ℕ
    one = set work (k.at + k.cap + m) s

    -- and its count
    abbrev two : List ℕ
    two = set one (k.at + 2 * k.cap + m) 1

    -- nothing outside the keys' words is written
    pub begun_outside : Outside k.at (end_of k) work (begun work k m t s)
    unfolding begun
    begun_outside =
        outside_then k.at (end_of k) work two (set two (k.at + 3 * k.cap + t) (m + 1))
        (outside_then k.at (end_of k) work one two (outside_set k.at (end_of k) work (k.at + k.cap + m) s (omega arith) (omega arith)) (outside_set k.at (end_of k) one (k.at + 2 * k.cap + m) 1 (omega arith) (omega arith)))
        (outside_set k.at (end_of k) two (k.at + 3 * k.cap + t) (m + 1) (omega arith) (omega arith))

    -- the first steps of judgments stay
    pub begun_upto : Upto (k.at + k.cap) work (begun work k m t s)
    unfolding begun
    begun_upto = record {
      long = length-set two (k.at + 3 * k.cap + t) (m + 1) ∙ length-set one (k.at + 2 * k.cap + m) 1 ∙ length-set work (k.at + k.cap + m) s;
      words = λ j b.
          get_or-set_other two (k.at + 3 * k.cap + t) j (m + 1) 0 (λ e. omega (arith, e))
          ∙ get_or-set_other one (k.at + 2 * k.cap + m) j 1 0 (λ e. omega (arith, e))
          ∙ get_or-set_other work (k.at + k.cap + m) j s 0 (λ e. omega (arith, e));
    }

    -- a first step's word is not behind
    begun-ahead : (j : ℕ) → j < n → first_in (begun work k m t s) k j ≡ first_in one k j
    unfolding begun
    begun-ahead j b =
        get_or-set_other two (k.at + 3 * k.cap + t) (k.at + k.cap + j) (m + 1) 0 (λ e. omega (arith, e))
        ∙ get_or-set_other one (k.at + 2 * k.cap + m) (k.at + k.cap + j) 1 0 (λ e. omega (arith, e))

    -- its first step
    pub begun_first : first_in (begun work k m t s) k m ≡ s
    begun_first = begun-ahead m h ∙ get_or-set_same work (k.at + k.cap + m) s 0 (omega arith)

    -- the first steps of the others stay
    pub begun-others : (j : ℕ) → j < m → first_in (begun work k m t s) k j ≡ first_in work k j
    begun-others j b = begun-ahead j (omega arith) ∙ get_or-set_other work (k.at + k.cap + m) (k.at + k.cap + j) s 0 (λ e. omega (arith, e))

    -- its count
    pub begun-count : count_in (begun work k m t s) k m ≡ 1
    unfolding begun
    begun-count =
        get_or-set_other two (k.at + 3 * k.cap + t) (k.at + 2 * k.cap + m) (m + 1) 0 (λ e. omega (arith, e))
        ∙ get_or-set_same one (k.at + 2 * k.cap + m) 1 0 (omega (arith, length-set work (k.at + k.cap + m) s))

    -- the counts of the others stay
    pub begun-counts : (j : ℕ) → j < m → count_in (begun work k m t s) k j ≡ count_in work k j
    unfolding begun
    begun-counts j b =
        get_or-set_other two (k.at + 3 * k.cap + t) (k.at + 2 * k.cap + j) (m + 1) 0 (λ e. omega (arith, e))
        ∙ get_or-set_other one (k.at + 2 * k.cap + m) (k.at + 2 * k.cap + j) 1 0 (λ e. omega (arith, e))
        ∙ get_or-set_other work (k.at + k.cap + m) (k.at + 2 * k.cap + j) s 0 (λ e. omega (arith, e))

    -- its slot
    pub begun-slots : slots_in (begun work k m t s) k n ≡ set (slots_in work k n) t (m + 1)
    unfolding begun slots_in
    begun-slots =
        part-set (slots_at k) (3 * n + 1) two t (m + 1) l
        ∙ ap (λ (xs : List ℕ). set xs t (m + 1))
        (part-set-before (slots_at k) (3 * n + 1) one (k.at + 2 * k.cap + m) 1 (omega arith) ∙ part-set-before (slots_at k) (3 * n + 1) work (k.at + k.cap + m) s (omega arith))
