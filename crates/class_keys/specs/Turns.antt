-- The walk over the steps: how it begins, one turn, and its state between turns.
use Rattle.std.specs.Prelude.{Ok, Err}
use Rattle.std.specs.Prelude.{◌≡◌, refl, true, ℕ, suc, ◌+◌, ◌*◌, ◌-◌, ◌≤◌, ◌<◌, eqb, length, get_or, set, take, drop, replicate}
use Rattle.std.proofs.Common.{sym, ◌∙◌, arith, length-set}
use Rattle.std.proofs.Math.Path.{subst}
use mathlib.Core.List.{List}
use Rattle.std.proofs.lemmas.List.{length-replicate, get_or-replicate}
use Rattle.definition.specs.Test.{any}
use Rattle.definition.specs.Pack.{Pack}
use Rattle.definition.specs.Graph.{up_to}
use Rattle.definition.specs.Classes.{count_of}
use Rattle.definition.specs.Keys.{needed}
use Rattle.definition.specs.Store.{nothing}
use Rattle.base.specs.Hash.{hash_of}
use Rattle.base.specs.Part.{put, part_is}
use Rattle.buffer.specs.Zero.{zeros_long, zeros_there, zeros-before, zeros-behind}
use Rattle.base.specs.Probe.{Table, table_empty}
use Rattle.base.specs.Outside.{Outside, outside_none, outside_then, outside_set, outside_wider}
use Rattle.base.specs.Upto.{Upto, upto_outside}
use Rattle.pack_tables.specs.Catalog.{records_of}
use Rattle.pack_tables.specs.declared.catalog.Catalog.{Catalog}
use Rattle.pack_read.specs.Reads.{Reads, length-nodes, length_steps}
use Rattle.pack_read.specs.Held.{OfHeld}
use Rattle.class_keys.specs.Firsts.{Noted, firsts_on, placed-many, placed-back}
use Rattle.class_keys.specs.Marks.{Marked, bit_no, bit_yes}
use Rattle.class_keys.specs.ClassWords.{count_in, slots_at, end_of, slots_in, Keyable, placed, keyable_on, joined, joined_outside, begun, begun_outside}
use Rattle.class_keys.specs.Table.{class_key, hashes_for, steps_of, Tabled, Sought, steps_small}
use Rattle.class_keys.specs.Stands.{keys_to, keys_none, Stands, Roomy, first_early, count_small, seen_small, stands_out, stands_old, stands_new}
use Rattle.class_keys.specs.declared.classes.Keying.{Keying}
use Rattle.class_keys.specs.declared.classes.Counts.{Counts}

-- the first s steps have their classes
pub record State (bytes work class : List ℕ) (c : Catalog) (k : Keying) (s : ℕ) (done : Counts) : Type 0 where
  pub keyable : Keyable bytes work class c k
  pub left : s ≤ steps_of work c
  pub few : done.classes ≤ s
  pub stands : OfHeld bytes work c (λ P. Stands P work class k (steps_of work c) s done (keys_to P s))

-- one step more has
pub record Turns (bytes work class work' class' : List ℕ) (c : Catalog) (k : Keying) (s : ℕ) (done : Counts) : Type 0 where
  pub state : State bytes work' class' c k (suc s) done
  pub frame : Outside k.at (end_of k) work work'
  pub classes : Outside s (suc s) class class'

-- none has yet
pub record Begins (bytes work class work' class' : List ℕ) (c : Catalog) (k : Keying) (n : ℕ) : Type 0 where
  pub steps : n ≡ steps_of work c
  pub here : n ≡ steps_of work' c
  pub state : State bytes work' class' c k 0 (record { classes = 0; needed = 0 })
  pub frame : Outside k.at (end_of k) work work'
  pub classes : Outside 0 (steps_of work c) class class'

-- ---- room
pub roomy : (bytes work class : List ℕ) (c : Catalog) (k : Keying) → Keyable bytes work class c k → (P : Pack) → Reads bytes (records_of work c) P → Roomy P work class k (steps_of work c)
roomy bytes work class c k K P R = record {
  all = sym (length_steps bytes (records_of work c) P R);
  room = K.room;
  most = K.steps;
  long = K.words;
  nodes = omega (arith, K.nodes, length-nodes bytes (records_of work c) P R);
}

-- there are as many steps when words from `at` on change
pub steps_on : (bytes work class work' : List ℕ) (c : Catalog) (k : Keying) → Keyable bytes work class c k → Upto k.at work work' → steps_of work' c ≡ steps_of work c
steps_on bytes work class work' c k K U = placed-many bytes work work' c k.at (placed bytes work class c k K) U 4 (omega arith)

-- ---- one turn
module _ (bytes work class : List ℕ) (c : Catalog) (k : Keying) (s : ℕ) (done : Counts) (St : State bytes work class c k s done) where
  -- how many steps there are
  abbrev n : ℕ
  n = steps_of work c

  -- there is room for them
  abbrev fits : (P : Pack) → Reads bytes (records_of work c) P → Roomy P work class k n
  fits P R = roomy bytes work class c k St.keyable P R

  -- the table may be searched
  pub tabled : Tabled bytes work class c k done.classes
  tabled =
      let H = St.keyable.held in
      record {
        keyable = St.keyable;
        firsts = λ P R Q. (St.stands P R Q).firsts;
        few = omega (arith, St.few, St.left);
        early = λ i l. omega (arith, first_early H.pack H.proper work class k n s done (fits H.pack H.reads) (St.stands H.pack H.reads H.proper) St.left St.few i l, St.left);
        table = λ P R Q. (St.stands P R Q).table;
      }

  -- the numbers are small
  pub small : (steps_of work c < 1073741824) × (done.needed ≤ s)
  small =
      let H = St.keyable.held in
      (steps_small bytes work class c k done.classes tabled, seen_small H.pack H.proper work class k n s done (fits H.pack H.reads) (St.stands H.pack H.reads H.proper) St.left St.few)

  module _ (more : s < n) where
    -- whatever the step's word became
    turned : (work' : List ℕ) (v : ℕ) (r : Counts) → Outside k.at (end_of k) work work' → r.classes ≤ suc s
        → OfHeld bytes work c (λ P. Stands P work' (set class s v) k n (suc s) r (keys_to P (suc s))) → Turns bytes work class work' (set class s v) c k s r
    turned work' v r O few st =
        let U : Upto k.at work work' = upto_outside k.at k.at (end_of k) work work' (omega arith) O in
        let e = steps_on bytes work class work' c k St.keyable U in
        record {
          state = record {
            keyable = keyable_on bytes work class work' (set class s v) c k St.keyable U (length-set class s v);
            left = omega (arith, more, e);
            few = few;
            stands = λ P R Q.
                subst (λ (i : ℕ). Stands P work' (set class s v) k i (suc s) r (keys_to P (suc s))) (sym e)
                (st P (placed-back bytes work work' c k.at (placed bytes work class c k St.keyable) U P R) Q);
          };
          frame = O;
          classes = outside_set s (suc s) class s v (omega arith) (omega arith);
        }

    -- a step that is not marked
    pub turn_out : get_or class s 0 ≡ 0 → Turns bytes work class work (set class s nothing) c k s done
    turn_out z =
        turned work nothing done (outside_none k.at (end_of k) work) (omega (arith, St.few))
        (λ P R Q.
        let S = St.stands P R Q in
        stands_out P Q work class k n s done (fits P R) S St.left St.few more (bit_no (any (eqb s) (needed P)) (sym (S.marks s (omega arith) more) ∙ z)))

    module _ (d : get_or class s 0 ≡ 0 → ⊥) where
      -- one that is is needed
      among : (P : Pack) → (S : Stands P work class k n s done (keys_to P s)) → any (eqb s) (needed P) ≡ true
      among P S = bit_yes (any (eqb s) (needed P)) (λ z. d (S.marks s (omega arith) more ∙ z))

      -- its key is that of class i
      module _ (i : ℕ) (f : Sought bytes work class c k done.classes s (Ok i)) where
        -- the class is below the number of steps
        pub old_few : i < n
        old_few = omega (arith, f.0, St.few, St.left)

        -- its count has a word, and may grow
        pub old-room : (k.at + 2 * k.cap + i < length work) × (count_in work k i < nothing)
        old-room =
            let H = St.keyable.held in
            let l = count_small H.pack H.proper work class k n s done (fits H.pack H.reads) (St.stands H.pack H.reads H.proper) St.left St.few i f.0 in
            (omega (arith, old_few, St.keyable.room, St.keyable.steps), omega (arith, l, small.0, St.left))

        -- the step joins it
        pub turn-old : Turns bytes work class (joined work k i) (set class s i) c k s (record { classes = done.classes; needed = done.needed + 1 })
        turn-old =
            turned (joined work k i) i (record { classes = done.classes; needed = done.needed + 1 }) (joined_outside work k St.keyable.room n St.keyable.steps i old_few) (omega (arith, St.few))
            (λ P R Q. let S = St.stands P R Q in stands_old P Q work class k n s done (fits P R) S St.left St.few more (among P S) i f.0 (f.1 P R Q))

      -- no class has its key
      module _ (t : ℕ) (f : Sought bytes work class c k done.classes s (Err t)) where
        -- the new class has its words, and a slot
        pub new-room : (done.classes ≤ k.cap) × (slots_at k + t < length work) × (done.classes < nothing) × (s < 4294967296)
        new-room = (omega (arith, St.few, St.left, St.keyable.steps), omega (arith, f.0, St.keyable.room, St.keyable.steps), omega (arith, small.0, St.few, St.left), omega (arith, small.0, St.left))

        -- the step begins it
        pub turn-new : Turns bytes work class (begun work k done.classes t s) (set class s done.classes) c k s (record { classes = done.classes + 1; needed = done.needed + 1 })
        turn-new =
            turned (begun work k done.classes t s) done.classes (record { classes = done.classes + 1; needed = done.needed + 1 })
            (begun_outside work k St.keyable.room n St.keyable.steps done.classes t s (omega (arith, St.few, more)) f.0) (omega (arith, St.few))
            (λ P R Q. let S = St.stands P R Q in stands_new P Q work class k n s done (fits P R) S St.left St.few more (among P S) t f.0 (f.1 P R Q).0 (f.1 P R Q).1)

-- ---- the slots are free
-- there is room for those of n steps
pub record Clearing (work : List ℕ) (k : Keying) (n : ℕ) : Type 0 where
  pub room : end_of k ≤ length work
  pub most : n ≤ k.cap

-- they are free, and nothing else was written
pub record Cleared (work work' : List ℕ) (k : Keying) (n : ℕ) : Type 0 where
  pub free : slots_in work' k n ≡ replicate (3 * n + 1) 0
  pub outside : Outside (slots_at k) (slots_at k + (3 * n + 1)) work work'

-- as they were lent, and came back
pub cleared : (work : List ℕ) (k : Keying) (n : ℕ) → Clearing work k n → (zs : List ℕ) → zs ≡ replicate (length (take (slots_at k + (3 * n + 1) - slots_at k) (drop (slots_at k) work))) 0
    → Cleared work (put (slots_at k) (slots_at k + (3 * n + 1) - slots_at k) zs work) k n
unfolding slots_in
cleared work k n C zs z =
    let a = slots_at k in
    let m = 3 * n + 1 in
    let l : a + m ≤ length work = omega (arith, C.room, C.most) in
    let long = zeros_long a (a + m) m work zs refl l z in
    let work' = put a (a + m - a) zs work in
    record {
      free = part_is a m work' (replicate m 0) (omega (arith, l, long)) (length-replicate m 0) (λ i h. zeros_there a (a + m) m work zs refl l z i h ∙ sym (get_or-replicate {A = ℕ} m i 0 0 h));
      outside = record { long = long; ahead = λ i h. zeros-before a (a + m) m work zs refl l z i h; behind = λ i h. zeros-behind a (a + m) m work zs refl l z i h };
    }

-- ---- how it begins: first steps noted, needed steps marked, slots free
module _ (bytes work class : List ℕ) (c : Catalog) (k : Keying) (K : Keyable bytes work class c k) (work₁ : List ℕ) (N : Noted bytes work₁ c k.at) (O : Outside k.at (k.at + length (records_of work c 3)) work work₁) where
  -- words ahead of the keys' are as they were
  abbrev up : Upto k.at work work₁
  up = upto_outside k.at k.at (k.at + length (records_of work c 3)) work work₁ (omega arith) O

  -- there are as many steps as before
  same_steps : steps_of work₁ c ≡ steps_of work c
  same_steps = steps_on bytes work class work₁ c k K up

  -- marks may be set
  pub begin-marks : length (records_of work₁ c 4) ≤ length class
  begin-marks = omega (arith, same_steps, K.words)

  module _ (class₁ : List ℕ) (M : OfHeld bytes work₁ c (λ P. Marked (length P.steps) class₁ (needed P))) (B : Outside 0 (steps_of work₁ c) class class₁) (n : ℕ) (many : n ≡ steps_of work₁ c) where
    -- slots may be freed
    pub begin-slots : Clearing work₁ k n
    begin-slots = record { room = omega (arith, K.room, O.long); most = omega (arith, K.steps, same_steps, many) }

    module _ (work₂ : List ℕ) (Z : Cleared work₁ work₂ k n) where
      -- nothing ahead of the slots was written last
      behind : Upto (slots_at k) work₁ work₂
      behind = upto_outside (slots_at k) (slots_at k) (slots_at k + (3 * n + 1)) work₁ work₂ (omega arith) Z.outside

      -- there is still room when the first steps are noted
      K₁ : Keyable bytes work₁ class₁ c k
      K₁ = keyable_on bytes work class work₁ class₁ c k K up B.long

      -- nothing ahead of the keys' words was written last
      ahead : Upto k.at work₁ work₂
      ahead = record { long = behind.long; words = λ i h. behind.words i (omega arith) }

      -- and when the slots are free
      K₂ : Keyable bytes work₂ class₁ c k
      K₂ = keyable_on bytes work₁ class₁ work₂ class₁ c k K₁ ahead refl

      -- and still as many steps
      steps₂ : steps_of work₂ c ≡ n
      steps₂ = steps_on bytes work₁ class₁ work₂ c k K₁ ahead ∙ sym many

      -- no step has its class yet
      first-state : OfHeld bytes work₂ c (λ P. Stands P work₂ class₁ k n 0 (record { classes = 0; needed = 0 }) (keys_to P 0))
      unfolding count_of up_to
      first-state P R Q =
          let r = placed-back bytes work₁ work₂ c k.at N.placed ahead P R in
          subst (Stands P work₂ class₁ k n 0 (record { classes = 0; needed = 0 })) (sym (keys_none P)) (record {
            firsts = firsts_on P Q work₁ work₂ k.at (slots_at k) (omega (arith, K₁.nodes, length-nodes bytes (records_of work₁ c) P r)) behind (N.firsts P r Q);
            marks = λ t a b. (M P r Q).mark t (omega (arith, b, many, length_steps bytes (records_of work₁ c) P r));
            many = refl;
            words = refl;
            first = λ i l. absurd (omega arith);
            count = λ i l. absurd (omega arith);
            table = subst (λ (sl : List ℕ). Table (hash_of (hashes_for n)) sl (class_key P work₂ class₁ k) 0) (sym Z.free) (table_empty (hash_of (hashes_for n)) (3 * n + 1) (class_key P work₂ class₁ k));
            seen = refl;
          })

      -- all of it together
      pub begun-state : Begins bytes work class work₂ class₁ c k n
      begun-state = record {
        steps = many ∙ same_steps;
        here = sym steps₂;
        state = record {
          keyable = K₂;
          left = omega arith;
          few = omega arith;
          stands = λ P R Q. subst (λ (i : ℕ). Stands P work₂ class₁ k i 0 (record { classes = 0; needed = 0 }) (keys_to P 0)) (sym steps₂) (first-state P R Q);
        };
        frame = outside_then k.at (end_of k) work work₁ work₂
            (outside_wider k.at (k.at + length (records_of work c 3)) k.at (end_of k) work work₁ (omega arith) (omega (arith, K.nodes)) O)
            (outside_wider (slots_at k) (slots_at k + (3 * n + 1)) k.at (end_of k) work₁ work₂ (omega arith) (omega (arith, K.steps, same_steps, many)) Z.outside);
        classes = subst (λ (i : ℕ). Outside 0 i class class₁) same_steps B;
      }
