-- What the words stand for: the keys of the first steps, as the definition has them; and one step more.
use Rattle.std.specs.Prelude.{◌≡◌, refl, false, ℕ, zero, suc, ◌+◌, ◌*◌, ◌≤◌, ◌<◌, eqb, length, get_or, set, take}
use Rattle.std.proofs.Math.Path.{sym, ap, subst}
use Rattle.std.proofs.Common.{◌∙◌, add-one, arith, length-set, length-append, take-suc-set, get_or-set_same, get_or-set_other}
use mathlib.Core.List.{List, [], ◌∷◌, ◌++◌}
use Rattle.std.proofs.Math.Option.{none, some}
use Rattle.std.proofs.Math.Decide.{ℕ_discrete}
use Rattle.std.proofs.Math.ListN.{get_or-append}
use Rattle.std.proofs.lemmas.List.{get_or_at}
use Rattle.definition.specs.Test.{is, see, any}
use Rattle.definition.specs.Pack.{Pack}
use Rattle.definition.specs.Good.{Good}
use Rattle.definition.specs.Store.{nothing}
use Rattle.definition.specs.Graph.{up_to}
use Rattle.definition.specs.Classes.{count_of}
use Rattle.definition.specs.Keys.{Key, Keyed, no_keyed, class_in, Keys, key_of, one_more_of, key_step, key_steps, needed, keyed}
use Rattle.theory.specs.Keys.Needed.{Among}
use Rattle.theory.specs.Keys.Keyed.{class_found, class_none, counted}
use Rattle.theory.specs.Keys.KeyedLaws.{Kept, first-set, count_in_law, count_out, steps_then, kept_up_to}
use Rattle.theory.specs.Unification.Circle.{count-below}
use Rattle.base.specs.Hash.{hash_of}
use Rattle.base.specs.Probe.{Table, Passed, absent, grown, table_same}
use Rattle.pack_read.specs.Held.{Proper}
use Rattle.class_keys.specs.Firsts.{Firsts, firsts_on}
use Rattle.class_keys.specs.Marks.{bit}
use Rattle.class_keys.specs.Spell.{spell, spell_once, key_set, key-take}
use Rattle.class_keys.specs.ClassWords.{first_in, count_in, end_of, slots_in, joined, joined_upto, joined-first, joined_same, joined-other, joined-slots, begun, begun_upto, begun_first, begun-others, begun-count, begun-counts, begun-slots}
use Rattle.class_keys.specs.Table.{class_key, hashes_for}
use Rattle.class_keys.specs.declared.classes.Keying.{Keying}
use Rattle.class_keys.specs.declared.classes.Counts.{Counts}

-- the keys of the first n steps
unfoldable pub keys_to : Pack → ℕ → Keys
unfolding key_steps needed up_to
keys_to P n = key_steps P (needed P) (up_to n) (record { words = []; classes = [] })

-- of all steps
pub keys_all : (P : Pack) → keys_to P (length P.steps) ≡ keyed P
unfolding keys_to keyed
keys_all P = refl

-- of none
pub keys_none : (P : Pack) → keys_to P 0 ≡ record { words = []; classes = [] }
unfolding keys_to key_steps up_to
keys_none P = refl

-- what holds of them
pub keys_kept : (P : Pack) → Good P → (n : ℕ) → n ≤ length P.steps → Kept P (needed P) (keys_to P n) × (length (keys_to P n).words ≡ n)
unfolding keys_to
keys_kept P G n h = kept_up_to P G (needed P) n h

-- ---- one step more
module _ (P : Pack) (n : ℕ) where
  -- the keys so far
  abbrev old : Keys
  old = keys_to P n

  -- the keys with one step more
  keys_next : keys_to P (suc n) ≡ key_steps P (needed P) (n ∷ []) old
  unfolding keys_to up_to
  keys_next = steps_then P (needed P) (up_to n) (n ∷ []) (record { words = []; classes = [] })

  -- it is not needed
  keys_out : any (eqb n) (needed P) ≡ false → keys_to P (suc n) ≡ record { words = old.words ++ (nothing ∷ []); classes = old.classes }
  unfolding key_steps
  keys_out o = keys_next ∙ rw (o, key_steps)

  -- it joins class i
  keys_old : Among n (needed P) → (i : ℕ) → class_in (key_of P old.words n) old.classes 0 ≡ some i
      → keys_to P (suc n) ≡ record { words = old.words ++ (i ∷ []); classes = set old.classes i (one_more_of (get_or old.classes i no_keyed)) }
  unfolding key_steps key_step
  keys_old a i e = keys_next ∙ rw (a, key_steps, e, key_step)

  -- it begins a class
  keys_new : Among n (needed P) → class_in (key_of P old.words n) old.classes 0 ≡ none
      → keys_to P (suc n) ≡ record { words = old.words ++ (length old.classes ∷ []); classes = old.classes ++ (record { key = key_of P old.words n; first = n; count = 1 } ∷ []) }
  unfolding key_steps key_step
  keys_new a e = keys_next ∙ rw (a, key_steps, e, key_step)

-- the class that has a key, if no other has it
class_at : (key : Key) (xs : List Keyed) (i : ℕ) → ((c d : ℕ) → c < length xs → d < length xs → (get_or xs c no_keyed).key ≡ (get_or xs d no_keyed).key → c ≡ d) → i < length xs → (get_or xs i no_keyed).key ≡ key
    → class_in key xs 0 ≡ some i
class_at key xs i apart h e = elim (see (class_in key xs 0)) [
  | is none p ↦ absurd (class_none key xs 0 i p h e)
  | is (some d) p ↦
      let f = class_found key xs 0 d p in
      let q : f.0 ≡ i = apart f.0 i f.2 h (f.3 ∙ sym e) in
      let r : d ≡ i = omega (arith, f.1, q) in
      p ∙ ap some r
]

-- that none has it
class_out : (key : Key) (xs : List Keyed) → ((i : ℕ) → i < length xs → (get_or xs i no_keyed).key ≡ key → ⊥) → class_in key xs 0 ≡ none
class_out key xs other = elim (see (class_in key xs 0)) [
  | is none p ↦ p
  | is (some d) p ↦ let f = class_found key xs 0 d p in absurd (other f.0 f.2 f.3)
]

-- ---- counts are small
count_most : (xs : List Keyed) (i : ℕ) → i < length xs → (get_or xs i no_keyed).count ≤ counted xs
unfolding counted
count_most [] i h = absurd (omega arith)
count_most (x ∷ xs) zero h = omega arith
count_most (x ∷ xs) (suc i) h = let l = count_most xs i (omega arith) in omega arith

-- ---- what the words stand for
-- of n steps the first s have their classes, and the words of the others are marks
pub record Stands (P : Pack) (work class : List ℕ) (k : Keying) (n s : ℕ) (done : Counts) (K : Keys) : Type 0 where
  pub firsts : Firsts P work k.at
  pub marks : (t : ℕ) → s ≤ t → t < n → get_or class t 0 ≡ bit (any (eqb t) (needed P))
  pub many : done.classes ≡ length K.classes
  pub words : take s class ≡ K.words
  pub first : (i : ℕ) → i < done.classes → first_in work k i ≡ (get_or K.classes i no_keyed).first
  pub count : (i : ℕ) → i < done.classes → count_in work k i ≡ (get_or K.classes i no_keyed).count
  pub table : Table (hash_of (hashes_for n)) (slots_in work k n) (class_key P work class k) done.classes
  pub seen : done.needed ≡ count_of (λ t. any (eqb t) (needed P)) (up_to s)

-- there is room for n steps
pub record Roomy (P : Pack) (work class : List ℕ) (k : Keying) (n : ℕ) : Type 0 where
  pub all : n ≡ length P.steps
  pub room : end_of k ≤ length work
  pub most : n ≤ k.cap
  pub long : n ≤ length class
  pub nodes : length P.nodes ≤ k.cap

module _ (P : Pack) (Q : Proper P) (work class : List ℕ) (k : Keying) (n s : ℕ) (done : Counts) (Y : Roomy P work class k n) (S : Stands P work class k n s done (keys_to P s)) (h : s ≤ n) (few : done.classes ≤ s) where
  -- the keys so far
  abbrev K : Keys
  K = keys_to P s

  -- and what holds of them
  abbrev kept : Kept P (needed P) K × (length K.words ≡ s)
  kept = keys_kept P Q.good s (omega (arith, h, Y.all))

  -- a class begins with an earlier step
  pub first_early : (i : ℕ) → i < done.classes → first_in work k i < s
  first_early i l = omega (arith, S.first i l, (kept.0.begun i (omega (arith, l, S.many))).0, kept.1)

  -- its key is the first step's
  class_key_law : (i : ℕ) → i < done.classes → key_of P class (first_in work k i) ≡ (get_or K.classes i no_keyed).key
  class_key_law i l =
      let b = kept.0.begun i (omega (arith, l, S.many)) in
      let f = (get_or K.classes i no_keyed).first in
      let a = kept.0.classed f b.0 b.1 in
      let o : f < s = omega (arith, b.0, kept.1) in
      ap (key_of P class) (S.first i l)
      ∙ sym (key-take P Q.good class s f (omega (arith, o, h, Y.all)) (omega arith))
      ∙ ap (λ (ws : List ℕ). key_of P ws f) S.words
      ∙ sym a.1
      ∙ ap (λ (j : ℕ). (get_or K.classes j no_keyed).key) b.2

  -- the numbers are small
  pub count_small : (i : ℕ) → i < done.classes → count_in work k i ≤ s
  count_small i l = omega (arith, S.count i l, count_most K.classes i (omega (arith, l, S.many)), kept.0.summed, kept.1, count-below (λ t. any (eqb t) (needed P)) (length K.words))

  -- no more steps are needed than were met
  pub seen_small : done.needed ≤ s
  seen_small = omega (arith, S.seen, count-below (λ t. any (eqb t) (needed P)) s)

  -- ---- one step more
  module _ (more : s < n) where
    -- this step's key, by the words before it
    own_key : key_of P class s ≡ key_of P K.words s
    own_key = sym (key-take P Q.good class s s (omega (arith, more, Y.all)) (omega arith)) ∙ ap (λ (ws : List ℕ). key_of P ws s) S.words

    -- its word changes no earlier key
    key-after : (v f : ℕ) → f < s → spell (key_of P (set class s v) f) ≡ spell (key_of P class f)
    key-after v f l = ap spell (key_set P Q.good class s f v (omega (arith, l, more, Y.all)) (omega arith))

    -- its own word
    words_more : (v : ℕ) → take (suc s) (set class s v) ≡ K.words ++ (v ∷ [])
    words_more v = take-suc-set class s v (omega (arith, more, Y.long)) ∙ ap (λ (ws : List ℕ). ws ++ (v ∷ [])) S.words

    -- the later steps keep their marks
    marks-more : (v t : ℕ) → suc s ≤ t → t < n → get_or (set class s v) t 0 ≡ bit (any (eqb t) (needed P))
    marks-more v t a b = get_or-set_other class s t v 0 (λ e. omega (arith, e)) ∙ S.marks t (omega arith) b

    -- it is not needed
    pub stands_out : any (eqb s) (needed P) ≡ false → Stands P work (set class s nothing) k n (suc s) done (keys_to P (suc s))
    unfolding class_key
    stands_out o = subst (Stands P work (set class s nothing) k n (suc s) done) (sym (keys_out P s o)) (record {
      firsts = S.firsts;
      marks = marks-more nothing;
      many = S.many;
      words = words_more nothing;
      first = S.first;
      count = S.count;
      table = table_same (hash_of (hashes_for n)) (slots_in work k n) (class_key P work class k) (class_key P work (set class s nothing) k) done.classes S.table (λ i l. key-after nothing (first_in work k i) (first_early i l));
      seen = S.seen ∙ sym (count_out (needed P) s o);
    })

    -- it joins class i
    module _ (a : Among s (needed P)) (i : ℕ) (l : i < done.classes) (e : class_key P work class k i ≡ spell (key_of P class s)) where
      -- the classes so far
      abbrev xs : List Keyed
      xs = K.classes

      -- and with one step more in class i
      abbrev ys : List Keyed
      ys = set xs i (one_more_of (get_or xs i no_keyed))

      -- class i is one of them
      inside : i < length xs
      inside = omega (arith, l, S.many)

      -- it is the one that has the key
      found : class_in (key_of P K.words s) xs 0 ≡ some i
      unfolding class_key
      found = class_at (key_of P K.words s) xs i kept.0.apart inside (sym (class_key_law i l) ∙ spell_once (key_of P class (first_in work k i)) (key_of P class s) e ∙ own_key)

      -- its number is below that of the steps
      below : i < n
      below = omega (arith, l, few, h)

      -- their counts, with one step more in class i
      count_is : (j : ℕ) → j < done.classes → count_in (joined work k i) k j ≡ (get_or ys j no_keyed).count
      count_is j b = elim (ℕ_discrete j i) [
        | yes q ↦
            let u : count_in (joined work k i) k i ≡ (get_or ys i no_keyed).count =
            joined_same work k Y.room n Y.most i below ∙ add-one (count_in work k i) ∙ ap suc (S.count i l) ∙ sym (ap (λ (x : Keyed). x.count) (get_or-set_same xs i (one_more_of (get_or xs i no_keyed)) no_keyed inside)) in
            ap (count_in (joined work k i) k) q ∙ u ∙ ap (λ (z : ℕ). (get_or ys z no_keyed).count) (sym q)
        | no d ↦ joined-other work k Y.room n Y.most i below j d ∙ S.count j b ∙ sym (ap (λ (x : Keyed). x.count) (get_or-set_other xs i j (one_more_of (get_or xs i no_keyed)) no_keyed d))
      ]

      -- the classes keep their keys
      key_is : (j : ℕ) → j < done.classes → class_key P (joined work k i) (set class s i) k j ≡ class_key P work class k j
      unfolding class_key
      key_is j b = ap (λ (f : ℕ). spell (key_of P (set class s i) f)) (joined-first work k Y.room n Y.most i below j (omega (arith, b, few, h))) ∙ key-after i (first_in work k j) (first_early j b)

      -- so the words stand for the keys with this step
      pub stands_old : Stands P (joined work k i) (set class s i) k n (suc s) (record { classes = done.classes; needed = done.needed + 1 }) (keys_to P (suc s))
      stands_old = subst (Stands P (joined work k i) (set class s i) k n (suc s) (record { classes = done.classes; needed = done.needed + 1 })) (sym (keys_old P s a i found)) (record {
        firsts = firsts_on P Q work (joined work k i) k.at (k.at + k.cap) (omega (arith, Y.nodes)) (joined_upto work k Y.room n Y.most i below) S.firsts;
        marks = marks-more i;
        many = S.many ∙ sym (length-set xs i (one_more_of (get_or xs i no_keyed)));
        words = words_more i;
        first = λ j b. joined-first work k Y.room n Y.most i below j (omega (arith, b, few, h)) ∙ S.first j b ∙ sym (first-set xs i j inside);
        count = count_is;
        table =
            subst (λ (sl : List ℕ). Table (hash_of (hashes_for n)) sl (class_key P (joined work k i) (set class s i) k) done.classes) (sym (joined-slots work k Y.room n Y.most i below))
            (table_same (hash_of (hashes_for n)) (slots_in work k n) (class_key P work class k) (class_key P (joined work k i) (set class s i) k) done.classes S.table key_is);
        seen = omega (arith, S.seen, count_in_law (needed P) s a);
      })

    -- it begins a class, and slot t holds it
    module _ (a : Among s (needed P)) (t : ℕ) (l : t < 3 * n + 1) (T : Passed (slots_in work k n) (class_key P work class k) (spell (key_of P class s)) (hash_of (hashes_for n) (spell (key_of P class s))) t) (free : get_or (slots_in work k n) t 0 ≡ 0) where
      -- the classes so far
      abbrev zs : List Keyed
      zs = K.classes

      -- the number of the new one
      abbrev m : ℕ
      m = done.classes

      -- the new class
      abbrev x : Keyed
      x = record { key = key_of P K.words s; first = s; count = 1 }

      -- the words with it
      abbrev work' : List ℕ
      work' = begun work k m t s

      -- its number is below that of the steps
      low : m < n
      low = omega (arith, few, more)

      -- no class has its key
      fresh : class_in (key_of P K.words s) zs 0 ≡ none
      unfolding class_key
      fresh = class_out (key_of P K.words s) zs (λ i b q.
          let j : i < m = omega (arith, b, S.many) in
          absent (hash_of (hashes_for n)) (slots_in work k n) (class_key P work class k) m S.table (spell (key_of P class s)) t T free i j (ap spell (class_key_law i j ∙ q ∙ sym own_key)))

      -- its own line in the list of classes, and the others
      last_is : get_or (zs ++ (x ∷ [])) m no_keyed ≡ x
      last_is = get_or_at zs x [] no_keyed m (sym S.many)

      -- the others in that list
      others_are : (j : ℕ) → j < m → get_or (zs ++ (x ∷ [])) j no_keyed ≡ get_or zs j no_keyed
      others_are j b = get_or-append zs (x ∷ []) no_keyed j (omega (arith, b, S.many))

      -- the first steps in the words
      firsts_are : (j : ℕ) → j < m + 1 → first_in work' k j ≡ (get_or (zs ++ (x ∷ [])) j no_keyed).first
      firsts_are j b = elim (ℕ_discrete j m) [
        | yes q ↦ ap (first_in work' k) q ∙ begun_first work k Y.room n Y.most m t s low l ∙ sym (ap (λ (y : Keyed). y.first) (ap (λ (i : ℕ). get_or (zs ++ (x ∷ [])) i no_keyed) q ∙ last_is))
        | no d ↦ let o : j < m = omega arith in begun-others work k Y.room n Y.most m t s low l j o ∙ S.first j o ∙ sym (ap (λ (y : Keyed). y.first) (others_are j o))
      ]

      -- the counts in the words
      counts_are : (j : ℕ) → j < m + 1 → count_in work' k j ≡ (get_or (zs ++ (x ∷ [])) j no_keyed).count
      counts_are j b = elim (ℕ_discrete j m) [
        | yes q ↦ ap (count_in work' k) q ∙ begun-count work k Y.room n Y.most m t s low l ∙ sym (ap (λ (y : Keyed). y.count) (ap (λ (i : ℕ). get_or (zs ++ (x ∷ [])) i no_keyed) q ∙ last_is))
        | no d ↦ let o : j < m = omega arith in begun-counts work k Y.room n Y.most m t s low l j o ∙ S.count j o ∙ sym (ap (λ (y : Keyed). y.count) (others_are j o))
      ]

      -- the keys in the table
      old_keys : (j : ℕ) → j < m → class_key P work' (set class s m) k j ≡ class_key P work class k j
      unfolding class_key
      old_keys j b = ap (λ (f : ℕ). spell (key_of P (set class s m) f)) (begun-others work k Y.room n Y.most m t s low l j b) ∙ key-after m (first_in work k j) (first_early j b)

      -- the key of the new class
      new-key : class_key P work' (set class s m) k m ≡ spell (key_of P class s)
      unfolding class_key
      new-key =
          ap (λ (f : ℕ). spell (key_of P (set class s m) f)) (begun_first work k Y.room n Y.most m t s low l)
          ∙ ap spell (key_set P Q.good class s s m (omega (arith, more, Y.all)) (omega arith))

      -- so the words stand for the keys with this step
      pub stands_new : Stands P work' (set class s m) k n (suc s) (record { classes = m + 1; needed = done.needed + 1 }) (keys_to P (suc s))
      stands_new = subst (Stands P work' (set class s m) k n (suc s) (record { classes = m + 1; needed = done.needed + 1 })) (sym (keys_new P s a fresh)) (record {
        firsts = firsts_on P Q work work' k.at (k.at + k.cap) (omega (arith, Y.nodes)) (begun_upto work k Y.room n Y.most m t s low l) S.firsts;
        marks = marks-more m;
        many = omega (arith, S.many, length-append zs (x ∷ []));
        words = words_more m ∙ ap (λ (c : ℕ). K.words ++ (c ∷ [])) S.many;
        first = firsts_are;
        count = counts_are;
        table =
            subst (λ (sl : List ℕ). Table (hash_of (hashes_for n)) sl (class_key P work' (set class s m) k) (m + 1)) (sym (begun-slots work k Y.room n Y.most m t s low l))
            (grown (hash_of (hashes_for n)) (slots_in work k n) (class_key P work class k) m S.table (spell (key_of P class s)) t T free (class_key P work' (set class s m) k) old_keys new-key);
        seen = omega (arith, S.seen, count_in_law (needed P) s a);
      })
