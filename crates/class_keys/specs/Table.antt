-- The probe table of the classes' keys: a class's key is that of its first step.
use Rattle.std.specs.Prelude.{Result, Ok, Err}
use Rattle.std.specs.Prelude.{◌≡◌, Bool, true, false, ℕ, ◌+◌, ◌*◌, ◌-◌, ◌≤◌, ◌<◌, length, get_or, drop}
use Rattle.std.proofs.Common.{sym, ◌∙◌, subst}
use Rattle.std.proofs.Math.Path.{ap}
use mathlib.Core.List.{List}
use native.Mathlib.Omega.{arith}
use Rattle.std.proofs.Math.ListN.{take}
use Rattle.definition.specs.Test.{same, same_true}
use Rattle.definition.specs.Pack.{Pack}
use Rattle.definition.specs.Keys.{key_of}
use Rattle.base.specs.Hash.{hash_of}
use Rattle.base.specs.Same.{same_false}
use Rattle.base.specs.Probe.{Table, Passed, taken, passed_none, passed_more}
use Rattle.pack_tables.specs.Catalog.{records_of, records_few}
use Rattle.pack_tables.specs.declared.catalog.Catalog.{Catalog}
use Rattle.pack_read.specs.Reads.{Reads}
use Rattle.pack_read.specs.Held.{Proper, OfHeld}
use Rattle.class_keys.specs.Firsts.{Firsts}
use Rattle.class_keys.specs.Spell.{spell}
use Rattle.class_keys.specs.ClassWords.{first_in, slots_at, slots_in, Keyable, placed, slot_at, length-slots}
use Rattle.class_keys.specs.Writing.{Asked, Written}
use Rattle.class_keys.specs.declared.classes.Keying.{Keying}

-- the key of class i
unfoldable pub class_key : Pack → List ℕ → List ℕ → Keying → ℕ → List ℕ
class_key P work class k i = spell (key_of P class (first_in work k i))

-- hashes are below this
abbrev pub hashes_for : ℕ → ℕ
hashes_for n = 2 * n + 1

-- how many steps there are
abbrev pub steps_of : List ℕ → Catalog → ℕ
steps_of work c = length (records_of work c 4)

-- the slots hold the keys of m classes
pub record Tabled (bytes work class : List ℕ) (c : Catalog) (k : Keying) (m : ℕ) : Type 0 where
  pub keyable : Keyable bytes work class c k
  pub firsts : OfHeld bytes work c (λ P. Firsts P work k.at)
  pub few : m ≤ steps_of work c
  pub early : (i : ℕ) → i < m → first_in work k i < steps_of work c
  pub table : OfHeld bytes work c (λ P. Table (hash_of (hashes_for (steps_of work c))) (slots_in work k (steps_of work c)) (class_key P work class k) m)

-- a search for a key from its hash on
pub record Searching (bytes work class : List ℕ) (c : Catalog) (k : Keying) (m h : ℕ) (key : List ℕ) : Type 0 where
  pub tabled : Tabled bytes work class c k m
  pub hash_is : h ≡ hash_of (hashes_for (steps_of work c)) key
  pub below : h < hashes_for (steps_of work c)

-- it has come to slot t
pub record Probing (bytes work class : List ℕ) (c : Catalog) (k : Keying) (h : ℕ) (key : List ℕ) (t : ℕ) : Type 0 where
  pub inside : t < 3 * steps_of work c + 1
  pub passed : OfHeld bytes work c (λ P. Passed (slots_in work k (steps_of work c)) (class_key P work class k) key h t)

-- what it answers
abbrev pub Probed : List ℕ → List ℕ → List ℕ → Catalog → Keying → ℕ → ℕ → List ℕ → Result ℕ ℕ → Type 0
Probed bytes work class c k m h key (Ok i) = (i < m) × OfHeld bytes work c (λ P. class_key P work class k i ≡ key)
Probed bytes work class c k m h key (Err t) = (t < 3 * steps_of work c + 1) × OfHeld bytes work c (λ P. Passed (slots_in work k (steps_of work c)) (class_key P work class k) key h t × (get_or (slots_in work k (steps_of work c)) t 0 ≡ 0))

-- the same for the key of step s
abbrev pub Sought : List ℕ → List ℕ → List ℕ → Catalog → Keying → ℕ → ℕ → Result ℕ ℕ → Type 0
Sought bytes work class c k m s (Ok i) = (i < m) × OfHeld bytes work c (λ P. class_key P work class k i ≡ spell (key_of P class s))
Sought bytes work class c k m s (Err t) =
    (t < 3 * steps_of work c + 1) × OfHeld bytes work c (λ P.
    Passed (slots_in work k (steps_of work c)) (class_key P work class k) (spell (key_of P class s)) (hash_of (hashes_for (steps_of work c)) (spell (key_of P class s))) t
    × (get_or (slots_in work k (steps_of work c)) t 0 ≡ 0))

module _ (bytes work class : List ℕ) (c : Catalog) (k : Keying) (m : ℕ) (T : Tabled bytes work class c k m) where
  -- how many steps there are
  abbrev n : ℕ
  n = steps_of work c

  -- the key of a step may be asked for
  pub asked : (s : ℕ) → s < steps_of work c → Asked bytes work class c k.at s
  asked s h = record { noted = record { placed = placed bytes work class c k T.keyable; firsts = T.firsts }; words = T.keyable.words; given = h }

  -- and that of a class
  pub class_asked : (i : ℕ) → i < m → (f : ℕ) → f ≡ first_in work k i → Asked bytes work class c k.at f
  class_asked i h f e = asked f (omega (arith, T.early i h, e))

  -- its first step has a word
  pub class_room : (i : ℕ) → i < m → k.at + k.cap + i < length work
  class_room i h = omega (arith, T.keyable.room, T.keyable.steps, T.few)

  -- a class's key against another, word by word
  pub has_class : (i f : ℕ) → f ≡ first_in work k i → (own : List ℕ) (r : ℕ) → Written bytes work class c f own r → (key : List ℕ) (b : Bool) → b ≡ same (take (r - 0) (drop 0 own)) key
      → OfHeld bytes work c (λ P. b ≡ same (class_key P work class k i) key)
  unfolding class_key
  has_class i f e own r W key b q = λ P R Q.
      let z : r - 0 ≡ r = omega arith in
      q ∙ ap (λ (xs : List ℕ). same xs key) (ap (λ (j : ℕ). take j own) z ∙ W.words P R Q ∙ ap (λ (g : ℕ). spell (key_of P class g)) e)

  -- the hash of a key, below the number of hashes
  pub searching : (v h : ℕ) (key : List ℕ) → v ≡ steps_of work c → h ≡ hash_of (2 * v + 1) key → h < 2 * v + 1 → Searching bytes work class c k m h key
  searching v h key e q l = record { tabled = T; hash_is = q ∙ ap (λ (i : ℕ). hash_of (2 * i + 1) key) e; below = omega (arith, l, e) }

  -- steps are small numbers
  pub steps_small : steps_of work c < 1073741824
  steps_small = omega (arith, records_few bytes work c 4 T.keyable.held.cataloged (omega arith), T.keyable.held.cataloged.fits.small)

  module _ (h : ℕ) (key : List ℕ) (S : Searching bytes work class c k m h key) where
    -- a search ends
    ends : (P : Pack) → Reads bytes (records_of work c) P → Proper P → h + taken (slots_in work k n) < length (slots_in work k n)
    ends P R Q = omega (arith, S.below, T.few, (T.table P R Q).count, length-slots work k T.keyable.room n T.keyable.steps)

    -- as far as every pack says
    probing_at : (t : ℕ) → OfHeld bytes work c (λ P. Passed (slots_in work k n) (class_key P work class k) key h t) → Probing bytes work class c k h key t
    probing_at t p = record {
      inside = omega (arith, (p T.keyable.held.pack T.keyable.held.reads T.keyable.held.proper).ran.inside, length-slots work k T.keyable.room n T.keyable.steps);
      passed = p;
    }

    -- the search has passed no slot
    pub probing_none : Probing bytes work class c k h key h
    probing_none = probing_at h (λ P R Q. passed_none (slots_in work k n) (class_key P work class k) key h (ends P R Q))

    module _ (t : ℕ) (B : Probing bytes work class c k h key t) where
      -- its word is there
      pub probing_room : slots_at k + t < length work
      probing_room = omega (arith, B.inside, T.keyable.room, T.keyable.steps)

      -- a free slot
      pub probing_free : get_or work (slots_at k + t) 0 ≡ 0 → Probed bytes work class c k m h key (Err t)
      probing_free z = (B.inside, λ P R Q. (B.passed P R Q, slot_at work k n t B.inside ∙ z))

      module _ (id : ℕ) (e : id ≡ get_or work (slots_at k + t) 0) (d : id ≡ 0 → ⊥) where
        -- the slot in the table is the word that was read
        slot_is : get_or (slots_in work k n) t 0 ≡ id
        slot_is = slot_at work k n t B.inside ∙ sym e

        -- it holds a class
        pub probing_class : id - 1 < m
        probing_class = omega (arith, d, slot_is, (T.table T.keyable.held.pack T.keyable.held.reads T.keyable.held.proper).ids t (omega (arith, B.inside, length-slots work k T.keyable.room n T.keyable.steps)))

        -- that has the key
        pub probing_found : (b : Bool) → OfHeld bytes work c (λ P. b ≡ same (class_key P work class k (id - 1)) key) → b ≡ true → Probed bytes work class c k m h key (Ok (id - 1))
        probing_found b f t = (probing_class, λ P R Q. same_true (class_key P work class k (id - 1)) key (sym (f P R Q) ∙ t))

        -- or another
        pub probing_more : (b : Bool) → OfHeld bytes work c (λ P. b ≡ same (class_key P work class k (id - 1)) key) → b ≡ false → Probing bytes work class c k h key (t + 1)
        probing_more b f o = probing_at (t + 1) (λ P R Q.
            let j : get_or (slots_in work k n) t 0 - 1 ≡ id - 1 = omega (arith, slot_is) in
            passed_more (slots_in work k n) (class_key P work class k) key h (ends P R Q) t (B.passed P R Q) (omega (arith, slot_is, d))
            (λ q. same_false (class_key P work class k (id - 1)) key (sym (f P R Q) ∙ o) (ap (class_key P work class k) (sym j) ∙ q)))

-- a key written out, as it is lent
pub written-lent : (bytes work class : List ℕ) (c : Catalog) (s : ℕ) (key : List ℕ) (r : ℕ) → Written bytes work class c s key r → OfHeld bytes work c (λ P. take (r - 0) (drop 0 key) ≡ spell (key_of P class s))
written-lent bytes work class c s key r W = λ P R Q. let z : r - 0 ≡ r = omega arith in ap (λ (j : ℕ). take j key) z ∙ W.words P R Q

-- what was found for a key written out
pub sought : (bytes work class : List ℕ) (c : Catalog) (k : Keying) (m s h : ℕ) (key : List ℕ) (a : Result ℕ ℕ) → h ≡ hash_of (hashes_for (steps_of work c)) key
    → OfHeld bytes work c (λ P. key ≡ spell (key_of P class s)) → Probed bytes work class c k m h key a → Sought bytes work class c k m s a
sought bytes work class c k m s h key (Ok i) e w p = (p.0, λ P R Q. p.1 P R Q ∙ w P R Q)
sought bytes work class c k m s h key (Err t) e w p = (
  p.0,
  λ P R Q. (
    subst (λ (x : List ℕ). Passed (slots_in work k (steps_of work c)) (class_key P work class k) x (hash_of (hashes_for (steps_of work c)) x) t) (w P R Q)
        (subst (λ (i : ℕ). Passed (slots_in work k (steps_of work c)) (class_key P work class k) key i t) e (p.1 P R Q).0),
    (p.1 P R Q).1,
  ),
)
