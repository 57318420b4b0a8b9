-- The store's laws: what stands where, how a node is entered, appended and added, how the table is made anew.
use Rattle.std.specs.Prelude.{Some, None, Ok, Err}
use Rattle.std.specs.Prelude.{◌≡◌, Bool, true, false, ℕ, ◌+◌, ◌-◌, ◌*◌, ◌/◌, ◌≤◌, ◌<◌, take, drop, replicate}
use Rattle.std.proofs.Math.Path.{refl, sym, ap}
use Rattle.std.proofs.Common.{◌∙◌, add-one, arith, length-set, length-append, length-drop, take-append-drop, take-suc-set, drop-set-lt, drop-drop}
use mathlib.Core.List.{List, [], ◌∷◌, ◌++◌, append_assoc}
use Rattle.std.proofs.Math.Decide.{ℕ_discrete}
use Rattle.std.proofs.Math.ListN.{length, get_or, set, get_or-append}
use Rattle.std.proofs.lemmas.List.{length-replicate, get_or_at}
use Rattle.std.proofs.Math.Seq.{get_or-set_same, get_or-set_other}
use Rattle.definition.specs.Test.{same, same_true}
use Rattle.definition.specs.Pack.{Node, no_node}
use Rattle.definition.specs.Store.{Stored as Placing, pattern_words, nodes_in}
use Rattle.definition.proofs.Laws.Store.{StoreOnce, intern-old, intern-new}
use Rattle.base.specs.Part.{part, put, part_at, length_part, part-set, part-set-before, part-put, put-before, length-put}
use Rattle.base.specs.Same.{same_false}
use Rattle.base.specs.Probe.{Table, Ran, Passed, taken, grown, absent, table_empty}
use Rattle.base.specs.declared.id.Pattern.{Pattern}
use Rattle.base.specs.Hash.{hash_of}
use Rattle.store.specs.Words.{key_of, node_with, key_of_law, node_of_law, key-args, start, start-more, start-last, words_append, words-one, words-most, length_more, Begins, begins_nodes, begins_long, begins_take, stands}
use Rattle.store.specs.Stored.{nodes, room_in, slots_for, slots_in, hash_node, node_at, Enough, Placed, Entered, Stored, written, longer, Searching, Probed, Appended, Adding, Rebuilding, Added, Answer}
use Rattle.store.specs.declared.nodes.Store.{Store}

-- what stands where the index says
pub record Located (index words : List ℕ) (s : List Node) (i : ℕ) : Type 0 where
  pub inside : i < length index
  pub ends : get_or index i 0 + 2 + get_or words (get_or index i 0) 0 ≤ length words
  pub key : part (get_or index i 0 + 1) (get_or words (get_or index i 0) 0 + 1) words ≡ key_of (node_at s i)

module _ (index words : List ℕ) (st : Store) (s : List Node) (P : Placed index words st s) where
  pub few : length s ≤ room_in words
  few = omega (arith, words-most s, begins_long s words P.begins)

  pub located : (i : ℕ) → i < length s → Located index words s i
  located i h =
      let S = stands s words i P.begins h in
      let l = begins_long s words P.begins in
      let e = P.starts i h in
      record { inside = omega (arith, few, P.enough.wide); ends = rw e (omega (arith, S.count, S.ends)); key = rw (e, S.count) S.key }

-- ---- the table
module _ (index words : List ℕ) (st : Store) (s : List Node) (i : ℕ) (E : Entered index words st s i) where
  pub slots_fit : room_in words + slots_for st.hashes ≤ length index
  slots_fit = omega (arith, E.ranged.most, E.placed.enough.wide)

  pub length-slots : length (slots_in index words st.hashes) ≡ slots_for st.hashes
  unfolding slots_in
  length-slots = length_part (room_in words) (slots_for st.hashes) index slots_fit

  -- a search from any hash ends
  pub searches : (h : ℕ) → h < st.hashes → h + taken (slots_in index words st.hashes) < length (slots_in index words st.hashes)
  searches h l = omega (arith, length-slots, E.table.count, E.ranged.half, E.within)

  -- a slot's word in the whole index
  pub slot_at : (t : ℕ) → t < slots_for st.hashes → get_or (slots_in index words st.hashes) t 0 ≡ get_or index (room_in words + t) 0
  unfolding slots_in
  slot_at t h = part_at (room_in words) (slots_for st.hashes) index t h

-- a store behind the starts leaves the nodes in their places
placed-set : (index words : List ℕ) (st : Store) (s : List Node) (t v : ℕ) → Placed index words st s → Placed (set index (room_in words + t) v) words st s
placed-set index words st s t v P =
    let f = few index words st s P in
    record {
      enough = record { small = P.enough.small; wide = rw (length-set index (room_in words + t) v) P.enough.wide };
      begins = P.begins;
      len = P.len;
      used = P.used;
      starts = λ j h. get_or-set_other index (room_in words + t) j v 0 (omega arith) ∙ P.starts j h;
    }

-- node i goes into the first free slot from its hash on
pub entered : (index words : List ℕ) (st : Store) (s : List Node) (i t : ℕ) → Entered index words st s i → i < length s → Ran (slots_in index words st.hashes) (hash_node st.hashes (node_at s i)) t → get_or (slots_in index words st.hashes) t 0 ≡ 0
    → Entered (set index (room_in words + t) (i + 1)) words st s (i + 1)
unfolding slots_in
entered index words st s i t E h R free =
    let m = st.hashes in
    let slots : List ℕ = part (room_in words) (slots_for m) index in
    let inside : t < slots_for m = omega (arith, R.inside, length-slots index words st s i E) in
    let other : (u j : ℕ) → hash_node m (node_at s i) ≤ u → u < t → get_or slots u 0 ≡ j + 1 → node_at s j ≡ node_at s i → ⊥ =
    λ u j a b e q.
    let k : j < i = omega (arith, E.table.ids u (omega (arith, R.inside))) in
    let z : j ≡ i = E.once j i (omega arith) h q in
    omega arith in
    record {
      placed = placed-set index words st s t (i + 1) E.placed;
      once = E.once;
      ranged = E.ranged;
      table = rw (part-set (room_in words) (slots_for m) index t (i + 1) inside)
          (grown (hash_node m) slots (node_at s) i E.table (node_at s i) t (record { ran = R; other = other }) free (node_at s) (λ j k. refl) refl);
      within = omega arith;
    }

-- the table made anew: all slots are free, and no node is in
pub rebuilt : (index words : List ℕ) (st : Store) (s : List Node) → Rebuilding index words st s
    → Entered (put (room_in words) (slots_for st.hashes) (replicate (slots_for st.hashes) 0) index) words st s 0
unfolding slots_in
rebuilt index words st s R =
    let P = R.placed in
    let c = slots_for st.hashes in
    let zs : List ℕ = replicate c 0 in
    let l : length zs ≡ c = length-replicate c 0 in
    let fits : room_in words + c ≤ length index = omega (arith, R.ranged.most, P.enough.wide) in
    let f = few index words st s P in
    record {
      placed = record {
        enough = record { small = P.enough.small; wide = rw (length-put (room_in words) c index fits zs l) P.enough.wide };
        begins = P.begins;
        len = P.len;
        used = P.used;
        starts = λ j h. put-before (room_in words) c index fits zs l j (omega arith) ∙ P.starts j h;
      };
      once = R.once;
      ranged = R.ranged;
      table = rw (part-put (room_in words) c index fits zs l) (table_empty (hash_node st.hashes) c (node_at s));
      within = omega arith;
    }

-- ---- a node more
pub length-written : (s : List Node) (words : List ℕ) → length (pattern_words s) ≤ length words → length (written s words) ≡ length words
unfolding written
length-written s words h = length-append (pattern_words s) (drop (length (pattern_words s)) words) ∙ omega (arith, length-drop (length (pattern_words s)) words)

-- words that begin with a store's are those of the store and what stands behind them
pub begins_written : (s : List Node) (words : List ℕ) → Begins s words → words ≡ written s words
unfolding written
begins_written s words b =
    sym (take-append-drop (length (pattern_words s)) words) ∙ ap (λ (ws : List ℕ). ws ++ drop (length (pattern_words s)) words) (begins_take s words b)

pub length-key : (s : List Node) (key : List ℕ) → 0 < length key → length (pattern_words (s ++ (node_with key ∷ []))) ≡ length (pattern_words s) + 1 + length key
length-key s key h = length_more s (node_with key) ∙ omega (arith, key-args key)

-- what appending writes
pub append-words : (s : List Node) (words key : List ℕ) (u : ℕ) → Begins s words → u ≡ length (pattern_words s) → 0 < length key → u + 1 + length key ≤ length words
    → put (u + 1) (length key) key (set words u (length key - 1)) ≡ written (s ++ (node_with key ∷ [])) words
unfolding written
append-words s words key u b e h fits =
    let A : List ℕ = pattern_words s in
    let v : ℕ = length key - 1 in
    let front : take (u + 1) (set words u v) ≡ A ++ (v ∷ []) =
    ap (λ (k : ℕ). take k (set words u v)) (add-one u) ∙ take-suc-set words u v (omega arith) ∙ ap (λ (ws : List ℕ). ws ++ (v ∷ [])) (ap (λ (k : ℕ). take k words) e ∙ begins_take s words b) in
    let back : drop (length key) (drop (u + 1) (set words u v)) ≡ drop (u + 1 + length key) words =
    ap (drop (length key)) (drop-set-lt (u + 1) words u v (omega arith)) ∙ drop-drop (length key) (u + 1) words in
    let all : pattern_words (s ++ (node_with key ∷ [])) ≡ A ++ (v ∷ key) =
    words_append s (node_with key ∷ []) ∙ ap (λ (ws : List ℕ). A ++ ws) (words-one (node_with key) ∙ ap (λ (k : ℕ). k ∷ key_of (node_with key)) (key-args key) ∙ ap (λ (ws : List ℕ). v ∷ ws) (key_of_law key h)) in
    let long : length (pattern_words (s ++ (node_with key ∷ []))) ≡ u + 1 + length key = length-key s key h ∙ omega arith in
    let rest : List ℕ = drop (u + 1 + length key) words in
    ap (λ (ws : List ℕ). ws ++ (key ++ drop (length key) (drop (u + 1) (set words u v)))) front
    ∙ ap (λ (ws : List ℕ). (A ++ (v ∷ [])) ++ (key ++ ws)) back
    ∙ append_assoc A (v ∷ []) (key ++ rest)
    ∙ sym (append_assoc A (v ∷ key) rest)
    ∙ sym (ap (λ (ws : List ℕ). ws ++ rest) all)
    ∙ ap (λ (k : ℕ). pattern_words (s ++ (node_with key ∷ [])) ++ drop k words) (sym long)

pub placed-more : (index words : List ℕ) (st : Store) (s : List Node) (key : List ℕ) → Placed index words st s → 0 < length key → st.used + 1 + length key ≤ length words
    → Placed (set index st.len st.used) (written (s ++ (node_with key ∷ [])) words) (longer st (length key)) (s ++ (node_with key ∷ []))
placed-more index words st s key P some fits =
    let n = node_with key in
    let k = length-key s key some in
    let f = few index words st s P in
    let w = length-written (s ++ (n ∷ [])) words (omega (arith, P.used)) in
    let l = length-append s (n ∷ []) in
    record {
      enough = record { small = omega (arith, P.enough.small); wide = rw (w, length-set index st.len st.used) P.enough.wide };
      begins = record { rest = drop (length (pattern_words (s ++ (n ∷ [])))) words; are = unfold written in refl };
      len = omega (arith, P.len);
      used = omega (arith, P.used);
      starts = λ i h. start-at i (omega arith) (ℕ_discrete i (length s));
    }
  where
    start-at : (i : ℕ) → i < length s + 1 → Dec (i ≡ length s) → get_or (set index st.len st.used) i 0 ≡ start (s ++ (node_with key ∷ [])) i
    start-at i h (yes e) =
        let f = few index words st s P in
        let q : st.len ≡ i = omega (arith, P.len) in
        ap (λ (k : ℕ). get_or (set index k st.used) i 0) q ∙ get_or-set_same index i st.used 0 (omega (arith, P.enough.wide, f, fits, P.used, words-most s))
        ∙ P.used ∙ sym (start-last s) ∙ ap (start s) (sym e) ∙ sym (start-more s (node_with key) i (omega arith))
    start-at i h (no d) =
        get_or-set_other index st.len i st.used 0 (omega (arith, P.len)) ∙ P.starts i (omega arith) ∙ sym (start-more s (node_with key) i (omega arith))

-- ---- adding the key of a search that ended at a free slot
module _ (index words : List ℕ) (st : Store) (key : List ℕ) (t : ℕ) (A : Adding index words st key t) where
  abbrev old : List Node
  old = nodes words st

  abbrev new : List Node
  new = nodes words st ++ (node_with key ∷ [])

  abbrev slots : List ℕ
  slots = slots_in index words st.hashes

  E : Stored index words st
  E = A.stored

  P : Placed index words st old
  P = A.stored.placed

  Q : Placed (set index st.len st.used) (written new words) (longer st (length key)) new
  Q = placed-more index words st old key P A.some A.fits

  length-new : length new ≡ length old + 1
  length-new = length-append old (node_with key ∷ [])

  -- there was room for a node more
  more_few : length old + 1 ≤ room_in words
  more_few = omega (arith, A.fits, A.some, P.used, words-most old)

  same_long : length (written new words) ≡ length words
  same_long = length-written new words (omega (arith, length-key old key A.some, A.fits, P.used))

  passed : Passed slots (node_at old) (node_with key) (hash_node st.hashes (node_with key)) t
  passed = rw (key_of_law key A.some) A.passed

  table : Table (hash_node st.hashes) (set slots t (length old + 1)) (node_at new) (length old + 1)
  table =
      grown (hash_node st.hashes) slots (node_at old) (length old) E.table (node_with key) t passed A.free (node_at new)
      (λ i h. get_or-append old (node_with key ∷ []) no_node i h) (get_or_at old (node_with key) [] no_node (length old) refl)

  pub none_alike : (i : ℕ) → i < length old → node_at old i ≡ node_with key → ⊥
  none_alike = absent (hash_node st.hashes) slots (node_at old) (length old) E.table (node_with key) t passed A.free

  once : StoreOnce new
  once i j h k e = table.once i j (omega (arith, length-new)) (omega (arith, length-new)) e

  pub slot_inside : t < slots_for st.hashes
  slot_inside = omega (arith, A.passed.ran.inside, length-slots index words st old (length old) E)

  -- in that slot
  pub added_here : 2 * (st.len + 1) ≤ st.hashes → Entered (set (set index st.len st.used) (room_in words + t) (st.len + 1)) (written new words) (longer st (length key)) new (length new)
  unfolding slots_in
  added_here h =
      let r : room_in (written new words) ≡ room_in words = ap (λ (k : ℕ). k / 2) same_long in
      let q : st.len ≡ length old = P.len in
      let slots_are : part (room_in words) (slots_for st.hashes) (set (set index st.len st.used) (room_in words + t) (st.len + 1)) ≡ set slots t (length old + 1) =
      part-set (room_in words) (slots_for st.hashes) (set index st.len st.used) t (st.len + 1) slot_inside
      ∙ ap (λ (xs : List ℕ). set xs t (st.len + 1)) (part-set-before (room_in words) (slots_for st.hashes) index st.len st.used (omega (arith, more_few)))
      ∙ ap (λ (k : ℕ). set slots t (k + 1)) q in
      record {
        placed = rw r at (placed-set (set index st.len st.used) (written new words) (longer st (length key)) new t (st.len + 1) Q);
        once = once;
        ranged = record { some = E.ranged.some; half = omega (arith, length-new, P.len); most = rw r E.ranged.most };
        table = rw (r, slots_are, length-new) table;
        within = omega arith;
      }

  -- or in a larger table
  pub added_wide : (m : ℕ) → 2 * (st.len + 1) ≤ m → m ≤ 2 * room_in words + 1
      → Rebuilding (set index st.len st.used) (written new words) (record { len = st.len + 1; used = st.used + 1 + length key; hashes = m }) new
  added_wide m h k =
      let r : room_in (written new words) ≡ room_in words = ap (λ (k : ℕ). k / 2) same_long in
      record {
        placed = record { enough = Q.enough; begins = Q.begins; len = Q.len; used = Q.used; starts = Q.starts };
        once = once;
        ranged = record { some = omega arith; half = omega (arith, length-new, P.len); most = rw r k };
      }

  -- a table is larger than it must be, or there is a larger one
  pub room-left : st.len + 1 ≤ room_in words
  room-left = omega (arith, more_few, P.len)

  pub half_full : 2 * st.len ≤ st.hashes
  half_full = omega (arith, E.ranged.half, P.len)

  -- what stands in the words afterwards
  pub new-nodes : (m : ℕ) → nodes (written new words) (record { len = st.len + 1; used = st.used + 1 + length key; hashes = m }) ≡ new
  unfolding nodes
  new-nodes m =
      let e : st.len + 1 ≡ length new = omega (arith, length-new, P.len) in
      ap (λ (k : ℕ). nodes_in k (written new words)) e ∙ begins_nodes new (written new words) Q.begins

  -- what `add` makes of what `append` left
  pub more_len : (index₁ words₁ : List ℕ) (st₁ : Store) → Appended index words index₁ words₁ st key st₁ → st₁.len ≡ st.len + 1
  more_len index₁ words₁ st₁ D = ap (λ (x : Store). x.len) D.state

  pub here : (index₁ words₁ : List ℕ) (st₁ : Store) → Appended index words index₁ words₁ st key st₁ → 2 * st₁.len ≤ st.hashes → Added words (set index₁ (room_in words + t) st₁.len) words₁ st key st₁
  here index₁ words₁ st₁ D h =
      let k : 2 * (st.len + 1) ≤ st.hashes = omega (arith, more_len index₁ words₁ st₁ D) in
      rw (D.index_is, D.words_are, D.state) (record { nodes_are = new-nodes st.hashes; words_are = refl; stored = rw (new-nodes st.hashes) (added_here k) })

  pub widens : (index₁ words₁ : List ℕ) (st₁ : Store) (m : ℕ) → Appended index words index₁ words₁ st key st₁ → 2 * st₁.len ≤ m → m ≤ 2 * room_in words + 1
      → Rebuilding index₁ words₁ (record { len = st₁.len; used = st₁.used; hashes = m }) (nodes words₁ (record { len = st₁.len; used = st₁.used; hashes = m }))
  widens index₁ words₁ st₁ m D h k =
      let l : 2 * (st.len + 1) ≤ m = omega (arith, more_len index₁ words₁ st₁ D) in
      rw (D.index_is, D.words_are, D.state, new-nodes m) (added_wide m l k)

  pub wider : (index₁ index₂ words₁ : List ℕ) (st₁ : Store) (m : ℕ) → Appended index words index₁ words₁ st key st₁ → Stored index₂ words₁ (record { len = st₁.len; used = st₁.used; hashes = m })
      → Added words index₂ words₁ st key (record { len = st₁.len; used = st₁.used; hashes = m })
  wider index₁ index₂ words₁ st₁ m D S =
      record { nodes_are = rw (D.words_are, D.state) (new-nodes m); words_are = D.words_are; stored = S }

-- ---- a search
module _ (slots index words : List ℕ) (st : Store) (h : ℕ) (key : List ℕ) (S : Searching slots index words st h key) where
  pub search_ends : h + taken slots < length slots
  search_ends = rw S.slots_are (searches index words st _ _ S.stored h S.below)

  pub search_id : (t : ℕ) → t < length slots → get_or slots t 0 ≤ length (nodes words st)
  search_id t l = rw S.slots_are (S.stored.table.ids t (rw S.slots_are at l))

  pub unlike : (n : Node) (r : Bool) → r ≡ same (key_of n) key → r ≡ false → n ≡ node_with key → ⊥
  unlike n r e f q = same_false (key_of n) key (sym e ∙ f) (ap key_of q ∙ key_of_law key S.some)

  pub alike : (n : Node) (r : Bool) → r ≡ same (key_of n) key → r ≡ true → n ≡ node_with key
  alike n r e f = sym (node_of_law n) ∙ ap node_with (same_true (key_of n) key (sym e ∙ f))

-- ---- what interning answers
module _ (index words : List ℕ) (st : Store) (key : List ℕ) (E : Stored index words st) (some : 0 < length key) where
  -- the key's node is there
  pub found : (t : ℕ) → Probed (slots_in index words st.hashes) (nodes words st) (hash_of st.hashes key) key (Ok t)
      → (t < slots_for st.hashes) × (0 < get_or index (room_in words + t) 0) × ((p : Pattern) → p.0 ≡ get_or index (room_in words + t) 0 - 1 → Answer index words index words st key (Some (p, st)))
  found t F =
      let s = nodes words st in
      let e = slot_at index words st s (length s) E t (omega (arith, F.0, length-slots index words st s (length s) E)) in
      let i : ℕ = get_or index (room_in words + t) 0 - 1 in
      let l : i < length s = omega (arith, E.table.ids t F.0, F.1) in
      let q : node_at s i ≡ node_with key = rw e at F.2 in
      let r = intern-old s (node_with key) i E.once l q in
      let b = begins_written s words E.placed.begins in (
        omega (arith, F.0, length-slots index words st s (length s) E),
        omega (arith, F.1),
        (λ p k. (k ∙ sym (ap (λ (x : Placing). x.number) r), sym (ap (λ (x : Placing). x.store) r), b ∙ ap (λ (x : Placing). written x.store words) (sym r), E)),
      )

  -- it is not, and there is no room
  pub short : (t : ℕ) → Probed (slots_in index words st.hashes) (nodes words st) (hash_of st.hashes key) key (Err t) → length words < st.used + 1 + length key → Answer index words index words st key None
  short t F h =
      let s = nodes words st in
      let p : Passed (slots_in index words st.hashes) (node_at s) (node_with key) (hash_node st.hashes (node_with key)) t = rw (key_of_law key some) F.0 in
      let r = intern-new s (node_with key) (absent (hash_node st.hashes) (slots_in index words st.hashes) (node_at s) (length s) E.table (node_with key) t p F.1) in
      let k = length-key s key some in
      (rw r (omega (arith, E.placed.used)), refl, refl)

  -- it is not, and it was added
  pub added : (t : ℕ) → Adding index words st key t → (index' words' : List ℕ) (st' : Store) → Added words index' words' st key st' → (p : Pattern) → p.0 ≡ st.len → Answer index words index' words' st key (Some (p, st'))
  added t A index' words' st' D p k =
      let s = nodes words st in
      let r = intern-new s (node_with key) (none_alike index words st key t A) in
      (k ∙ E.placed.len ∙ sym (ap (λ (x : Placing). x.number) r), D.nodes_are ∙ sym (ap (λ (x : Placing). x.store) r), D.words_are ∙ ap (λ (x : Placing). written x.store words) (sym r), D.stored)

-- ---- a store without nodes
pub no_nodes : (words : List ℕ) (m : ℕ) → nodes words (record { len = 0; used = 0; hashes = m }) ≡ []
unfolding nodes nodes_in
no_nodes words m = refl

pub made-new : (index words : List ℕ) (m : ℕ) → Enough index words → 0 < m → m ≤ 2 * room_in words + 1 → Rebuilding index words (record { len = 0; used = 0; hashes = m }) (nodes words (record { len = 0; used = 0; hashes = m }))
unfolding nodes nodes_in pattern_words
made-new index words m E p h = record {
  placed = record { enough = E; begins = record { rest = words; are = refl }; len = refl; used = refl; starts = λ i l. absurd (omega arith) };
  once = λ i j l. absurd (omega arith);
  ranged = record { some = p; half = omega arith; most = h };
}
