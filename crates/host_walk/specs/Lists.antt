-- Reading a list of patterns: what the functions owe to each other, and the laws of a turn: what is left to read gives the whole.
use Rattle.std.specs.Prelude.{Result, Ok, Err}
use Rattle.std.specs.Prelude.{Some, None}
use Rattle.std.specs.Prelude.{◌≡◌, true, false, List, [], ℕ, suc, ◌+◌, ◌-◌, ◌≤◌, ◌<◌, length, get_or, take, drop}
use Rattle.std.proofs.Common.{sym, ap, ap₂, subst, ◌∙◌, arith, length-drop, drop_of_length-le, drop-drop}
use Rattle.definition.specs.Pack.{Node}
use Rattle.definition.specs.Store.{Stored as Placing, intern, pattern_words}
use Rattle.base.specs.declared.id.Pattern.{Pattern}
use Rattle.store.specs.Words.{node_with, begins_long}
use Rattle.store.specs.Stored.{nodes}
use Rattle.store.specs.declared.nodes.Store.{Store}
use Rattle.pack_tables.specs.SameTables.{Same}
use Rattle.pack_tables.specs.declared.catalog.Catalog.{Catalog}
use Rattle.term_lift.specs.Lifts.{Lifts}
use Rattle.term_lift.specs.Nodes.{laid_same}
use Rattle.term_lift.specs.declared.lift.Lifted.{Lifted}
use Rattle.term_lift.specs.Kept.{Indexed, Interns}
use Rattle.theory.specs.Copies.Terms.{Patterns}
use Rattle.host_walk.specs.Listed.{node_ahead, words_ahead, is_pattern, is_ahead, whole, broken, full, list_from, listed, patterns_none, patterns_more, words-ahead, node-ahead, few_words, all_words, list_none, list_broken, list_full, list_next}
use Rattle.host_walk.specs.declared.list.Fault.{Fault}
use Rattle.host_walk.specs.declared.list.Fault.TheVariants.{Broken, Full}

-- ---- what is owed
-- the nodes up to `at` stand in the store, and the rest of the list gives the whole
pub record Reading (from words : List ℕ) (st : Store) (at : ℕ) : Type 0 where
  pub patterns : Patterns (nodes words st)
  pub within : at ≤ length from
  pub fuel : ℕ
  pub enough : length from ≤ at + fuel
  pub left : list_from fuel (length words) (nodes words st) (drop at from) ≡ listed from (length words)

-- after a turn
abbrev pub Turned : List ℕ → List ℕ → List ℕ → List ℕ → List ℕ → Catalog → Lifted → ℕ → Result (Store × ℕ) Fault → Type 0
Turned bytes from work work' words' c l at (Ok (st, end)) = Lifts bytes work' words' c l st × Reading from words' st end × (at < end) × Same work work' c
Turned bytes from work work' words' c l at (Err Broken) = listed from (length words') ≡ broken
Turned bytes from work work' words' c l at (Err Full) = listed from (length words') ≡ full

-- and after all
abbrev pub Lists : List ℕ → List ℕ → List ℕ → List ℕ → List ℕ → Catalog → Lifted → Result Store Fault → Type 0
Lists bytes from work work' words' c l (Ok st) = Lifts bytes work' words' c l st × Patterns (nodes words' st) × (listed from (length words') ≡ whole (nodes words' st)) × Same work work' c
Lists bytes from work work' words' c l (Err Broken) = listed from (length words') ≡ broken
Lists bytes from work work' words' c l (Err Full) = listed from (length words') ≡ full

-- ---- turns
-- ahead of the first
pub begun : (from words : List ℕ) (st : Store) → nodes words st ≡ [] → Reading from words st 0
unfolding listed
begun from words st e = record { patterns = rw e patterns_none; within = omega arith; fuel = length from; enough = omega arith; left = rw e }

-- the index as interning asks for it
pub indexed : (bytes work words : List ℕ) (c : Catalog) (l : Lifted) (st : Store) → Lifts bytes work words c l st → Indexed work words l st
indexed bytes work words c l st L = record { fits = L.laid.fits; inside = L.laid.inside; index = L.laid.index }

module _ (from words : List ℕ) (st : Store) (at : ℕ) (R : Reading from words st at) where
  -- behind the last
  pub ended_there : length from ≤ at → listed from (length words) ≡ whole (nodes words st)
  ended_there h = sym R.left ∙ ap (list_from R.fuel (length words) (nodes words st)) (drop_of_length-le from h) ∙ list_none R.fuel (length words) (nodes words st)

  module _ (here : at < length from) where
    -- a word is left
    some : 0 < length (drop at from)
    some = omega (arith, length-drop at from)

    -- there is fuel for it
    left_is : list_from (suc (R.fuel - 1)) (length words) (nodes words st) (drop at from) ≡ listed from (length words)
    left_is = let e : suc (R.fuel - 1) ≡ R.fuel = omega (arith, R.enough) in ap (λ (j : ℕ). list_from j (length words) (nodes words st) (drop at from)) e ∙ R.left

    -- the words are no pattern
    turned_broken : is_ahead (length (nodes words st)) (drop at from) ≡ false → listed from (length words) ≡ broken
    turned_broken e = sym left_is ∙ list_broken (R.fuel - 1) (length words) (nodes words st) (drop at from) some e

    -- they are too few: for a count and a head, or for the arguments
    pub too_few : length from < at + 2 + get_or from at 0 → listed from (length words) ≡ broken
    too_few h = turned_broken (few_words from at (length (nodes words st)) R.within (omega (arith, words-ahead from at)))

    module _ (end : ℕ) (e : end ≡ at + 2 + get_or from at 0) (fits : end ≤ length from) where
      -- its key
      abbrev key : List ℕ
      key = take (end - (at + 1)) (drop (at + 1) from)

      -- it is a pattern if its key is one
      ahead_is : is_ahead (length (nodes words st)) (drop at from) ≡ is_pattern (length (nodes words st)) (node_with key)
      ahead_is = all_words from at (length (nodes words st)) (omega (arith, words-ahead from at)) ∙ ap (is_pattern (length (nodes words st))) (sym (node-ahead from at end e))

      -- they are against the form of a pattern
      pub no_pattern : is_pattern (length (nodes words st)) (node_with key) ≡ false → listed from (length words) ≡ broken
      no_pattern q = turned_broken (ahead_is ∙ q)

      module _ (q : is_pattern (length (nodes words st)) (node_with key) ≡ true) (bytes work work' words' : List ℕ) (c : Catalog) (l : Lifted) (L : Lifts bytes work words c l st) (long : length words' ≡ length words) where
        -- the store is full
        pub turned_full : Interns work words work' words' l st key None → listed from (length words') ≡ full
        turned_full I =
            let h : length words < length (pattern_words (intern (nodes words st) (node_ahead (drop at from))).store) = rw (← node-ahead from at end e) I.0 in
            ap (listed from) long ∙ sym left_is ∙ list_full (R.fuel - 1) (length words) (nodes words st) (drop at from) some (ahead_is ∙ q) h

        -- one node more
        pub turned_next : (p : Pattern) (st' : Store) → Interns work words work' words' l st key (Some (p, st')) → Turned bytes from work work' words' c l at (Ok (st', end))
        turned_next p st' I =
            let L' = I.0 bytes c L in
            let t : (intern (nodes words st) (node_with key)).store ≡ nodes words' st' = ap (λ (o : Placing). o.store) I.1 in
            let t' : (intern (nodes words st) (node_ahead (drop at from))).store ≡ nodes words' st' = ap (λ (m : Node). (intern (nodes words st) m).store) (sym (node-ahead from at end e)) ∙ t in
            let h : length (pattern_words (intern (nodes words st) (node_ahead (drop at from))).store) ≤ length words = omega (arith, ap (λ (s : List Node). length (pattern_words s)) t', begins_long (nodes words' st') words' L'.laid.index.placed.begins, long) in
            let d : drop (words_ahead (drop at from)) (drop at from) ≡ drop end from =
            drop-drop (words_ahead (drop at from)) at from ∙ ap (λ (k : ℕ). drop k from) (let z : at + words_ahead (drop at from) ≡ end = omega (arith, words-ahead from at, e) in z) in (
              L',
              record {
                patterns = subst Patterns t (patterns_more (nodes words st) (node_with key) R.patterns q);
                within = fits;
                fuel = R.fuel - 1;
                enough = omega (arith, R.enough, e);
                left = ap (λ (n : ℕ). list_from (R.fuel - 1) n (nodes words' st') (drop end from)) long
                    ∙ ap₂ (λ (s : List Node) (ws : List ℕ). list_from (R.fuel - 1) (length words) s ws) (sym t') (sym d)
                    ∙ sym (list_next (R.fuel - 1) (length words) (nodes words st) (drop at from) some (ahead_is ∙ q) h)
                    ∙ left_is
                    ∙ ap (listed from) (sym long);
              },
              omega (arith, e),
              laid_same bytes work words c l st L.laid work' I.3.long I.3.ahead,
            )

-- the nodes are counted
pub pattern_count : (bytes work words : List ℕ) (c : Catalog) (l : Lifted) (st : Store) → Lifts bytes work words c l st → (m : Node) → is_pattern (length (nodes words st)) m ≡ is_pattern st.len m
pattern_count bytes work words c l st L m = ap (λ (n : ℕ). is_pattern n m) (sym L.laid.index.placed.len)
