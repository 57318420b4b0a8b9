-- What the store's two slices owe to the list of its nodes, and what its functions ask and answer.
use Rattle.std.specs.Prelude.{Option, Some, None, Result, Ok, Err}
use Rattle.std.specs.Prelude.{◌≡◌, List, [], ◌∷◌, ◌++◌, ℕ, ◌+◌, ◌-◌, ◌*◌, ◌/◌, ◌≤◌, ◌<◌, length, get_or, set, drop}
use Rattle.definition.specs.Pack.{Node, no_node}
use Rattle.definition.specs.Store.{intern, pattern_words, nodes_in, nothing}
use Rattle.definition.proofs.Laws.Store.{StoreOnce}
use Rattle.base.specs.Part.{part}
use Rattle.base.specs.Probe.{Table, Passed}
use Rattle.base.specs.Hash.{hash_of}
use Rattle.store.specs.Words.{key_of, node_with, start, Begins}
use Rattle.store.specs.declared.nodes.Store.{Store}
use Rattle.base.specs.declared.id.Pattern.{Pattern}

-- the nodes that a store has
unfoldable pub nodes : List ℕ → Store → List Node
nodes words st = nodes_in st.len words

-- at most as many nodes as there are two words for
abbrev pub room_in : List ℕ → ℕ
room_in words = length words / 2

-- so many slots for hashes below m
abbrev pub slots_for : ℕ → ℕ
slots_for m = m + m / 2

-- the slots stand behind the starts
unfoldable pub slots_in : List ℕ → List ℕ → ℕ → List ℕ
slots_in index words m = part (room_in words) (slots_for m) index

abbrev pub hash_node : ℕ → Node → ℕ
hash_node m n = hash_of m (key_of n)

abbrev pub node_at : List Node → ℕ → Node
node_at s i = get_or s i no_node

-- the two slices are long enough for each other, and their numbers are words
pub record Enough (index words : List ℕ) : Type 0 where
  pub small : length words < nothing
  pub wide : 4 * room_in words + 1 ≤ length index

-- the words of the nodes, and where each starts
pub record Placed (index words : List ℕ) (st : Store) (s : List Node) : Type 0 where
  pub enough : Enough index words
  pub begins : Begins s words
  pub len : st.len ≡ length s
  pub used : st.used ≡ length (pattern_words s)
  pub starts : (i : ℕ) → i < length s → get_or index i 0 ≡ start s i

-- how many hashes there may be for n nodes
pub record Ranged (words : List ℕ) (m n : ℕ) : Type 0 where
  pub some : 0 < m
  pub half : 2 * n ≤ m
  pub most : m ≤ 2 * room_in words + 1

-- the first i nodes are in the table
pub record Entered (index words : List ℕ) (st : Store) (s : List Node) (i : ℕ) : Type 0 where
  pub placed : Placed index words st s
  pub once : StoreOnce s
  pub ranged : Ranged words st.hashes (length s)
  pub table : Table (hash_node st.hashes) (slots_in index words st.hashes) (node_at s) i
  pub within : i ≤ length s

-- all are: the slices hold the store
abbrev pub Stored : List ℕ → List ℕ → Store → Type 0
Stored index words st = Entered index words st (nodes words st) (length (nodes words st))

-- how many nodes a store has, wherever it is held, and how many words they take
abbrev pub Counts : Store → ℕ → Type 0
Counts st n = (index words : List ℕ) → Stored index words st → n ≡ length (nodes words st)

abbrev pub Spans : Store → ℕ → Type 0
Spans st n = (index words : List ℕ) → Stored index words st → n ≡ length (pattern_words (nodes words st))

-- the words with those of a store in front
unfoldable pub written : List Node → List ℕ → List ℕ
written s words = pattern_words s ++ drop (length (pattern_words s)) words

-- what `intern` answers: the definition's number and store, with its words written; or short, with nothing written, just when these
-- words are more than there are
abbrev pub Answer : List ℕ → List ℕ → List ℕ → List ℕ → Store → List ℕ → Option (Pattern × Store) → Type 0
Answer index words index' words' st key (Some (p, st')) =
    (p.0 ≡ (intern (nodes words st) (node_with key)).number)
    × (nodes words' st' ≡ (intern (nodes words st) (node_with key)).store)
    × (words' ≡ written (intern (nodes words st) (node_with key)).store words)
    × Stored index' words' st'
Answer index words index' words' st key None = (length words < length (pattern_words (intern (nodes words st) (node_with key)).store)) × (index' ≡ index) × (words' ≡ words)

-- ---- between the store's own functions
pub record Searching (slots index words : List ℕ) (st : Store) (h : ℕ) (key : List ℕ) : Type 0 where
  pub stored : Stored index words st
  pub slots_are : slots ≡ slots_in index words st.hashes
  pub hash_is : h ≡ hash_of st.hashes key
  pub below : h < st.hashes
  pub some : 0 < length key

abbrev pub Probed : List ℕ → List Node → ℕ → List ℕ → Result ℕ ℕ → Type 0
Probed slots s h key (Ok t) = (t < length slots) × (0 < get_or slots t 0) × (node_at s (get_or slots t 0 - 1) ≡ node_with key)
Probed slots s h key (Err t) = Passed slots (node_at s) (node_with key) h t × (get_or slots t 0 ≡ 0)

-- there is room for the key
pub record Fits (index words : List ℕ) (st : Store) (key : List ℕ) : Type 0 where
  pub placed : Placed index words st (nodes words st)
  pub some : 0 < length key
  pub fits : st.used + 1 + length key ≤ length words

-- a store with a node of k words more
abbrev pub longer : Store → ℕ → Store
longer st k = record { len = st.len + 1; used = st.used + 1 + k; hashes = st.hashes }

pub record Appended (index words index' words' : List ℕ) (st : Store) (key : List ℕ) (st' : Store) : Type 0 where
  pub state : st' ≡ longer st (length key)
  pub index_is : index' ≡ set index st.len st.used
  pub words_are : words' ≡ written (nodes words st ++ (node_with key ∷ [])) words

pub record Adding (index words : List ℕ) (st : Store) (key : List ℕ) (t : ℕ) : Type 0 where
  pub stored : Stored index words st
  pub some : 0 < length key
  pub fits : st.used + 1 + length key ≤ length words
  pub passed : Passed (slots_in index words st.hashes) (node_at (nodes words st)) (node_with key) (hash_of st.hashes key) t
  pub free : get_or (slots_in index words st.hashes) t 0 ≡ 0

pub record Rebuilding (index words : List ℕ) (st : Store) (s : List Node) : Type 0 where
  pub placed : Placed index words st s
  pub once : StoreOnce s
  pub ranged : Ranged words st.hashes (length s)

pub record Added (words index' words' : List ℕ) (st : Store) (key : List ℕ) (st' : Store) : Type 0 where
  pub nodes_are : nodes words' st' ≡ nodes words st ++ (node_with key ∷ [])
  pub words_are : words' ≡ written (nodes words st ++ (node_with key ∷ [])) words
  pub stored : Stored index' words' st'
