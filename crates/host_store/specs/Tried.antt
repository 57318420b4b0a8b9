-- What a call leaves: the numbers of the nodes read, the words of the store that has them, and the answer.
use Rattle.std.specs.Prelude.{Bool, true, false, ◌||◌, List, [], ◌∷◌, ℕ, ◌+◌, ◌*◌, ◌/◌, leb, ltb, length, replicate}
use Rattle.definition.specs.Pack.{Node}
use Rattle.definition.specs.Store.{intern, pattern_words, nodes_in, nothing}
use Rattle.definition.specs.Answer.{padded}
use Rattle.host_store.specs.declared.Tried.{Tried}

-- the numbers of nodes, and the store that has them
pub record All : Type 0 where
  pub numbers : List ℕ
  pub store : List Node

-- each is interned in order, on top of the store s
unfoldable pub intern_all : List Node → List Node → All
intern_all s [] = record { numbers = []; store = s }
intern_all s (n ∷ ns) =
    let r = intern s n in
    let rest = intern_all r.store ns in
    record { numbers = r.number ∷ rest.numbers; store = rest.store }

-- a call's answer and its three buffers
pub record Left : Type 0 where
  pub answer : Tried
  pub index : List ℕ
  pub words : List ℕ
  pub numbers : List ℕ

-- words and numbers in buffers of these lengths, with zeros behind them; the index is zeros
unfoldable pub leaves : ℕ → ℕ → List ℕ → List ℕ → ℕ → ℕ → ℕ → Left
leaves code nodes ws ns index words numbers = record {
  answer = record { code = code; nodes = nodes };
  index = replicate index 0;
  words = padded words ws;
  numbers = padded numbers ns;
}

-- a refusal leaves nothing
unfoldable pub refused : ℕ → ℕ → ℕ → ℕ → Left
refused code = leaves code 0 [] []

-- 2^32−1 words or more, or an index that is too short for them
unfoldable pub unfit : ℕ → ℕ → Bool
unfit index words = leb nothing words || ltb index (4 * (words / 2) + 1)

-- short when the store has more words than are lent, else done
unfoldable pub ended : All → ℕ → ℕ → ℕ → Left
unfolding leaves refused
ended r index words numbers = elim (ltb words (length (pattern_words r.store))) [
  | true ↦ refused 8 index words numbers
  | false ↦ leaves 0 (length r.store) (pattern_words r.store) r.numbers index words numbers
]

-- what a call leaves, by what it reads and the three lengths lent. At most as many nodes are read as there are places for numbers
unfoldable pub tried : List ℕ → ℕ → ℕ → ℕ → Left
unfolding unfit ended intern_all
tried from index words numbers = elim (unfit index words) [ true ↦ refused 2 index words numbers | false ↦ ended (intern_all [] (nodes_in numbers from)) index words numbers ]
