-- What the words of work say of the ground nodes that were lifted, and what lifting asks and answers.
use Rattle.std.specs.Prelude.{Option, Some, None}
use Rattle.std.specs.Prelude.{◌≡◌, List, [], ◌∷◌, map, ℕ, zero, suc, ◌+◌, ◌*◌, ◌-◌, ◌≤◌, ◌<◌, length, get_or, take}
use Rattle.definition.specs.Pack.{Pack, node_of}
use Rattle.definition.specs.Verdict.{Bound}
use Rattle.definition.specs.Tree.{tree_of}
use Rattle.definition.specs.Store.{pattern_words}
use Rattle.definition.specs.Analysis.{pairing, lift}
use Rattle.theory.specs.Walks.Machine.{Frame, frame, Walking, turn, Stacked}
use Rattle.theory.specs.Walks.WalkReady.{Sound}
use Rattle.theory.specs.Walks.Again.{stored}
use Rattle.theory.specs.Walks.Lifting.{Lifting, lifting, args_of, is_lifted, lift_node, Right, lift_made, lift_others, args_fall, args_inside}
use Rattle.base.specs.Outside.{Outside}
use Rattle.base.specs.Part.{part}
use Rattle.store.specs.Stored.{Stored, nodes, written}
use Rattle.store.specs.declared.nodes.Store.{Store}
use Rattle.pack_tables.specs.Catalog.{records_of}
use Rattle.pack_tables.specs.SameTables.{end_of}
use Rattle.pack_tables.specs.declared.catalog.Catalog.{Catalog}
use Rattle.pack_read.specs.Reads.{Reads}
use Rattle.pack_read.specs.Held.{Proper, Held, OfHeld}
use Rattle.term_lift.specs.Alike.{Alike}
use Rattle.term_lift.specs.declared.lift.Lifted.{Lifted}
use Rattle.base.specs.declared.id.Pattern.{Pattern}

-- where the walk's stack starts
abbrev pub stack_at : Lifted → ℕ
stack_at l = l.at + l.nodes

-- where the store's index starts
abbrev pub index_at : Lifted → ℕ
index_at l = l.at + 3 * l.nodes

-- the nodes' words
abbrev pub marks : List ℕ → Lifted → List ℕ
marks work l = part l.at l.nodes work

-- the store's index
abbrev pub index_in : List ℕ → Lifted → List ℕ
index_in work l = part (index_at l) (l.end - index_at l) work

-- what the words of the nodes from i on say: 0 nothing, else a pattern and one
unfoldable pub memo_from : ℕ → List ℕ → List Bound
memo_from i [] = []
memo_from i (zero ∷ ws) = memo_from (suc i) ws
memo_from i (suc p ∷ ws) = pairing i p ∷ memo_from (suc i) ws

-- the store, and what the nodes were lifted to
unfoldable pub lifted_in : List ℕ → List ℕ → Lifted → Store → Lifting
unfolding nodes memo_from
lifted_in work words l st = lifting (nodes words st) (memo_from 0 (marks work l))

-- the tables hold a pack, and behind them stand the nodes' words, the stack and the store's index
pub record Laid (bytes work words : List ℕ) (c : Catalog) (l : Lifted) (st : Store) : Type 0 where
  pub held : Held bytes work c
  pub behind : end_of c ≤ l.at
  pub many : l.nodes ≡ length (records_of work c 3)
  pub fits : index_at l ≤ l.end
  pub inside : l.end ≤ length work
  pub index : Stored (index_in work l) words st

-- and each lifted node stands in the store: to lift it again changes nothing
pub record Lifts (bytes work words : List ℕ) (c : Catalog) (l : Lifted) (st : Store) : Type 0 where
  pub laid : Laid bytes work words c l st
  pub right : OfHeld bytes work c (λ P. Right P (lifted_in work words l st))

-- the words ahead of lifting's tables are as they were, and those behind
abbrev pub Apart : List ℕ → List ℕ → Lifted → Type 0
Apart work work' l = Outside l.at l.end work work'

-- what `clear` answers: whatever the tables hold, nothing is lifted
pub record Clears (work work' : List ℕ) (l : Lifted) : Type 0 where
  pub frame : Outside l.at (stack_at l) work work'
  pub lifts : (bytes words : List ℕ) (c : Catalog) (st : Store) → Laid bytes work words c l st → Lifts bytes work' words c l st

-- what `lift` answers: the definition's number and store, with its words written; or short, when these words are more than there are
abbrev pub Answers : List ℕ → List ℕ → List ℕ → List ℕ → List ℕ → Catalog → Lifted → Store → ℕ → Option (Pattern × Store) → Type 0
Answers bytes work words work' words' c l st n (Some (p, st')) =
    Lifts bytes work' words' c l st'
    × OfHeld bytes work c (λ P. lift (tree_of P n) (nodes words st) ≡ stored p.0 (nodes words' st'))
    × (words' ≡ written (nodes words' st') words)
    × Apart work work' l
Answers bytes work words work' words' c l st n None =
    OfHeld bytes work c (λ P. length words < length (pattern_words (lift (tree_of P n) (nodes words st)).store))
    × Apart work work' l

-- ---- between the crate's own functions
-- a node whose arguments are all lifted
pub record Ripe (bytes work : List ℕ) (c : Catalog) (l : Lifted) (n : ℕ) : Type 0 where
  pub held : Held bytes work c
  pub many : l.nodes ≡ length (records_of work c 3)
  pub inside : stack_at l ≤ length work
  pub given : n < l.nodes
  pub ripe : OfHeld bytes work c (λ P. (j : ℕ) → j < length (args_of P n) → 0 < get_or work (l.at + get_or (args_of P n) j 0) 0)

-- what a node's word says, less one
abbrev pub pattern_in : List ℕ → Lifted → ℕ → ℕ
pattern_in work l a = get_or work (l.at + a) 0 - 1

-- the first k words are the node's key
pub record Keyed (bytes work : List ℕ) (c : Catalog) (l : Lifted) (n : ℕ) (key : List ℕ) (k : ℕ) : Type 0 where
  pub some : 0 < k
  pub few : k ≤ 17
  pub words : OfHeld bytes work c (λ P. take k key ≡ (node_of P n).head ∷ map (pattern_in work l) (args_of P n))

-- the stack is as it was
abbrev pub StackKept : List ℕ → List ℕ → Lifted → Type 0
StackKept work work' l = (i : ℕ) → stack_at l ≤ i → i < index_at l → get_or work' i 0 ≡ get_or work i 0

-- what `finish` answers: the state with the node lifted, as far as the memo's order goes; or short
abbrev pub Finishes : List ℕ → List ℕ → List ℕ → List ℕ → List ℕ → Catalog → Lifted → Store → ℕ → Option (Pattern × Store) → Type 0
Finishes bytes work words work' words' c l st n (Some (p, st')) =
    Laid bytes work' words' c l st'
    × Apart work work' l
    × StackKept work work' l
    × (words' ≡ written (nodes words' st') words)
    × OfHeld bytes work c (λ P. Alike (lifted_in work' words' l st') (lift_node P n (lifted_in work words l st)))
Finishes bytes work words work' words' c l st n None =
    Apart work work' l
    × OfHeld bytes work c (λ P. length words < length (pattern_words (lift_node P n (lifted_in work words l st)).store))

-- the frames on the stack from a, the last one first
unfoldable pub frames_in : List ℕ → ℕ → ℕ → List Frame
frames_in work a zero = []
frames_in work a (suc k) = frame (get_or work (a + 2 * k) 0) (get_or work (a + 2 * k + 1) 0) ∷ frames_in work a k

-- a stack as the walk of nodes of such a pack has it
pub record Going (P : Pack) (p : Proper P) (d : ℕ) (fs : List Frame) (s : Lifting) : Type 0 where
  pub stacked : Stacked (args_of P) is_lifted (lift_node P) (λ n. n) (args_fall P p.good) 0 d fs
  pub sound : Sound (args_of P) is_lifted (lift_node P) (lift_made P) (lift_others P) (λ n. n) (args_fall P p.good) (length P.nodes) (args_inside P p.good) s fs

-- so many frames on the stack, in the midst of a walk
pub record Running (bytes work words : List ℕ) (c : Catalog) (l : Lifted) (st : Store) (top : ℕ) : Type 0 where
  pub lifts : Lifts bytes work words c l st
  pub goes : (P : Pack) → Reads bytes (records_of work c) P → (p : Proper P) → Going P p l.nodes (frames_in work (stack_at l) top) (lifted_in work words l st)

-- the machine after one turn on the frame above `top` others
unfoldable pub turn_in : Pack → List ℕ → List ℕ → Lifted → Store → ℕ → Walking Lifting
unfolding turn is_lifted lift_node frames_in lifted_in
turn_in P work words l st top = turn (args_of P) is_lifted (lift_node P) (frames_in work (stack_at l) (suc top)) (lifted_in work words l st)

-- what `advance` answers: the machine's stack and state after the turn; or short
abbrev pub Advances : List ℕ → List ℕ → List ℕ → List ℕ → List ℕ → Catalog → Lifted → Store → ℕ → Option (ℕ × Store) → Type 0
Advances bytes work words work' words' c l st top (Some (k, st')) =
    Laid bytes work' words' c l st'
    × Apart work work' l
    × (words' ≡ written (nodes words' st') words)
    × OfHeld bytes work c (λ P. (frames_in work' (stack_at l) k ≡ (turn_in P work words l st top).stack) × Alike (lifted_in work' words' l st') (turn_in P work words l st top).state)
Advances bytes work words work' words' c l st top None =
    Apart work work' l
    × OfHeld bytes work c (λ P. length words < length (pattern_words (turn_in P work words l st top).state.store))
