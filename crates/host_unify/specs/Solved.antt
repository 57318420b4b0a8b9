-- What a call leaves: the nodes that the words stand for, what unification makes of them, and the answer.
use Rattle.std.specs.Prelude.{Bool, true, false, ◌||◌, List, [], ◌∷◌, map, ℕ, zero, suc, ◌+◌, ◌*◌, eqb, leb, ltb, length, get_or, take, drop, replicate}
use Rattle.std.proofs.Math.Option.{none, some}
use Rattle.definition.specs.Test.{◌and◌, all}
use Rattle.definition.specs.Store.{variable_head}
use Rattle.definition.specs.Graph.{Vertex, Graph, variable_vertex, applied, push, cells, root, Unified, unify, up_to, circular}
use Rattle.definition.specs.Answer.{padded}
use Rattle.graph.specs.Cells.{mark_in}
use Rattle.host_unify.specs.declared.Unification.{Unification}

-- ---- reading
-- so many words the node ahead takes: a variable is the word for one, a sort and two marks, flexible and rigid; an application is a head, a number of arguments and these
unfoldable pub words_of : List ℕ → ℕ
words_of ws = elim (eqb (get_or ws 0 0) variable_head) [ true ↦ 4 | false ↦ 2 + get_or ws 1 0 ]

-- the node ahead
unfoldable pub node_of : List ℕ → Vertex
node_of ws = elim (eqb (get_or ws 0 0) variable_head) [
  | true ↦ variable_vertex (get_or ws 1 0) (mark_in (get_or ws 2 0)) (mark_in (get_or ws 3 0))
  | false ↦ applied (get_or ws 0 0) (take (get_or ws 1 0) (drop 2 ws))
]

-- the arguments are among n earlier nodes
unfoldable pub earlier : ℕ → List ℕ → Bool
unfolding all
earlier n args = all (λ a. ltb a n) args

-- the words ahead are a node behind n others
unfoldable pub is_node : ℕ → List ℕ → Bool
unfolding words_of node_of earlier ◌and◌
is_node n ws = leb (words_of ws) (length ws) and earlier n (node_of ws).args

-- all nodes, or that words are none, or that nodes need more cells than are lent, by whichever comes first
pub data Listed : Type 0 where
  whole : Graph → Listed
  broken : Listed
  full : Listed

-- at most k nodes are read behind those of g, into so many cells
unfoldable pub read_nodes : ℕ → ℕ → Graph → List ℕ → Listed
unfolding is_node words_of node_of push cells
read_nodes zero room g ws = whole g
read_nodes (suc k) room g [] = whole g
read_nodes (suc k) room g (w ∷ ws) =
    elim (is_node (length g) (w ∷ ws)) [
      | false ↦ broken
      | true ↦
          let h = (push g (node_of (w ∷ ws))).graph in
          elim (leb (cells h) room) [ false ↦ full | true ↦ read_nodes k room h (drop (words_of (w ∷ ws)) (w ∷ ws)) ]
    ]

-- all that the words hold: each node takes a word or more, so there are no more turns than words
unfoldable pub listed : List ℕ → ℕ → Listed
unfolding read_nodes
listed terms room = read_nodes (length terms) room [] terms

-- ---- answering
-- an answer, and the roots
pub record Told : Type 0 where
  pub answer : Unification
  pub roots : List ℕ

-- in a buffer for so many roots, with zeros behind them
unfoldable pub tells : ℕ → ℕ → ℕ → List ℕ → ℕ → Told
unfolding padded
tells code taken circular rs n = record { answer = record { code = code; taken = taken; circular = circular }; roots = padded n rs }

-- a refusal tells no more than its code
unfoldable pub refused : ℕ → ℕ → Told
unfolding tells
refused code n = tells code 0 0 [] n

-- the roots of the first n nodes
unfoldable pub roots_to : Graph → ℕ → List ℕ
unfolding root up_to
roots_to g n = map (root g) (up_to n)

-- whether, as a number
abbrev pub bit : Bool → ℕ
bit true = 1
bit false = 0

-- how far a call goes: at 0 nothing is unified
unfoldable pub unified_at : ℕ → Graph → ℕ → ℕ → Unified
unfolding unify
unified_at stage g x y = elim (eqb stage 0) [ true ↦ record { graph = some g; taken = 0 } | false ↦ unify g x y ]

-- from 2 on what is joined is tested for circles and its roots are told
unfoldable pub joined_at : ℕ → ℕ → Graph → ℕ → Told
unfolding tells circular roots_to
joined_at stage taken h n = elim (leb 2 stage) [ true ↦ tells 0 taken (bit (circular h)) (roots_to h (length h)) n | false ↦ tells 0 taken 0 [] n ]

-- joined, or a clash
unfoldable pub ended : ℕ → Unified → ℕ → Told
unfolding tells joined_at
ended stage u n = elim u.graph [ none ↦ tells 1 u.taken 0 [] n | some h ↦ joined_at stage u.taken h n ]

-- both must be nodes, and there must be a place for each root
unfoldable pub asked : Graph → ℕ → ℕ → ℕ → ℕ → Told
unfolding refused ended unified_at ◌and◌
asked g x y stage n =
    elim (ltb x (length g) and ltb y (length g)) [
      | false ↦ refused 2 n
      | true ↦ elim (leb (length g) n) [ false ↦ refused 3 n | true ↦ ended stage (unified_at stage g x y) n ]
    ]

-- 2^24 cells or more, or fewer words of work than the table, the pairs and the colours of as many nodes take
unfoldable pub unfit : ℕ → ℕ → Bool
unfit cells work = leb 16777216 cells || ltb work (8 * cells + 7)

-- the same of whatever the list holds
unfoldable pub asked_of : Listed → ℕ → ℕ → ℕ → ℕ → Told
unfolding refused asked
asked_of (whole g) x y stage n = asked g x y stage n
asked_of broken x y stage n = refused 2 n
asked_of full x y stage n = refused 3 n

-- what a call says: lengths are tested first, then the list is read, then the two nodes are looked for
unfoldable pub solved : List ℕ → ℕ → ℕ → ℕ → ℕ → ℕ → ℕ → Told
unfolding unfit refused listed asked_of
solved terms x y stage roots cells work = elim (unfit cells work) [ true ↦ refused 3 roots | false ↦ asked_of (listed terms cells) x y stage roots ]

-- a call's answer and its three buffers
pub record Left : Type 0 where
  pub answer : Unification
  pub roots : List ℕ
  pub cells : List ℕ
  pub work : List ℕ

-- what a call leaves, by what it reads and the three lengths lent
unfoldable pub leaves : List ℕ → ℕ → ℕ → ℕ → ℕ → ℕ → ℕ → Left
unfolding solved
leaves terms x y stage roots cells work =
    let t = solved terms x y stage roots cells work in
    record { answer = t.answer; roots = t.roots; cells = replicate cells 0; work = replicate work 0 }
