-- What a call comes to, and what it leaves in its buffers.
use Rattle.std.specs.Prelude.{true, false, List, [], ◌∷◌, ℕ, suc, leb, length, get_or, replicate}
use Rattle.std.proofs.Math.Option.{none, some}
use Rattle.definition.specs.Pack.{Node, Pack}
use Rattle.definition.specs.Frame.{fine, refuse}
use Rattle.definition.specs.Parse.{parse}
use Rattle.definition.specs.Store.{pattern_words}
use Rattle.definition.specs.Graph.{Graph, cells}
use Rattle.definition.specs.Analysis.{Resolved, resolve}
use Rattle.definition.specs.Answer.{Lent, answer_of, padded}
use Rattle.definition.specs.declared.Refusal.{Refusal}
use Rattle.dock_call.specs.Opening.{opening_refusal}
use Rattle.host_walk.specs.declared.answer.Walked.{Walked}

-- a pattern of a store, with so many variables numbered, of a graph of so many cells; or a refusal's number and place
pub data Came : Type 0 where
  done : ℕ → List Node → ℕ → ℕ → Came
  refused : ℕ → ℕ → Came

-- a refusal by the table of all calls
abbrev pub refusal : Refusal → Came
refusal r = refused (answer_of r).code (answer_of r).place

-- a call's answer and its three buffers
pub record Left : Type 0 where
  pub answer : Walked
  pub patterns : List ℕ
  pub cells : List ℕ
  pub work : List ℕ

-- what a call says
unfoldable pub said : Came → Walked
said (done p s numbered n) = record { code = 0; at = p; numbered = numbered; cells = n }
said (refused code place) = record { code = code; at = place; numbered = 0; cells = 0 }

-- the store's words and zeros behind them; a refusal's are none
unfoldable pub words_left : Came → ℕ → List ℕ
unfolding padded pattern_words
words_left (done p s numbered n) room = padded room (pattern_words s)
words_left (refused code place) room = replicate room 0

-- what it leaves: zeros all over the cells and work
unfoldable pub leaves : Came → ℕ → ℕ → ℕ → Left
unfolding said words_left
leaves came patterns cells work = record { answer = said came; patterns = words_left came patterns; cells = replicate cells 0; work = replicate work 0 }

-- the lengths lent to a call, by those of the pack, the patterns, the cells and work
abbrev pub lent_to : ℕ → ℕ → ℕ → ℕ → Lent
lent_to pack patterns cells work = record { pack = pack; class = 0; pattern = patterns; graph = cells; work = work; text = 0; goals = 0 }

-- the lengths tested and the pack read, then what is made of it
unfoldable pub opened : Lent → List ℕ → (Pack → Came) → Came
unfolding opening_refusal parse
opened l pack f =
    elim (opening_refusal l pack) [
      | some r ↦ refusal r
      | none ↦ elim (parse pack) [ refuse r ↦ refusal r | fine P ↦ f P ]
    ]

-- a pattern that was read back of a graph of so many cells, if its store has room
unfoldable pub ended : ℕ → ℕ → Resolved → Came
unfolding pattern_words
ended room n r = elim (leb (length (pattern_words r.state.store)) room) [ false ↦ refused 8 2 | true ↦ done (get_or r.patterns 0 0) r.state.store (length r.state.numbering) n ]

-- a node of a graph read back into a store, with all variables numbered
unfoldable pub read_back : Pack → Graph → ℕ → List Node → ℕ → Came
unfolding ended resolve cells
read_back P g x s room = ended room (cells g) (resolve (suc (length g)) P g [] true (x ∷ []) (record { numbering = []; store = s }))
