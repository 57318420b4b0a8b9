-- What is asked and answered, by what reading back has at hand.
use Rattle.std.specs.Prelude.{Option}
use Rattle.std.specs.Prelude.{List, ℕ}
use Rattle.definition.specs.Graph.{Graph}
use Rattle.store.specs.declared.nodes.Store.{Store}
use Rattle.term_readback.specs.declared.table.Reading.{Reading}
use Rattle.term_readback.specs.Words.{Ready}
use Rattle.term_readback.specs.Roots.{Opening, Gives, Notes}
use Rattle.term_readback.specs.Stacks.{Turning, Advances, Answers}
use Rattle.base.specs.declared.id.Pattern.{Pattern}

-- ---- `read_variable`, `read_either` and `read_root`: one root whose arguments' roots were read back
abbrev pub OpeningAt : (bytes work words cells : List ℕ) (s : Reading) (st : Store) (n x : ℕ) (Q : Graph → Type 0) → Type 0
OpeningAt bytes work words cells s st n x Q = Opening bytes work words cells s.catalog s.lifted s.table st s.graph n s.everyone x Q

-- what the first two answer: it is read back but for its pattern's word
abbrev pub GivesAt : (bytes work words work' words' cells : List ℕ) (s : Reading) (st : Store) (n x : ℕ) (Q : Graph → Type 0) → Option (Pattern × Store × ℕ) → Type 0
GivesAt bytes work words work' words' cells s st n x Q r = Gives bytes work words work' words' cells s.catalog s.lifted s.table st s.graph n s.everyone x Q r

-- what the last answers: with it
abbrev pub NotesAt : (bytes work words work' words' cells : List ℕ) (s : Reading) (st : Store) (n x : ℕ) → Option (Pattern × Store × ℕ) → Type 0
NotesAt bytes work words work' words' cells s st n x r = Notes bytes work words work' words' cells s.catalog s.lifted s.table st s.graph n s.everyone x r

-- ---- `advance`: one frame above so many others
abbrev pub TurningAt : (bytes work words cells : List ℕ) (s : Reading) (st : Store) (n top : ℕ) → Type 0
TurningAt bytes work words cells s st n top = Turning bytes work words cells s.catalog s.lifted s.table st s.graph n s.everyone top

-- what it answers
abbrev pub AdvancesAt : (bytes work words work' words' cells : List ℕ) (s : Reading) (st : Store) (n top : ℕ) → Option (ℕ × Store × ℕ) → Type 0
AdvancesAt bytes work words work' words' cells s st n top r = Advances bytes work words work' words' cells s.catalog s.lifted s.table st s.graph n s.everyone top r

-- ---- `resolve`: a graph, values and what was read back
abbrev pub ReadyAt : (bytes work words cells : List ℕ) (s : Reading) (st : Store) (n : ℕ) → Type 0
ReadyAt bytes work words cells s st n = Ready bytes work words cells s.catalog s.lifted s.table st s.graph n s.everyone

-- what it answers
abbrev pub AnswersAt : (bytes work words work' words' cells : List ℕ) (s : Reading) (st : Store) (n x : ℕ) → Option (Pattern × Store × ℕ) → Type 0
AnswersAt bytes work words work' words' cells s st n x r = Answers bytes work words work' words' cells s.catalog s.lifted s.table st s.graph n s.everyone x r
