-- What is asked and answered for a turn, by what the test has at hand.
use Rattle.std.specs.Prelude.{Option}
use Rattle.std.specs.Prelude.{List, ℕ}
use Rattle.term_instance.specs.declared.tables.Test.{Test}
use Rattle.term_instance.specs.Meets.{Takes, Applied, Bare}
use Rattle.term_instance.specs.Takes.{Ready, TakesPair}

-- `meet`: an application with its head
abbrev pub AppliedAt : (bytes work words : List ℕ) (s : Test) (top p n head : ℕ) → Type 0
AppliedAt bytes work words s top p n head = Applied bytes work words s.catalog s.tables s.store s.seen s.values top p n head

-- `descend`: one that was not seen
abbrev pub BareAt : (bytes work words : List ℕ) (s : Test) (top p n head : ℕ) → Type 0
BareAt bytes work words s top p n head = Bare bytes work words s.catalog s.tables s.store s.seen s.values top p n head

-- both answer what the turn gives
abbrev pub TakesAt : (bytes work work' words : List ℕ) (s : Test) (top p n : ℕ) → Option ℕ → Type 0
TakesAt bytes work work' words s top p n t = Takes bytes work work' words s.catalog s.tables s.store s.seen s.values top p n t

-- `take_pair`: a pair behind so many others
abbrev pub ReadyAt : (bytes work words : List ℕ) (s : Test) (top : ℕ) → Type 0
ReadyAt bytes work words s top = Ready bytes work words s.catalog s.tables s.store s.seen s.values top

-- it answers what the turn on it gives
abbrev pub TakesPairAt : (bytes work work' words : List ℕ) (s : Test) (top : ℕ) → Option ℕ → Type 0
TakesPairAt bytes work work' words s top t = TakesPair bytes work work' words s.catalog s.tables s.store s.seen s.values top t
