-- Document 01, "The answer of a call": the table, the lengths ahead of the pack, and what a call leaves in a buffer.
use Rattle.std.specs.Prelude.{◌≡◌, true, false, ◌||◌, List, [], ◌++◌, ℕ, ◌+◌, ◌*◌, ◌-◌, ◌≤◌, ltb, length, replicate}
use Rattle.std.proofs.Math.Option.{Option, none, some}
use Rattle.std.proofs.Common.{arith, length-append}
use Rattle.std.proofs.lemmas.List.{length-replicate}
use Rattle.definition.specs.declared.Refusal.{Refusal}
use Rattle.definition.specs.declared.Refusal.TheVariants.{Form, Limit, Step, Goal, Clash, Circle, Instance, Short, Sorts, Cut, Ground}
use Rattle.definition.specs.declared.Answer.{Answer}

-- the table: each refusal's number, with its place
unfoldable pub answer_of : Refusal → Answer
answer_of (Form record-offset) = record { code = 1; place = record-offset }
answer_of (Limit record-offset) = record { code = 2; place = record-offset }
answer_of (Step step) = record { code = 3; place = step }
answer_of (Goal goal) = record { code = 4; place = goal }
answer_of (Clash step) = record { code = 5; place = step }
answer_of (Circle step) = record { code = 6; place = step }
answer_of (Instance step) = record { code = 7; place = step }
answer_of (Short buffer) = record { code = 8; place = buffer }
answer_of Sorts = record { code = 9; place = 0 }
answer_of (Cut goal) = record { code = 10; place = goal }
answer_of (Ground goal) = record { code = 11; place = goal }

-- a call that is not refused returns 0 with 0
unfoldable pub answer : Option Refusal → Answer
unfolding answer_of
answer none = record { code = 0; place = 0 }
answer (some r) = answer_of r

-- the lent lengths, 0 for one not lent; buffers 1 to 6 in their order
pub record Lent : Type 0 where
  pub pack : ℕ
  pub class : ℕ
  pub pattern : ℕ
  pub graph : ℕ
  pub work : ℕ
  pub text : ℕ
  pub goals : ℕ

-- "2^24 bytes or cells a buffer, 2^30 words for work"
abbrev pub most_cells : ℕ
most_cells = 16777216

abbrev pub most_work : ℕ
most_work = 1073741824

-- "work below 16 × (pattern + graph + pack) + 1,024 words"
abbrev pub least_work : Lent → ℕ
least_work l = 16 * (l.pattern + l.graph + l.pack) + 1024

-- "Order: lengths (2), work … (8 at 4)", ahead of the pack
unfoldable pub lengths : Lent → Option Refusal
lengths l =
    elim (ltb most_cells l.pack || ltb most_cells l.class || ltb most_cells l.pattern || ltb most_cells l.graph || ltb most_work l.work || ltb most_cells l.text || ltb most_cells l.goals) [
      | true ↦ some (Limit 0)
      | false ↦ elim (ltb l.work (least_work l)) [ true ↦ some (Short 4) | false ↦ none ]
    ]

-- "holds the answer and zeros": contents in a buffer of n cells. A refusal's contents are none
unfoldable pub padded : ℕ → List ℕ → List ℕ
padded n xs = xs ++ replicate (n - length xs) 0

pub length-padded : (n : ℕ) (xs : List ℕ) → length xs ≤ n → length (padded n xs) ≡ n
unfolding padded
length-padded n xs h = let k = length-append xs (replicate (n - length xs) 0) in let m = length-replicate {A = ℕ} (n - length xs) 0 in omega arith

pub padded-none : (n : ℕ) → padded n [] ≡ replicate n 0
unfolding padded
padded-none n = let e : n - 0 ≡ n = omega arith in rw e
