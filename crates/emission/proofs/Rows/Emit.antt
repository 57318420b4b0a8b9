-- Emission's small packs.
use Rattle.std.specs.Prelude.{refl, List, [], ◌∷◌, replicate}
use Rattle.definition.specs.Ascii.{bytes}
use Rattle.definition.specs.Rows.Packs.{example}
use Rattle.emission.specs.Rows.Row.{Row, generated, emitted, emits, worked, left, cleared, ample, Claim, Holds, seen, said}
use Rattle.emission.specs.Rows.Packs.{goal_on_cut, two_heads, heads_above, failed_candidate, pinned, outputs, trees, two_sorts, twice_under, two_goals}

-- the empty pack through certgen
abbrev empty_generated : Row
empty_generated = generated [] (bytes "--\n(var L )\n")

empty_generated_holds : Claim empty_generated
unfolding seen said
empty_generated_holds = refl

-- document 01's worked example through certgen
abbrev example_generated : Row
example_generated = generated example (bytes "(step 0 nz () (nat z))\n(var L0 Nat)\n(hyp 1 (nat L0))\n(def ?d0 (s L0))\n(step 2 ns (1) (nat ?d0))\n(induct 3 L (nat L) ((0) (2 L0)))\n(def ?d1 (s L))\n(step 4 pos (3) (pos ?d1))\n(result g 4)\n--\n(var L Nat)\n(goal g (pos (s L)))\n")

example_generated_holds : Claim example_generated
unfolding seen said
example_generated_holds = refl

-- "`2 0` for a longer input"
abbrev long_generated : Row
long_generated = generated (replicate 513 0) (bytes "2 0\n")

long_generated_holds : Claim long_generated
unfolding seen said
long_generated_holds = refl

-- a refusal is a line
abbrev cut_generated : Row
cut_generated = generated goal_on_cut (bytes "10 0\n")

cut_generated_holds : Claim cut_generated
unfolding seen said
cut_generated_holds = refl

-- "Empty pack: no class, no proof lines, goal text `(var L )`", and L's pattern
abbrev empty_left : Row
empty_left = left [] 0 (0 ∷ 0 ∷ 0 ∷ 0 ∷ 0 ∷ []) (0 ∷ 0 ∷ 0 ∷ 0 ∷ 0 ∷ 0 ∷ 0 ∷ 0 ∷ 0 ∷ 0 ∷ 0 ∷ 0 ∷ 0 ∷ []) [] (2 ∷ 4294967294 ∷ 1073741823 ∷ 0 ∷ []) [] (bytes "(var L )\n")

empty-left_holds : Claim empty_left
unfolding seen said
empty-left_holds = refl

-- "2 steps, 2 classes, 6 ground and 4 pattern nodes, 1 class and flex variable, 1 entry, 1 renaming", and all that emission leaves
abbrev example-left : Row
example-left = left example 12 (1 ∷ 0 ∷ 5 ∷ 1 ∷ 2 ∷ []) (2 ∷ 2 ∷ 6 ∷ 4 ∷ 1 ∷ 1 ∷ 0 ∷ 1 ∷ 1 ∷ 2 ∷ 0 ∷ 0 ∷ 0 ∷ [])
    (4294967295 ∷ 0 ∷ 1 ∷ 1 ∷ 1 ∷ 1 ∷ 1 ∷ 3 ∷ 1 ∷ 1 ∷ 1 ∷ [])
    (2 ∷ 4294967294 ∷ 0 ∷ 0 ∷ 1 ∷ 2 ∷ 0 ∷ 1 ∷ 1 ∷ 0 ∷ 1 ∷ 3 ∷ 2 ∷ 2 ∷ 4294967294 ∷ 1073741823 ∷ 0 ∷ 1 ∷ 1 ∷ 4 ∷ 1 ∷ 3 ∷ 5 ∷ 1 ∷ 2 ∷ 4 ∷ 0 ∷ 0 ∷ 1 ∷ 2 ∷ 8 ∷ 2 ∷ 4294967294 ∷ 2147483647 ∷ 0 ∷ 1 ∷ 1 ∷ 10 ∷ 1 ∷ 2 ∷ 10 ∷ 1 ∷ 2 ∷ 11 ∷ [])
    (bytes "(step 0 nz () (nat z))\n(var L0 Nat)\n(hyp 1 (nat L0))\n(def ?d0 (s L0))\n(step 2 ns (1) (nat ?d0))\n(induct 3 L (nat L) ((0) (2 L0)))\n(def ?d1 (s L))\n(step 4 pos (3) (pos ?d1))\n(result g 4)\n")
    (bytes "(var L Nat)\n(goal g (pos (s L)))\n")

example-left_holds : Claim example-left
unfolding seen said
example-left_holds = refl

-- one class word less
abbrev class_short : Row
class_short = emits example (record { class = 10; pattern = 44; graph = 12; proof = 186; goals = 33 }) 8 1

class_short_holds : Claim class_short
unfolding seen said
class_short_holds = refl

-- one pattern word less
abbrev pattern_short : Row
pattern_short = emits example (record { class = 11; pattern = 43; graph = 12; proof = 186; goals = 33 }) 8 2

pattern_short_holds : Claim pattern_short
unfolding seen said
pattern_short_holds = refl

-- 11 cells, which are enough for class building
abbrev graph_short : Row
graph_short = emits example (record { class = 11; pattern = 44; graph = 11; proof = 186; goals = 33 }) 8 3

graph_short_holds : Claim graph_short
unfolding seen said
graph_short_holds = refl

-- one word of work less
abbrev work_short : Row
work_short = worked example (record { class = 11; pattern = 44; graph = 12; proof = 186; goals = 33 }) 7231 8 4

work_short_holds : Claim work_short
unfolding seen said
work_short_holds = refl

-- one byte of the proof less
abbrev proof_short : Row
proof_short = emits example (record { class = 11; pattern = 44; graph = 12; proof = 185; goals = 33 }) 8 5

proof_short_holds : Claim proof_short
unfolding seen said
proof_short_holds = refl

-- one byte of the goal text less
abbrev goals_short : Row
goals_short = emits example (record { class = 11; pattern = 44; graph = 12; proof = 186; goals = 32 }) 8 6

goals_short_holds : Claim goals_short
unfolding seen said
goals_short_holds = refl

-- a length over its limit, ahead of everything
abbrev over_a_limit : Row
over_a_limit = worked example (record { class = 16777217; pattern = 44; graph = 12; proof = 186; goals = 33 }) 0 2 0

over_a_limit_holds : Claim over_a_limit
unfolding seen said
over_a_limit_holds = refl

-- the goal line is written ahead of the result lines
abbrev goal-line-ahead : Row
goal-line-ahead = emits example (record { class = 11; pattern = 44; graph = 12; proof = 185; goals = 32 }) 8 6

goal-line-ahead_holds : Claim goal-line-ahead
unfolding seen said
goal-line-ahead_holds = refl

-- a step line is written ahead of the goal line
abbrev step-line-ahead : Row
step-line-ahead = emits example (record { class = 11; pattern = 44; graph = 12; proof = 172; goals = 32 }) 8 5

step-line-ahead_holds : Claim step-line-ahead
unfolding seen said
step-line-ahead_holds = refl

-- L's pattern is made ahead of its var line
abbrev L_ahead : Row
L_ahead = emits example (record { class = 11; pattern = 16; graph = 12; proof = 186; goals = 11 }) 8 2

L_ahead_holds : Claim L_ahead
unfolding seen said
L_ahead_holds = refl

-- the var line of L is written ahead of the first graph
abbrev var_line-ahead : Row
var_line-ahead = emits example (record { class = 11; pattern = 44; graph = 11; proof = 186; goals = 11 }) 8 6

var_line-ahead_holds : Claim var_line-ahead
unfolding seen said
var_line-ahead_holds = refl

-- a refusal on the way leaves zeros only
abbrev refused-cleared : Row
refused-cleared = cleared example (record { class = 11; pattern = 44; graph = 12; proof = 185; goals = 33 }) 7232

refused-cleared_holds : Claim refused-cleared
unfolding seen said
refused-cleared_holds = refl

-- and so does one ahead of the run
abbrev refused_early_cleared : Row
refused_early_cleared = cleared example (record { class = 11; pattern = 44; graph = 12; proof = 186; goals = 33 }) 7231

refused_early_cleared_holds : Claim refused_early_cleared
unfolding seen said
refused_early_cleared_holds = refl

-- "Goal on nat in the example: emit 10"
abbrev goal_on_cut_law : Row
goal_on_cut_law = emits goal_on_cut ample 10 0

goal_on_cut_holds : Claim goal_on_cut_law
unfolding seen said
goal_on_cut_holds = refl

-- 10 ahead of emission's first write: only class building's words have room
abbrev cut-ahead_of_writes : Row
cut-ahead_of_writes = emits goal_on_cut (record { class = 6; pattern = 7; graph = 10; proof = 0; goals = 0 }) 10 0

cut-ahead_of_writes_holds : Claim cut-ahead_of_writes
unfolding seen said
cut-ahead_of_writes_holds = refl

-- 9 ahead of 10, and of goals behind
abbrev sorts-ahead_of_cut : Row
sorts-ahead_of_cut = emits two_sorts ample 9 0

sorts-ahead_of_cut_holds : Claim sorts-ahead_of_cut
unfolding seen said
sorts-ahead_of_cut_holds = refl

-- a node met with another head: the run goes on, where the Rust panics; nothing that could be bound lies below it here
abbrev two_heads_law : Row
two_heads_law = emitted two_heads (bytes "(def ?d0 (s z))\n(step 0 free () (a ?d0 ?d0))\n(step 1 step (0) (c z))\n(result g 1)\n") (bytes "(var L Nat)\n(goal g (c z))\n") (0 ∷ 1 ∷ 2 ∷ 0 ∷ 1 ∷ [])

two_heads_holds : Claim two_heads_law
unfolding seen said
two_heads_holds = refl

-- "a node met with another head binds nothing below it": V stays unbound, so not even the ground attempt has its lines
abbrev heads_above_law : Row
heads_above_law = emits heads_above ample 11 0

heads_above_holds : Claim heads_above_law
unfolding seen said
heads_above_holds = refl

-- lines of the failed candidate stay: steps 0 and 1
abbrev failed_candidate_law : Row
failed_candidate_law = emitted failed_candidate (bytes "(step 0 snd () (snd z z z))\n(var L0 Nat)\n(hyp 1 (snd L0 z L0))\n(step 2 snd () (snd L z z))\n(step 3 nz () (nat z))\n(var L1 Nat)\n(hyp 4 (nat L1))\n(def ?d0 (s L1))\n(step 5 ns (4) (nat ?d0))\n(induct 6 L (nat L) ((3) (5 L1)))\n(step 7 q (6 2) (q L))\n(result g 7)\n") (bytes "(var L Nat)\n(goal g (q L))\n") (1 ∷ 0 ∷ 8 ∷ 1 ∷ 1 ∷ [])

failed_candidate_holds : Claim failed_candidate_law
unfolding seen said
failed_candidate_holds = refl

-- the ground attempt begins where the open one began
abbrev pinned_ground : Row
pinned_ground = emitted pinned (bytes "(step 0 nz () (nat z))\n(def ?d0 (s z))\n(step 1 ns (0) (nat ?d0))\n(step 2 p (0) (pos ?d0))\n(step 3 q (1 2) (q ?d0))\n(result g 3)\n") (bytes "(var L Nat)\n(goal g (q (s z)))\n") (0 ∷ 1 ∷ 4 ∷ 0 ∷ 1 ∷ [])

pinned_ground_holds : Claim pinned_ground
unfolding seen said
pinned_ground_holds = refl

-- the undone attempt wrote 130 bytes, two more than the text that is left
abbrev undone_enough : Row
undone_enough = emits pinned (record { class = 1000; pattern = 1000; graph = 1000; proof = 130; goals = 1000 }) 0 0

undone_enough_holds : Claim undone_enough
unfolding seen said
undone_enough_holds = refl

-- so 129 are short
abbrev undone_short : Row
undone_short = emits pinned (record { class = 1000; pattern = 1000; graph = 1000; proof = 129; goals = 1000 }) 8 5

undone_short_holds : Claim undone_short
unfolding seen said
undone_short_holds = refl

-- an output takes the first candidate that proves
abbrev output_chosen : Row
output_chosen = emitted outputs (bytes "(step 0 mz () (max z z z))\n(var L0 Nat)\n(hyp 1 (max L0 z L0))\n(def ?d0 (s L0))\n(step 2 mx () (max ?d0 z ?d0))\n(induct 3 L (max L z L) ((0) (2 L0)))\n(step 4 nz () (nat z))\n(var L1 Nat)\n(hyp 5 (nat L1))\n(def ?d1 (s L1))\n(step 6 ns (5) (nat ?d1))\n(induct 7 L (nat L) ((4) (6 L1)))\n(step 8 q (7 3) (q L))\n(result g 8)\n") (bytes "(var L Nat)\n(goal g (q L))\n") (1 ∷ 0 ∷ 9 ∷ 2 ∷ 2 ∷ [])

output_chosen_holds : Claim output_chosen
unfolding seen said
output_chosen_holds = refl

-- a case for each constructor, a hypothesis for each argument of L's sort
abbrev three_cases : Row
three_cases = emitted trees (bytes "(step 0 tl () (t leaf))\n(var L0 E)\n(def ?d0 (tip L0))\n(step 1 tt () (t ?d0))\n(var L1 T)\n(var L2 E)\n(var L3 T)\n(hyp 2 (t L1))\n(hyp 3 (t L3))\n(def ?d1 (node L1 L2 L3))\n(step 4 tn (2 3) (t ?d1))\n(induct 5 L (t L) ((0) (1 L0) (4 L1 L2 L3)))\n(step 6 q (5) (q L))\n(result g 6)\n") (bytes "(var L T)\n(goal g (q L))\n") (1 ∷ 0 ∷ 7 ∷ 1 ∷ 2 ∷ [])

three_cases_holds : Claim three_cases
unfolding seen said
three_cases_holds = refl

-- under a hypothesis nothing is kept as proved: nat(z) is written twice
abbrev proved_again : Row
proved_again = emitted twice_under (bytes "(step 0 nz () (nat z))\n(var L0 Nat)\n(hyp 1 (nat L0))\n(step 2 nz () (nat z))\n(step 3 nz () (nat z))\n(def ?d0 (s L0))\n(step 4 ns (1 2 3) (nat ?d0))\n(induct 5 L (nat L) ((0) (4 L0)))\n(step 6 q (5) (q L))\n(result g 6)\n") (bytes "(var L Nat)\n(goal g (q L))\n") (1 ∷ 0 ∷ 7 ∷ 1 ∷ 1 ∷ [])

proved_again_holds : Claim proved_again
unfolding seen said
proved_again_holds = refl

-- all goals' lines, then all result lines; without a cut everything is the goal's own, and ground
abbrev results_last : Row
results_last = emitted two_goals (bytes "(step 0 nz () (nat z))\n(def ?d0 (s z))\n(step 1 pos (0) (pos ?d0))\n(step 2 ns (0) (nat ?d0))\n(def ?d1 (s ?d0))\n(step 3 pos (2) (pos ?d1))\n(result a 1)\n(result b 3)\n") (bytes "(var L Nat)\n(goal a (pos (s z)))\n(goal b (pos (s (s z))))\n") (0 ∷ 2 ∷ 4 ∷ 0 ∷ 2 ∷ [])

results_last_holds : Claim results_last
unfolding seen said
results_last_holds = refl

abbrev pub rows : List Row
rows = empty_generated ∷ example_generated ∷ long_generated ∷ cut_generated ∷ empty_left ∷ example-left ∷ class_short ∷ pattern_short ∷ graph_short ∷ work_short ∷ proof_short ∷ goals_short ∷ over_a_limit ∷ goal-line-ahead ∷ step-line-ahead ∷ L_ahead ∷ var_line-ahead ∷ refused-cleared ∷ refused_early_cleared ∷ goal_on_cut_law ∷ cut-ahead_of_writes ∷ sorts-ahead_of_cut ∷ two_heads_law ∷ heads_above_law ∷ failed_candidate_law ∷ pinned_ground ∷ undone_enough ∷ undone_short ∷ output_chosen ∷ three_cases ∷ proved_again ∷ results_last ∷ []

pub hold : Holds rows
hold = (empty_generated_holds, (example_generated_holds, (long_generated_holds, (cut_generated_holds, (empty-left_holds, (example-left_holds, (class_short_holds, (pattern_short_holds, (graph_short_holds, (work_short_holds, (proof_short_holds, (goals_short_holds, (over_a_limit_holds, (goal-line-ahead_holds, (step-line-ahead_holds, (L_ahead_holds, (var_line-ahead_holds, (refused-cleared_holds, (refused_early_cleared_holds, (goal_on_cut_holds, (cut-ahead_of_writes_holds, (sorts-ahead_of_cut_holds, (two_heads_holds, (heads_above_holds, (failed_candidate_holds, (pinned_ground_holds, (undone_enough_holds, (undone_short_holds, (output_chosen_holds, (three_cases_holds, (proved_again_holds, (results_last_holds, tt))))))))))))))))))))))))))))))))
