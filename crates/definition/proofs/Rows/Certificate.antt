-- Rows on nodes, steps, goals, results, cuts and abstract.
use Rattle.std.specs.Prelude.{refl, List, [], ◌∷◌, ◌++◌}
use Rattle.definition.specs.Encode.{put_record_of}
use Rattle.definition.specs.Rows.Say.{node, step, goal, result, cut, abstract}
use Rattle.definition.specs.Rows.Front.{nodes}
use Rattle.definition.specs.Rows.Row.{Row, check, Claim, seen, Holds}

-- a new node
abbrev node_good : Row
node_good = check (nodes ++ node (1 ∷ 2 ∷ [])) 50000 0 0

node_good_holds : Claim node_good
unfolding seen
node_good_holds = refl

-- no node is given twice
abbrev node_twice : Row
node_twice = check (nodes ++ node (1 ∷ 0 ∷ [])) 50000 1 148

node_twice_holds : Claim node_twice
unfolding seen
node_twice_holds = refl

-- arguments are earlier nodes
abbrev node-later : Row
node-later = check (nodes ++ node (1 ∷ 3 ∷ [])) 50000 1 148

node-later_holds : Claim node-later
unfolding seen
node-later_holds = refl

-- a judgment is no argument
abbrev node-judgment : Row
node-judgment = check (nodes ++ node (1 ∷ 1 ∷ [])) 50000 1 148

node-judgment_holds : Claim node-judgment
unfolding seen
node-judgment_holds = refl

-- too few arguments
abbrev node_short : Row
node_short = check (nodes ++ node (1 ∷ [])) 50000 1 148

node_short_holds : Claim node_short
unfolding seen
node_short_holds = refl

-- too many arguments
abbrev node_long : Row
node_long = check (nodes ++ node (0 ∷ 0 ∷ [])) 50000 1 148

node_long_holds : Claim node_long
unfolding seen
node_long_holds = refl

-- a head that is not there
abbrev node_unknown : Row
node_unknown = check (nodes ++ node (3 ∷ [])) 50000 1 148

node_unknown_holds : Claim node_unknown
unfolding seen
node_unknown_holds = refl

-- a step's judgment has a predicate on top
abbrev step_term : Row
step_term = check (nodes ++ step (0 ∷ 0 ∷ [])) 50000 1 148

step_term_holds : Claim step_term
unfolding seen
step_term_holds = refl

-- a rule that is not there
abbrev step-rule : Row
step-rule = check (nodes ++ step (2 ∷ 1 ∷ [])) 50000 1 148

step-rule_holds : Claim step-rule
unfolding seen
step-rule_holds = refl

-- refs are earlier steps
abbrev step_self : Row
step_self = check (nodes ++ step (1 ∷ 1 ∷ 0 ∷ [])) 50000 1 148

step_self_holds : Claim step_self
unfolding seen
step_self_holds = refl

-- as many refs as premises
abbrev step-more-refs : Row
step-more-refs = check (nodes ++ step (0 ∷ 1 ∷ []) ++ step (0 ∷ 1 ∷ 0 ∷ [])) 50000 1 162

step-more-refs_holds : Claim step-more-refs
unfolding seen
step-more-refs_holds = refl

-- a goal's judgment has a predicate on top
abbrev goal_term : Row
goal_term = check (nodes ++ goal 0 "g") 50000 1 148

goal_term_holds : Claim goal_term
unfolding seen
goal_term_holds = refl

-- a step that is not there
abbrev result_unknown : Row
result_unknown = check (nodes ++ result 0 "g") 50000 1 148

result_unknown_holds : Claim result_unknown
unfolding seen
result_unknown_holds = refl

-- a cut is on a predicate
abbrev cut_constructor : Row
cut_constructor = check (nodes ++ cut (1 ∷ [])) 50000 1 148

cut_constructor_holds : Claim cut_constructor
unfolding seen
cut_constructor_holds = refl

-- outputs lie below the arity
abbrev cut_output : Row
cut_output = check (nodes ++ cut (2 ∷ 1 ∷ [])) 50000 1 148

cut_output_holds : Claim cut_output
unfolding seen
cut_output_holds = refl

-- an output may be repeated
abbrev cut_repeated : Row
cut_repeated = check (nodes ++ cut (2 ∷ 0 ∷ 0 ∷ [])) 50000 0 0

cut_repeated_holds : Claim cut_repeated
unfolding seen
cut_repeated_holds = refl

-- a predicate is cut once
abbrev cut_twice : Row
cut_twice = check (nodes ++ cut (2 ∷ []) ++ cut (2 ∷ [])) 50000 1 158

cut_twice_holds : Claim cut_twice
unfolding seen
cut_twice_holds = refl

-- outputs are whole words
abbrev cut-bytes : Row
cut-bytes = check (nodes ++ put_record_of 8 (2 ∷ 0 ∷ 0 ∷ 0 ∷ 0 ∷ 0 ∷ [])) 50000 1 148

cut-bytes_holds : Claim cut-bytes
unfolding seen
cut-bytes_holds = refl

-- a constructor and a position
abbrev abstract_good : Row
abstract_good = check (nodes ++ abstract (1 ∷ 0 ∷ [])) 50000 0 0

abstract_good_holds : Claim abstract_good
unfolding seen
abstract_good_holds = refl

-- a predicate is no constructor
abbrev abstract_predicate : Row
abstract_predicate = check (nodes ++ abstract (2 ∷ 0 ∷ [])) 50000 1 148

abstract_predicate_holds : Claim abstract_predicate
unfolding seen
abstract_predicate_holds = refl

-- a constant has no position
abbrev abstract_constant : Row
abstract_constant = check (nodes ++ abstract (0 ∷ 0 ∷ [])) 50000 1 148

abstract_constant_holds : Claim abstract_constant
unfolding seen
abstract_constant_holds = refl

-- the body ends there
abbrev abstract-more : Row
abstract-more = check (nodes ++ abstract (1 ∷ 0 ∷ 0 ∷ [])) 50000 1 148

abstract-more_holds : Claim abstract-more
unfolding seen
abstract-more_holds = refl

-- at most one
abbrev abstract_twice : Row
abstract_twice = check (nodes ++ abstract (1 ∷ 0 ∷ []) ++ abstract (1 ∷ 0 ∷ [])) 50000 1 162

abstract_twice_holds : Claim abstract_twice
unfolding seen
abstract_twice_holds = refl

abbrev pub rows : List Row
rows = node_good ∷ node_twice ∷ node-later ∷ node-judgment ∷ node_short ∷ node_long ∷ node_unknown ∷ step_term ∷ step-rule ∷ step_self ∷ step-more-refs ∷ goal_term ∷ result_unknown ∷ cut_constructor ∷ cut_output ∷ cut_repeated ∷ cut_twice ∷ cut-bytes ∷ abstract_good ∷ abstract_predicate ∷ abstract_constant ∷ abstract-more ∷ abstract_twice ∷ []

pub hold : Holds rows
hold = (node_good_holds, (node_twice_holds, (node-later_holds, (node-judgment_holds, (node_short_holds, (node_long_holds, (node_unknown_holds, (step_term_holds, (step-rule_holds, (step_self_holds, (step-more-refs_holds, (goal_term_holds, (result_unknown_holds, (cut_constructor_holds, (cut_output_holds, (cut_repeated_holds, (cut_twice_holds, (cut-bytes_holds, (abstract_good_holds, (abstract_predicate_holds, (abstract_constant_holds, (abstract-more_holds, (abstract_twice_holds, tt)))))))))))))))))))))))
