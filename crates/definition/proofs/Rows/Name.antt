-- Rows on headers and names.
use Rattle.std.specs.Prelude.{refl, List, [], ◌∷◌, ◌++◌}
use Rattle.definition.specs.Pack.{prop}
use Rattle.definition.specs.Encode.{put_record_of}
use Rattle.definition.specs.Rows.Say.{sort, symbol, rule, node, step, goal, result, cut}
use Rattle.definition.specs.Rows.Front.{sorts, symbols, rules, nodes}
use Rattle.definition.specs.Rows.Row.{Row, check, Claim, seen, Holds}

-- five bytes are a cut record
abbrev header_cut : Row
header_cut = check (sorts ++ (1 ∷ 0 ∷ 0 ∷ 0 ∷ 1 ∷ [])) 50000 1 7

header_cut_holds : Claim header_cut
unfolding seen
header_cut_holds = refl

-- a body past the end
abbrev body-cut : Row
body-cut = check (sorts ++ (2 ∷ 0 ∷ 0 ∷ 0 ∷ 1 ∷ 0 ∷ 65 ∷ [])) 50000 1 7

body-cut_holds : Claim body-cut
unfolding seen
body-cut_holds = refl

-- a length is no limit
abbrev length_huge : Row
length_huge = check (sorts ++ (255 ∷ 255 ∷ 255 ∷ 255 ∷ 1 ∷ 0 ∷ 65 ∷ [])) 50000 1 7

length_huge_holds : Claim length_huge
unfolding seen
length_huge_holds = refl

-- there is no kind 0
abbrev kind_0 : Row
kind_0 = check (sorts ++ put_record_of 0 (65 ∷ [])) 50000 1 7

kind_0_holds : Claim kind_0
unfolding seen
kind_0_holds = refl

-- there is no kind 10
abbrev kind_10 : Row
kind_10 = check (sorts ++ put_record_of 10 (65 ∷ [])) 50000 1 7

kind_10_holds : Claim kind_10
unfolding seen
kind_10_holds = refl

-- a kind is all 16 bits
abbrev kind_257 : Row
kind_257 = check (sorts ++ put_record_of 257 (65 ∷ [])) 50000 1 7

kind_257_holds : Claim kind_257
unfolding seen
kind_257_holds = refl

-- kinds never fall
abbrev kinds_fall : Row
kinds_fall = check (symbols ++ sort "A") 50000 1 54

kinds_fall_holds : Claim kinds_fall
unfolding seen
kinds_fall_holds = refl

-- kinds may be skipped and repeated
abbrev kinds_skip : Row
kinds_skip = check (sort "A" ++ sort "B" ++ symbol prop [] "q" ++ cut (0 ∷ [])) 50000 0 0

kinds_skip_holds : Claim kinds_skip
unfolding seen
kinds_skip_holds = refl

-- a name has a byte at least
abbrev name-none : Row
name-none = check (sorts ++ sort "") 50000 1 7

name-none_holds : Claim name-none
unfolding seen
name-none_holds = refl

-- 64 bytes pass
abbrev name_64 : Row
name_64 = check (sorts ++ sort "aaaaaaaaaaaaaaaaaaaaaaaaaaaaaaaaaaaaaaaaaaaaaaaaaaaaaaaaaaaaaaaa") 50000 0 0

name_64_holds : Claim name_64
unfolding seen
name_64_holds = refl

-- 65 are against the form, not over a limit
abbrev name_65 : Row
name_65 = check (sorts ++ sort "aaaaaaaaaaaaaaaaaaaaaaaaaaaaaaaaaaaaaaaaaaaaaaaaaaaaaaaaaaaaaaaaa") 50000 1 7

name_65_holds : Claim name_65
unfolding seen
name_65_holds = refl

-- no leading question mark
abbrev name_question : Row
name_question = check (sorts ++ sort "?a") 50000 1 7

name_question_holds : Claim name_question
unfolding seen
name_question_holds = refl

-- a question mark behind the first byte
abbrev name_question_inside : Row
name_question_inside = check (sorts ++ sort "a?") 50000 0 0

name_question_inside_holds : Claim name_question_inside
unfolding seen
name_question_inside_holds = refl

-- no round bracket
abbrev name_bracket : Row
name_bracket = check (sorts ++ sort "a(") 50000 1 7

name_bracket_holds : Claim name_bracket
unfolding seen
name_bracket_holds = refl

-- no round bracket
abbrev name_bracket_2 : Row
name_bracket_2 = check (sorts ++ sort "a)") 50000 1 7

name_bracket_2_holds : Claim name_bracket_2
unfolding seen
name_bracket_2_holds = refl

-- no byte below 33
abbrev name_blank : Row
name_blank = check (sorts ++ sort "a b") 50000 1 7

name_blank_holds : Claim name_blank
unfolding seen
name_blank_holds = refl

-- 126 passes
abbrev name_126 : Row
name_126 = check (sorts ++ sort "~!") 50000 0 0

name_126_holds : Claim name_126
unfolding seen
name_126_holds = refl

-- 127 does not
abbrev name_127 : Row
name_127 = check (sorts ++ put_record_of 1 (97 ∷ 127 ∷ [])) 50000 1 7

name_127_holds : Claim name_127
unfolding seen
name_127_holds = refl

-- sort names are unique
abbrev sort_twice : Row
sort_twice = check (sorts ++ sort "N") 50000 1 7

sort_twice_holds : Claim sort_twice
unfolding seen
sort_twice_holds = refl

-- predicates and constructors have names apart
abbrev symbol_twice : Row
symbol_twice = check (symbols ++ symbol prop [] "z") 50000 1 54

symbol_twice_holds : Claim symbol_twice
unfolding seen
symbol_twice_holds = refl

-- rule names are unique
abbrev rule_twice : Row
rule_twice = check (rules ++ rule [] 0 (2 ∷ 0 ∷ []) "ns") 50000 1 110

rule_twice_holds : Claim rule_twice
unfolding seen
rule_twice_holds = refl

-- goal names are unique
abbrev goal_twice : Row
goal_twice = check (nodes ++ goal 1 "g" ++ goal 1 "g") 50000 1 159

goal_twice_holds : Claim goal_twice
unfolding seen
goal_twice_holds = refl

-- result names are unique
abbrev result_twice : Row
result_twice = check (nodes ++ step (0 ∷ 1 ∷ []) ++ result 0 "g" ++ result 0 "g") 50000 1 173

result_twice_holds : Claim result_twice
unfolding seen
result_twice_holds = refl

-- one name in every kind
abbrev one_name : Row
one_name = check (sort "a" ++ symbol prop [] "a" ++ rule [] 0 (0 ∷ []) "a" ++ node (0 ∷ []) ++ step (0 ∷ 0 ∷ []) ++ goal 0 "a" ++ result 0 "a") 50000 0 0

one-name_holds : Claim one_name
unfolding seen
one-name_holds = refl

abbrev pub rows : List Row
rows = header_cut ∷ body-cut ∷ length_huge ∷ kind_0 ∷ kind_10 ∷ kind_257 ∷ kinds_fall ∷ kinds_skip ∷ name-none ∷ name_64 ∷ name_65 ∷ name_question ∷ name_question_inside ∷ name_bracket ∷ name_bracket_2 ∷ name_blank ∷ name_126 ∷ name_127 ∷ sort_twice ∷ symbol_twice ∷ rule_twice ∷ goal_twice ∷ result_twice ∷ one_name ∷ []

pub hold : Holds rows
hold = (header_cut_holds, (body-cut_holds, (length_huge_holds, (kind_0_holds, (kind_10_holds, (kind_257_holds, (kinds_fall_holds, (kinds_skip_holds, (name-none_holds, (name_64_holds, (name_65_holds, (name_question_holds, (name_question_inside_holds, (name_bracket_holds, (name_bracket_2_holds, (name_blank_holds, (name_126_holds, (name_127_holds, (sort_twice_holds, (symbol_twice_holds, (rule_twice_holds, (goal_twice_holds, (result_twice_holds, (one-name_holds, tt))))))))))))))))))))))))
