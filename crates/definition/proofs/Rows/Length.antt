-- Rows on the lengths ahead of the pack.
use Rattle.std.specs.Prelude.{refl, List, [], ◌∷◌}
use Rattle.definition.specs.Rows.Row.{Row, check, lent, Claim, seen, Holds}

-- 2^24 bytes pass
abbrev pack_most : Row
pack_most = lent (record { pack = 16777216; class = 0; pattern = 0; graph = 0; work = 268436480; text = 0; goals = 0 }) 0 0

pack_most_holds : Claim pack_most
unfolding seen
pack_most_holds = refl

-- a byte more is over the limit
abbrev pack_over : Row
pack_over = lent (record { pack = 16777217; class = 0; pattern = 0; graph = 0; work = 268436496; text = 0; goals = 0 }) 2 0

pack_over_holds : Claim pack_over
unfolding seen
pack_over_holds = refl

-- lengths come ahead of work
abbrev class_over : Row
class_over = lent (record { pack = 0; class = 16777217; pattern = 0; graph = 0; work = 0; text = 0; goals = 0 }) 2 0

class_over_holds : Claim class_over
unfolding seen
class_over_holds = refl

-- each buffer has the limit
abbrev pattern_over : Row
pattern_over = lent (record { pack = 0; class = 0; pattern = 16777217; graph = 0; work = 1073741824; text = 0; goals = 0 }) 2 0

pattern_over_holds : Claim pattern_over
unfolding seen
pattern_over_holds = refl

-- each buffer has the limit
abbrev graph_over : Row
graph_over = lent (record { pack = 0; class = 0; pattern = 0; graph = 16777217; work = 1073741824; text = 0; goals = 0 }) 2 0

graph_over_holds : Claim graph_over
unfolding seen
graph_over_holds = refl

-- each buffer has the limit
abbrev text_over : Row
text_over = lent (record { pack = 0; class = 0; pattern = 0; graph = 0; work = 1073741824; text = 16777217; goals = 0 }) 2 0

text_over_holds : Claim text_over
unfolding seen
text_over_holds = refl

-- each buffer has the limit
abbrev goals_over : Row
goals_over = lent (record { pack = 0; class = 0; pattern = 0; graph = 0; work = 1073741824; text = 0; goals = 16777217 }) 2 0

goals_over_holds : Claim goals_over
unfolding seen
goals_over_holds = refl

-- 2^30 words pass
abbrev work_most : Row
work_most = lent (record { pack = 0; class = 0; pattern = 0; graph = 0; work = 1073741824; text = 0; goals = 0 }) 0 0

work_most_holds : Claim work_most
unfolding seen
work_most_holds = refl

-- a word more is over the limit
abbrev work_over : Row
work_over = lent (record { pack = 0; class = 0; pattern = 0; graph = 0; work = 1073741825; text = 0; goals = 0 }) 2 0

work_over_holds : Claim work_over
unfolding seen
work_over_holds = refl

-- certgen's lengths are just enough
abbrev work_enough : Row
work_enough = lent (record { pack = 512; class = 256; pattern = 128; graph = 128; work = 13312; text = 4096; goals = 1024 }) 0 0

work_enough_holds : Claim work_enough
unfolding seen
work_enough_holds = refl

-- a word less is short
abbrev work_short : Row
work_short = lent (record { pack = 512; class = 256; pattern = 128; graph = 128; work = 13311; text = 4096; goals = 1024 }) 8 4

work_short_holds : Claim work_short
unfolding seen
work_short_holds = refl

-- ★ the empty pack
abbrev empty_pack : Row
empty_pack = check ([]) 1024 0 0

empty_pack_holds : Claim empty_pack
unfolding seen
empty_pack_holds = refl

-- the empty pack with a word of work too few
abbrev empty_short : Row
empty_short = check ([]) 1023 8 4

empty_short_holds : Claim empty_short
unfolding seen
empty_short_holds = refl

-- work comes ahead of the pack's form
abbrev work_first : Row
work_first = check ((0 ∷ [])) 1039 8 4

work_first_holds : Claim work_first
unfolding seen
work_first_holds = refl

-- with enough work the form is tested
abbrev form_then : Row
form_then = check ((0 ∷ [])) 1040 1 0

form_then_holds : Claim form_then
unfolding seen
form_then_holds = refl

abbrev pub rows : List Row
rows = pack_most ∷ pack_over ∷ class_over ∷ pattern_over ∷ graph_over ∷ text_over ∷ goals_over ∷ work_most ∷ work_over ∷ work_enough ∷ work_short ∷ empty_pack ∷ empty_short ∷ work_first ∷ form_then ∷ []

pub hold : Holds rows
hold = (pack_most_holds, (pack_over_holds, (class_over_holds, (pattern_over_holds, (graph_over_holds, (text_over_holds, (goals_over_holds, (work_most_holds, (work_over_holds, (work_enough_holds, (work_short_holds, (empty_pack_holds, (empty_short_holds, (work_first_holds, (form_then_holds, tt)))))))))))))))
