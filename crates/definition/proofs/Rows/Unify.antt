-- Rows on unification's order.
use Rattle.std.specs.Prelude.{refl, true, false, List, [], ◌∷◌}
use Rattle.definition.specs.Store.{nothing}
use Rattle.definition.specs.Graph.{variable_vertex, applied}
use Rattle.definition.specs.Rows.Row.{Row, unified, Claim, seen, Holds}

-- a free left side binds first
abbrev left_binds : Row
left_binds = unified (variable_vertex 0 false false ∷ variable_vertex 0 false false ∷ []) 0 1 (1 ∷ 1 ∷ 1 ∷ nothing ∷ [])

left_binds_holds : Claim left_binds
unfolding seen
left_binds_holds = refl

-- else a free right side
abbrev right_binds : Row
right_binds = unified (applied 0 [] ∷ variable_vertex 0 false false ∷ []) 0 1 (1 ∷ 1 ∷ nothing ∷ 0 ∷ [])

right_binds_holds : Claim right_binds
unfolding seen
right_binds_holds = refl

-- equal roots succeed
abbrev equal_roots : Row
equal_roots = unified (variable_vertex 0 false true ∷ []) 0 0 (1 ∷ 1 ∷ nothing ∷ [])

equal_roots_holds : Claim equal_roots
unfolding seen
equal_roots_holds = refl

-- a rigid variable on the right is not free
abbrev rigid_right : Row
rigid_right = unified (applied 0 [] ∷ variable_vertex 0 false true ∷ []) 0 1 (0 ∷ 1 ∷ [])

rigid_right_holds : Claim rigid_right
unfolding seen
rigid_right_holds = refl

-- nor on the left
abbrev rigid_left : Row
rigid_left = unified (variable_vertex 0 false true ∷ applied 0 [] ∷ []) 0 1 (0 ∷ 1 ∷ [])

rigid_left_holds : Claim rigid_left
unfolding seen
rigid_left_holds = refl

-- nor against another
abbrev rigid_both : Row
rigid_both = unified (variable_vertex 0 false true ∷ variable_vertex 0 false true ∷ []) 0 1 (0 ∷ 1 ∷ [])

rigid_both_holds : Claim rigid_both
unfolding seen
rigid_both_holds = refl

-- of equal heads the last arguments are taken first: p(z, z) and p(s, z) clash at the third pair
abbrev last-first : Row
last-first = unified (applied 0 [] ∷ applied 1 [] ∷ applied 2 (0 ∷ 0 ∷ []) ∷ applied 2 (1 ∷ 0 ∷ []) ∷ []) 2 3 (0 ∷ 3 ∷ [])

last-first_holds : Claim last-first
unfolding seen
last-first_holds = refl

-- p(z, z) and p(z, s) at the second
abbrev last_clash : Row
last_clash = unified (applied 0 [] ∷ applied 1 [] ∷ applied 2 (0 ∷ 0 ∷ []) ∷ applied 2 (0 ∷ 1 ∷ []) ∷ []) 2 3 (0 ∷ 2 ∷ [])

last_clash_holds : Claim last_clash
unfolding seen
last_clash_holds = refl

-- equal heads are joined before their arguments: a pair met again is equal
abbrev joined-first : Row
joined-first = unified (variable_vertex 0 false false ∷ applied 1 (0 ∷ []) ∷ applied 1 (0 ∷ []) ∷ applied 2 (1 ∷ 1 ∷ []) ∷ applied 2 (2 ∷ 2 ∷ []) ∷ []) 3 4 (1 ∷ 4 ∷ nothing ∷ 2 ∷ nothing ∷ 4 ∷ nothing ∷ [])

joined-first_holds : Claim joined-first
unfolding seen
joined-first_holds = refl

abbrev pub rows : List Row
rows = left_binds ∷ right_binds ∷ equal_roots ∷ rigid_right ∷ rigid_left ∷ rigid_both ∷ last-first ∷ last_clash ∷ joined-first ∷ []

pub hold : Holds rows
hold = (left_binds_holds, (right_binds_holds, (equal_roots_holds, (rigid_right_holds, (rigid_left_holds, (rigid_both_holds, (last-first_holds, (last_clash_holds, (joined-first_holds, tt)))))))))
