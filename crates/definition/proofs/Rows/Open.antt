-- Rows on what record 9 opens.
use Rattle.std.specs.Prelude.{refl, List, [], ◌∷◌}
use Rattle.definition.specs.Pack.{var, app, nil, cons}
use Rattle.definition.specs.Rows.Row.{Row, opened, Claim, seen, Holds}

-- the worked example's goal, `(pos (s ?v0))`, opened at s
abbrev opened_one : Row
opened_one = opened (app 3 (cons (app 1 (cons (var 0) nil)) nil)) 1 0 (1 ∷ [])

opened-one_holds : Claim opened_one
unfolding seen
opened-one_holds = refl

-- a variable elsewhere, and under another constructor, stays
abbrev opened_there : Row
opened_there = opened (app 4 (cons (var 0) (cons (app 1 (cons (var 1) nil)) (cons (app 2 (cons (var 2) nil)) nil)))) 1 0 (0 ∷ 1 ∷ 0 ∷ [])

opened_there_holds : Claim opened_there
unfolding seen
opened_there_holds = refl

-- one at another position stays
abbrev opened_position : Row
opened_position = opened (app 4 (cons (app 3 (cons (var 0) (cons (var 1) nil))) nil)) 3 1 (0 ∷ 1 ∷ [])

opened_position_holds : Claim opened_position
unfolding seen
opened_position_holds = refl

-- a term at the position is none, what is in it counts by itself
abbrev opened_term : Row
opened_term = opened (app 4 (cons (app 3 (cons (var 0) (cons (app 3 (cons (var 1) (cons (var 2) nil))) nil))) nil)) 3 1 (0 ∷ 0 ∷ 1 ∷ [])

opened_term_holds : Claim opened_term
unfolding seen
opened_term_holds = refl

-- a variable counts that stands there once among others
abbrev opened_shared : Row
opened_shared = opened (app 4 (cons (var 0) (cons (app 1 (cons (app 1 (cons (var 0) nil)) nil)) nil))) 1 0 (1 ∷ [])

opened_shared_holds : Claim opened_shared
unfolding seen
opened_shared_holds = refl

abbrev pub rows : List Row
rows = opened_one ∷ opened_there ∷ opened_position ∷ opened_term ∷ opened_shared ∷ []

pub hold : Holds rows
hold = (opened-one_holds, (opened_there_holds, (opened_position_holds, (opened_term_holds, (opened_shared_holds, tt)))))
