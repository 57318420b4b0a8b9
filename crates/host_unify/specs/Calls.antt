-- Calls written out.
use Rattle.std.specs.Prelude.{◌≡◌, refl, List, [], ◌∷◌, ℕ}
use Rattle.definition.specs.Test.{◌and◌, all}
use Rattle.definition.specs.Store.{variable_head}
use Rattle.definition.specs.Graph.{push, cells, vertex, follow, root, is_var, is_free, join, bind, last_first, meet, take_pairs, unify, ends, up_to, circular}
use Rattle.definition.specs.Answer.{padded}
use Rattle.host_unify.specs.Solved.{Told, words_of, node_of, earlier, is_node, read_nodes, listed, tells, refused, roots_to, unified_at, joined_at, ended, asked, unfit, asked_of, solved}

-- a variable x, f(x), a, f(a) and f(f(x))
abbrev five : List ℕ
five = variable_head ∷ 0 ∷ 0 ∷ 0 ∷ 7 ∷ 1 ∷ 0 ∷ 8 ∷ 0 ∷ 7 ∷ 1 ∷ 2 ∷ 7 ∷ 1 ∷ 1 ∷ []

-- f(x) and f(a): x becomes a
joined : ◌≡◌ {A = Told} (solved five 1 3 2 6 8 71) (record { answer = record { code = 0; taken = 2; circular = 0 }; roots = 2 ∷ 3 ∷ 2 ∷ 3 ∷ 4 ∷ 0 ∷ [] })
unfolding solved asked_of unfit asked ended unified_at joined_at roots_to refused tells listed read_nodes is_node earlier node_of words_of padded circular up_to ends unify take_pairs meet last_first bind join is_free is_var root follow vertex cells push all ◌and◌
joined = refl

-- f(f(x)) and f(a): f(x) is no a
clash : solved five 4 3 2 6 8 71 ≡ tells 1 2 0 [] 6
unfolding solved asked_of unfit asked ended unified_at joined_at roots_to refused tells listed read_nodes is_node earlier node_of words_of padded circular up_to ends unify take_pairs meet last_first bind join is_free is_var root follow vertex cells push all ◌and◌
clash = refl

-- x and f(x): x becomes f(x), a circle
circle : ◌≡◌ {A = Told} (solved five 0 1 2 5 8 71) (record { answer = record { code = 0; taken = 1; circular = 1 }; roots = 1 ∷ 1 ∷ 2 ∷ 3 ∷ 4 ∷ [] })
unfolding solved asked_of unfit asked ended unified_at joined_at roots_to refused tells listed read_nodes is_node earlier node_of words_of padded circular up_to ends unify take_pairs meet last_first bind join is_free is_var root follow vertex cells push all ◌and◌
circle = refl

-- a call that goes less far tells less
untested : ◌≡◌ {A = Told} (solved five 0 1 1 5 8 71) (record { answer = record { code = 0; taken = 1; circular = 0 }; roots = 0 ∷ 0 ∷ 0 ∷ 0 ∷ 0 ∷ [] })
unfolding solved asked_of unfit asked ended unified_at joined_at roots_to refused tells listed read_nodes is_node earlier node_of words_of padded circular up_to ends unify take_pairs meet last_first bind join is_free is_var root follow vertex cells push all ◌and◌
untested = refl

unjoined : ◌≡◌ {A = Told} (solved five 0 1 0 5 8 71) (record { answer = record { code = 0; taken = 0; circular = 0 }; roots = 0 ∷ 0 ∷ 0 ∷ 0 ∷ 0 ∷ [] })
unfolding solved asked_of unfit asked ended unified_at joined_at roots_to refused tells listed read_nodes is_node earlier node_of words_of padded circular up_to ends unify take_pairs meet last_first bind join is_free is_var root follow vertex cells push all ◌and◌
unjoined = refl

-- a later node is no argument, nor is the node itself
later : solved (7 ∷ 1 ∷ 0 ∷ []) 0 0 2 1 8 71 ≡ refused 2 1
unfolding solved asked_of unfit refused tells listed read_nodes is_node earlier node_of words_of all ◌and◌
later = refl

-- there is no node 5
no_node : solved five 0 5 2 5 8 71 ≡ refused 2 5
unfolding solved asked_of unfit asked refused tells listed read_nodes is_node earlier node_of words_of cells push all ◌and◌
no_node = refl

cells_short : solved five 0 1 2 5 7 71 ≡ refused 3 5
unfolding solved asked_of unfit refused tells listed read_nodes is_node earlier node_of words_of cells push all ◌and◌
cells_short = refl

roots_short : solved five 0 1 2 4 8 71 ≡ refused 3 4
unfolding solved asked_of unfit asked refused tells listed read_nodes is_node earlier node_of words_of cells push all ◌and◌
roots_short = refl

work_short : solved five 0 1 2 5 8 70 ≡ refused 3 5
unfolding solved unfit refused
work_short = refl
