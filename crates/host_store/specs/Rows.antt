-- Calls written out.
use Rattle.std.specs.Prelude.{◌≡◌, refl, List, [], ◌∷◌, ℕ, replicate}
use Rattle.definition.specs.Certificate.{same_node}
use Rattle.definition.specs.Test.{same}
use Rattle.definition.specs.Answer.{padded}
use Rattle.definition.specs.Store.{intern, pattern_words, nodes_in}
use Rattle.host_store.specs.Tried.{Left, leaves, refused, tried}

-- 7, 8 over 0, 7 again, and 9, whose five arguments are cut after one
abbrev four : List ℕ
four = 0 ∷ 7 ∷ 1 ∷ 8 ∷ 0 ∷ 0 ∷ 7 ∷ 5 ∷ 9 ∷ 1 ∷ []

done : ◌≡◌ {A = Left} (tried four 21 10 5) (record {
  answer = record { code = 0; nodes = 3 };
  index = replicate 21 0;
  words = 0 ∷ 7 ∷ 1 ∷ 8 ∷ 0 ∷ 1 ∷ 9 ∷ 1 ∷ 0 ∷ 0 ∷ [];
  numbers = 0 ∷ 1 ∷ 0 ∷ 2 ∷ 0 ∷ [];
})
unfolding tried leaves padded intern pattern_words nodes_in same_node same
done = refl

-- as many as there are places for
two : ◌≡◌ {A = Left} (tried four 13 6 2) (record { answer = record { code = 0; nodes = 2 }; index = replicate 13 0; words = 0 ∷ 7 ∷ 1 ∷ 8 ∷ 0 ∷ 0 ∷ []; numbers = 0 ∷ 1 ∷ [] })
unfolding tried leaves padded intern pattern_words nodes_in same_node same
two = refl

short : tried four 13 7 4 ≡ refused 8 13 7 4
unfolding tried intern pattern_words nodes_in same_node same
short = refl

index_short : tried four 20 10 5 ≡ refused 2 20 10 5
unfolding tried
index_short = refl

words_long : tried four 20 4294967295 5 ≡ refused 2 20 4294967295 5
unfolding tried
words_long = refl
