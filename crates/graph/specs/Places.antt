-- Where the words of a graph's table stand behind its rows, for so many cells.
use Rattle.std.specs.Prelude.{ℕ, ◌+◌, ◌*◌}

-- two words of each pair that is left to be unified, or of each frame of a walk: behind five words of each node and of one more
abbrev pub pairs_at : ℕ → ℕ
pairs_at n = 5 * n + 5

-- a colour of each node: behind a pair for each and one more
abbrev pub colours_at : ℕ → ℕ
colours_at n = 7 * n + 7

-- the ground value of each node and one, or 0
abbrev pub values_at : ℕ → ℕ
values_at n = 8 * n + 7

-- the pattern that each node was read back as and one, or 0
abbrev pub patterns_at : ℕ → ℕ
patterns_at n = 9 * n + 7

-- the variable of each number
abbrev pub numbers_at : ℕ → ℕ
numbers_at n = 10 * n + 7

-- the variables of copies
abbrev pub copies_at : ℕ → ℕ
copies_at n = 11 * n + 7

-- the end of the table
abbrev pub copies_end : ℕ → ℕ
copies_end n = 12 * n + 7
