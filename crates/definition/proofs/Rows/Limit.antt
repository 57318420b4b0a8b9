-- Rows on the limits, one below, at and above.
use Rattle.std.specs.Prelude.{refl, List, [], ◌∷◌, ◌++◌, replicate}
use Rattle.definition.specs.Pack.{no_such_symbol, no_rule}
use Rattle.definition.specs.Encode.{put, put_record_of}
use Rattle.definition.specs.Rows.Say.{sort, symbol, rule, nested, times}
use Rattle.definition.specs.Rows.Front.{sorts, symbols}
use Rattle.definition.specs.Rows.Row.{Row, check, reading, Claim, seen, Holds}

-- arity 16 passes
abbrev arity_16 : Row
arity_16 = check (sorts ++ symbol 0 (0 ∷ 0 ∷ 0 ∷ 0 ∷ 0 ∷ 0 ∷ 0 ∷ 0 ∷ 0 ∷ 0 ∷ 0 ∷ 0 ∷ 0 ∷ 0 ∷ 0 ∷ 0 ∷ []) "w") 50000 0 0

arity_16_holds : Claim arity_16
unfolding seen
arity_16_holds = refl

-- 17 is refused, even if the body ends there
abbrev arity_17 : Row
arity_17 = check (sorts ++ put_record_of 2 (0 ∷ 0 ∷ 0 ∷ 0 ∷ 17 ∷ 0 ∷ [])) 50000 2 7

arity_17_holds : Claim arity_17
unfolding seen
arity_17_holds = refl

-- ahead of the content
abbrev arity_ahead : Row
arity_ahead = check (sorts ++ put_record_of 2 (9 ∷ 9 ∷ 9 ∷ 9 ∷ 17 ∷ 0 ∷ 63 ∷ [])) 50000 2 7

arity_ahead_holds : Claim arity_ahead
unfolding seen
arity_ahead_holds = refl

-- a body too short for its counts
abbrev arity_cut : Row
arity_cut = check (sorts ++ put_record_of 2 (0 ∷ 0 ∷ 0 ∷ 0 ∷ 17 ∷ [])) 50000 1 7

arity_cut_holds : Claim arity_cut
unfolding seen
arity_cut_holds = refl

-- 64 variables pass
abbrev variables_64 : Row
variables_64 = check (symbols ++ rule (0 ∷ 0 ∷ 0 ∷ 0 ∷ 0 ∷ 0 ∷ 0 ∷ 0 ∷ 0 ∷ 0 ∷ 0 ∷ 0 ∷ 0 ∷ 0 ∷ 0 ∷ 0 ∷ 0 ∷ 0 ∷ 0 ∷ 0 ∷ 0 ∷ 0 ∷ 0 ∷ 0 ∷ 0 ∷ 0 ∷ 0 ∷ 0 ∷ 0 ∷ 0 ∷ 0 ∷ 0 ∷ 0 ∷ 0 ∷ 0 ∷ 0 ∷ 0 ∷ 0 ∷ 0 ∷ 0 ∷ 0 ∷ 0 ∷ 0 ∷ 0 ∷ 0 ∷ 0 ∷ 0 ∷ 0 ∷ 0 ∷ 0 ∷ 0 ∷ 0 ∷ 0 ∷ 0 ∷ 0 ∷ 0 ∷ 0 ∷ 0 ∷ 0 ∷ 0 ∷ 0 ∷ 0 ∷ 0 ∷ 0 ∷ []) 0 (2 ∷ 0 ∷ []) "r") 50000 0 0

variables_64_holds : Claim variables_64
unfolding seen
variables_64_holds = refl

-- 65 are refused, even if the body ends there
abbrev variables_65 : Row
variables_65 = check (symbols ++ put_record_of 3 (65 ∷ 0 ∷ 0 ∷ 0 ∷ [])) 50000 2 54

variables_65_holds : Claim variables_65
unfolding seen
variables_65_holds = refl

-- 16 premises pass
abbrev premises_16 : Row
premises_16 = check (symbols ++ rule [] 16 (2 ∷ 0 ∷ 2 ∷ 0 ∷ 2 ∷ 0 ∷ 2 ∷ 0 ∷ 2 ∷ 0 ∷ 2 ∷ 0 ∷ 2 ∷ 0 ∷ 2 ∷ 0 ∷ 2 ∷ 0 ∷ 2 ∷ 0 ∷ 2 ∷ 0 ∷ 2 ∷ 0 ∷ 2 ∷ 0 ∷ 2 ∷ 0 ∷ 2 ∷ 0 ∷ 2 ∷ 0 ∷ 2 ∷ 0 ∷ []) "r") 50000 0 0

premises_16_holds : Claim premises_16
unfolding seen
premises_16_holds = refl

-- 17 are refused
abbrev premises_17 : Row
premises_17 = check (symbols ++ put_record_of 3 (0 ∷ 0 ∷ 17 ∷ 0 ∷ [])) 50000 2 54

premises_17_holds : Claim premises_17
unfolding seen
premises_17_holds = refl

-- two bytes that say 65 are no counts
abbrev counts-cut : Row
counts-cut = check (symbols ++ put_record_of 3 (65 ∷ 0 ∷ [])) 50000 1 54

counts-cut_holds : Claim counts-cut
unfolding seen
counts-cut_holds = refl

-- 256 prefix words pass
abbrev words_256 : Row
words_256 = check (symbols ++ nested 256 (0 ∷ []) "r") 50000 0 0

words_256_holds : Claim words_256
unfolding seen
words_256_holds = refl

-- the 257th is over the limit
abbrev words_257 : Row
words_257 = check (symbols ++ nested 257 (0 ∷ []) "r") 50000 2 54

words_257_holds : Claim words_257
unfolding seen
words_257_holds = refl

-- whatever it holds
abbrev words_257_bad : Row
words_257_bad = check (symbols ++ nested 257 (99 ∷ []) "r") 50000 2 54

words_257_bad_holds : Claim words_257_bad
unfolding seen
words_257_bad_holds = refl

-- the words of all premises and of the conclusion count together
abbrev words_wide_256 : Row
words_wide_256 = check (symbols ++ rule [] 15 (times 15 (2 ∷ replicate 14 1 ++ 0 ∷ []) ++ (2 ∷ replicate 14 1 ++ 0 ∷ [])) "r") 50000 0 0

words_wide_256_holds : Claim words_wide_256
unfolding seen
words_wide_256_holds = refl

-- so that the 257th stands in the conclusion
abbrev words_wide_257 : Row
words_wide_257 = check (symbols ++ rule [] 15 (times 15 (2 ∷ replicate 14 1 ++ 0 ∷ []) ++ (2 ∷ replicate 15 1 ++ 0 ∷ [])) "r") 50000 2 54

words_wide_257_holds : Claim words_wide_257
unfolding seen
words_wide_257_holds = refl

-- a bad word ahead of it comes first
abbrev words_bad_first : Row
words_bad_first = check (symbols ++ nested 300 (2 ∷ 2 ∷ 2 ∷ 2 ∷ 2 ∷ 2 ∷ 2 ∷ 2 ∷ 2 ∷ 2 ∷ 2 ∷ 2 ∷ 2 ∷ 2 ∷ 2 ∷ 2 ∷ 2 ∷ 2 ∷ 2 ∷ 2 ∷ 2 ∷ 2 ∷ 2 ∷ 2 ∷ 2 ∷ 2 ∷ 2 ∷ 2 ∷ 2 ∷ 2 ∷ 2 ∷ 2 ∷ 2 ∷ 2 ∷ 2 ∷ 2 ∷ 2 ∷ 2 ∷ 2 ∷ 2 ∷ 2 ∷ 2 ∷ 2 ∷ 2 ∷ 2 ∷ 2 ∷ 2 ∷ 2 ∷ 2 ∷ 2 ∷ 2 ∷ 2 ∷ 2 ∷ 2 ∷ 2 ∷ 2 ∷ 2 ∷ 2 ∷ 2 ∷ 2 ∷ 2 ∷ 2 ∷ 2 ∷ 2 ∷ 2 ∷ 2 ∷ 2 ∷ 2 ∷ 2 ∷ 2 ∷ 2 ∷ 2 ∷ 2 ∷ 2 ∷ 2 ∷ 2 ∷ 2 ∷ 2 ∷ 2 ∷ 2 ∷ 2 ∷ 2 ∷ 2 ∷ 2 ∷ 2 ∷ 2 ∷ 2 ∷ 2 ∷ 2 ∷ 2 ∷ 2 ∷ 2 ∷ 2 ∷ 2 ∷ 2 ∷ 2 ∷ 2 ∷ 2 ∷ 2 ∷ 2 ∷ 2 ∷ 2 ∷ 2 ∷ 2 ∷ 2 ∷ 2 ∷ 2 ∷ 2 ∷ 2 ∷ 2 ∷ 2 ∷ 2 ∷ 2 ∷ 2 ∷ 2 ∷ 2 ∷ 2 ∷ 2 ∷ 2 ∷ 2 ∷ 2 ∷ 2 ∷ 2 ∷ 2 ∷ 2 ∷ 2 ∷ 2 ∷ 2 ∷ 2 ∷ 2 ∷ 2 ∷ 2 ∷ 2 ∷ 2 ∷ 2 ∷ 2 ∷ 2 ∷ 2 ∷ 2 ∷ 2 ∷ 2 ∷ 2 ∷ 2 ∷ 2 ∷ 2 ∷ 2 ∷ 2 ∷ 2 ∷ 2 ∷ 2 ∷ 2 ∷ 2 ∷ 2 ∷ 2 ∷ 2 ∷ 2 ∷ 2 ∷ 2 ∷ 2 ∷ 2 ∷ 2 ∷ 2 ∷ 2 ∷ 2 ∷ 2 ∷ 2 ∷ 2 ∷ 2 ∷ 2 ∷ 2 ∷ 2 ∷ 2 ∷ 2 ∷ 2 ∷ 2 ∷ 2 ∷ 2 ∷ 2 ∷ 2 ∷ 2 ∷ 2 ∷ 2 ∷ 2 ∷ 2 ∷ 2 ∷ 2 ∷ 2 ∷ 2 ∷ 2 ∷ 2 ∷ 2 ∷ 2 ∷ 2 ∷ 2 ∷ 2 ∷ 2 ∷ 2 ∷ 2 ∷ 2 ∷ 2 ∷ 2 ∷ 2 ∷ 2 ∷ 2 ∷ 2 ∷ 2 ∷ 2 ∷ 2 ∷ 2 ∷ 2 ∷ 2 ∷ 2 ∷ 2 ∷ 2 ∷ 2 ∷ 2 ∷ 2 ∷ 2 ∷ 2 ∷ 2 ∷ 2 ∷ 2 ∷ 2 ∷ 2 ∷ 2 ∷ 2 ∷ 2 ∷ 2 ∷ 2 ∷ 2 ∷ 2 ∷ 2 ∷ 2 ∷ 2 ∷ 2 ∷ 2 ∷ 2 ∷ 2 ∷ 2 ∷ 2 ∷ 2 ∷ 2 ∷ 2 ∷ 2 ∷ 2 ∷ 2 ∷ 2 ∷ 2 ∷ 2 ∷ 2 ∷ 2 ∷ 2 ∷ 2 ∷ 2 ∷ 2 ∷ 2 ∷ 2 ∷ 2 ∷ 2 ∷ 2 ∷ 2 ∷ 2 ∷ 2 ∷ 2 ∷ 2 ∷ 2 ∷ 2 ∷ 2 ∷ 2 ∷ 2 ∷ 2 ∷ 2 ∷ 2 ∷ 2 ∷ 2 ∷ 2 ∷ 2 ∷ 2 ∷ 2 ∷ 2 ∷ 2 ∷ 2 ∷ 2 ∷ 2 ∷ 2 ∷ 2 ∷ 2 ∷ 2 ∷ 2 ∷ 2 ∷ 2 ∷ 2 ∷ 2 ∷ 2 ∷ 2 ∷ []) "r") 50000 1 54

words_bad_first_holds : Claim words_bad_first
unfolding seen
words_bad_first_holds = refl

-- 256 words that want more, and the end
abbrev words-end : Row
words-end = check (symbols ++ nested 256 (1 ∷ []) "") 50000 1 54

words-end_holds : Claim words-end
unfolding seen
words-end_holds = refl

-- a bad variable sort ahead of 300 words
abbrev words-sort-first : Row
words-sort-first = check (symbols ++ put_record_of 3 (put 2 1 ++ put 2 0 ++ put 4 7 ++ replicate 1200 1)) 50000 1 54

words-sort-first_holds : Claim words-sort-first
unfolding seen
words-sort-first_holds = refl

-- a 257th sort, whatever its body holds
abbrev sort_257 : Row
sort_257 = reading (record { sorts = replicate 256 []; symbols = []; rules = []; nodes = []; steps = []; goals = []; results = []; cuts = []; abstracts = [] }) 1 77 (sort "") 2 77

sort_257_holds : Claim sort_257
unfolding seen
sort_257_holds = refl

-- a 4,097th symbol
abbrev symbol_4097 : Row
symbol_4097 = reading (record { sorts = []; symbols = replicate 4096 no_such_symbol; rules = []; nodes = []; steps = []; goals = []; results = []; cuts = []; abstracts = [] }) 2 77 (put_record_of 2 []) 2 77

symbol_4097_holds : Claim symbol_4097
unfolding seen
symbol_4097_holds = refl

-- a 4,097th rule
abbrev rule_4097 : Row
rule_4097 = reading (record { sorts = []; symbols = []; rules = replicate 4096 no_rule; nodes = []; steps = []; goals = []; results = []; cuts = []; abstracts = [] }) 3 77 (put_record_of 3 []) 2 77

rule_4097_holds : Claim rule_4097
unfolding seen
rule_4097_holds = refl

-- a 256th sort passes
abbrev sort_256 : Row
sort_256 = reading (record { sorts = replicate 255 []; symbols = []; rules = []; nodes = []; steps = []; goals = []; results = []; cuts = []; abstracts = [] }) 1 77 (sort "a") 0 0

sort_256_holds : Claim sort_256
unfolding seen
sort_256_holds = refl

abbrev pub rows : List Row
rows = arity_16 ∷ arity_17 ∷ arity_ahead ∷ arity_cut ∷ variables_64 ∷ variables_65 ∷ premises_16 ∷ premises_17 ∷ counts-cut ∷ words_256 ∷ words_257 ∷ words_257_bad ∷ words_wide_256 ∷ words_wide_257 ∷ words_bad_first ∷ words-end ∷ words-sort-first ∷ sort_257 ∷ symbol_4097 ∷ rule_4097 ∷ sort_256 ∷ []

pub hold : Holds rows
hold = (arity_16_holds, (arity_17_holds, (arity_ahead_holds, (arity_cut_holds, (variables_64_holds, (variables_65_holds, (premises_16_holds, (premises_17_holds, (counts-cut_holds, (words_256_holds, (words_257_holds, (words_257_bad_holds, (words_wide_256_holds, (words_wide_257_holds, (words_bad_first_holds, (words-end_holds, (words-sort-first_holds, (sort_257_holds, (symbol_4097_holds, (rule_4097_holds, (sort_256_holds, tt)))))))))))))))))))))
