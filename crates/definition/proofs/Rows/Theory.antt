-- Rows on the sorts of symbols and rules.
use Rattle.std.specs.Prelude.{refl, List, [], ◌∷◌, ◌++◌, ◌+◌}
use Rattle.definition.specs.Pack.{prop}
use Rattle.definition.specs.Rows.Say.{sort, symbol, rule, X}
use Rattle.definition.specs.Rows.Front.{symbols, rules}
use Rattle.definition.specs.Rows.Row.{Row, check, Claim, seen, Holds}

-- an output sort that is not there
abbrev output_unknown : Row
output_unknown = check (symbols ++ symbol 1 [] "w") 50000 1 54

output_unknown_holds : Claim output_unknown
unfolding seen
output_unknown_holds = refl

-- an input sort that is not there
abbrev input_unknown : Row
input_unknown = check (symbols ++ symbol 0 (1 ∷ []) "w") 50000 1 54

input_unknown_holds : Claim input_unknown
unfolding seen
input_unknown_holds = refl

-- a variable's sort that is not there
abbrev variable-sort : Row
variable-sort = check (rules ++ rule (1 ∷ []) 0 (2 ∷ 0 ∷ []) "r") 50000 1 110

variable-sort_holds : Claim variable-sort
unfolding seen
variable-sort_holds = refl

-- a variable is no judgment
abbrev variable_on_top : Row
variable_on_top = check (rules ++ rule (0 ∷ []) 0 (X ∷ []) "r") 50000 1 110

variable_on_top_holds : Claim variable_on_top
unfolding seen
variable_on_top_holds = refl

-- a constructor is no judgment
abbrev constructor_on_top : Row
constructor_on_top = check (rules ++ rule [] 0 (0 ∷ []) "r") 50000 1 110

constructor_on_top_holds : Claim constructor_on_top
unfolding seen
constructor_on_top_holds = refl

-- predicates only at the top
abbrev predicate_below : Row
predicate_below = check (rules ++ rule [] 0 (2 ∷ 2 ∷ 0 ∷ []) "r") 50000 1 110

predicate_below_holds : Claim predicate_below
unfolding seen
predicate_below_holds = refl

-- a variable that is not there
abbrev variable_unknown : Row
variable_unknown = check (rules ++ rule (0 ∷ []) 0 (2 ∷ (X + 1) ∷ []) "r") 50000 1 110

variable_unknown_holds : Claim variable_unknown
unfolding seen
variable_unknown_holds = refl

-- a symbol that is not there
abbrev symbol_unknown : Row
symbol_unknown = check (rules ++ rule [] 0 (3 ∷ []) "r") 50000 1 110

symbol_unknown_holds : Claim symbol_unknown
unfolding seen
symbol_unknown_holds = refl

-- a variable at a place of another sort
abbrev variable_elsewhere : Row
variable_elsewhere = check (sort "N" ++ sort "M" ++ symbol prop (0 ∷ []) "p" ++ rule (1 ∷ []) 0 (0 ∷ X ∷ []) "r") 50000 1 31

variable_elsewhere_holds : Claim variable_elsewhere
unfolding seen
variable_elsewhere_holds = refl

-- a variable that does not occur
abbrev variable_unused : Row
variable_unused = check (rules ++ rule (0 ∷ 0 ∷ []) 0 (2 ∷ (X + 1) ∷ []) "r") 50000 0 0

variable_unused_holds : Claim variable_unused
unfolding seen
variable_unused_holds = refl

-- a word too many is read as name bytes
abbrev word_as_name : Row
word_as_name = check (rules ++ rule [] 0 (2 ∷ 0 ∷ 1633771873 ∷ []) "r") 50000 0 0

word_as_name_holds : Claim word_as_name
unfolding seen
word_as_name_holds = refl

-- and fails if they are none
abbrev word_as_bad_name : Row
word_as_bad_name = check (rules ++ rule [] 0 (2 ∷ 0 ∷ 1 ∷ []) "r") 50000 1 110

word_as_bad_name_holds : Claim word_as_bad_name
unfolding seen
word_as_bad_name_holds = refl

abbrev pub rows : List Row
rows = output_unknown ∷ input_unknown ∷ variable-sort ∷ variable_on_top ∷ constructor_on_top ∷ predicate_below ∷ variable_unknown ∷ symbol_unknown ∷ variable_elsewhere ∷ variable_unused ∷ word_as_name ∷ word_as_bad_name ∷ []

pub hold : Holds rows
hold = (output_unknown_holds, (input_unknown_holds, (variable-sort_holds, (variable_on_top_holds, (constructor_on_top_holds, (predicate_below_holds, (variable_unknown_holds, (symbol_unknown_holds, (variable_elsewhere_holds, (variable_unused_holds, (word_as_name_holds, (word_as_bad_name_holds, tt))))))))))))
