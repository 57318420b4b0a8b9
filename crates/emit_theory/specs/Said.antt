-- What lines say: words read through the definitions are terms, and a hyp, step or induct line states a judgment.
use Rattle.std.specs.Prelude.{◌≡◌, refl, List, [], ◌∷◌, ◌++◌, ℕ, zero, suc, ◌+◌, ◌<◌, ◌≤◌, length, get_or}
use Rattle.std.proofs.Common.{sym, ap, ap₂, ◌∙◌, append_assoc, arith, length-append}
use Rattle.definition.specs.Pack.{Term, Terms, var, app, nil, cons}
use Rattle.emission.specs.Line.{Word, constant, defined, variable, Judgment, Line, var_line, def_line, hyp_line, step_line_of, induct_line, result_line, Tally, no_line, counting, tally_from, tally}
use Rattle.emission.specs.Induct.{case_number}
use Rattle.emission.specs.Begin.{eigen_number}
use Rattle.theory.specs.Patterns.Interned.{Grows, with, grows_none, grows_then, grows_at}

-- a word's term, the definitions' terms being these
unfoldable pub word_term : List Term → Word → Term
word_term ds (constant h) = app h nil
word_term ds (defined n) = get_or ds n (var 0)
word_term ds (variable zero) = var eigen_number
word_term ds (variable (suc k)) = var (case_number k)

unfoldable pub word_terms : List Term → List Word → Terms
unfolding word_term
word_terms ds [] = nil
word_terms ds (w ∷ ws) = cons (word_term ds w) (word_terms ds ws)

-- the judgment of a line
unfoldable pub judgment_term : List Term → Judgment → Term
unfolding word_terms
judgment_term ds j = app j.predicate (word_terms ds j.words)

-- one line more: only a def line defines
unfoldable pub defining : List Term → Line → List Term
unfolding word_terms
defining ds (var_line sort) = ds
defining ds (def_line head words) = ds ++ (app head (word_terms ds words) ∷ [])
defining ds (hyp_line j) = ds
defining ds (step_line_of rule refs j) = ds
defining ds (induct_line j cases) = ds
defining ds (result_line goal step) = ds

-- the terms of the definitions, each over those before it
unfoldable pub defined_from : List Term → List Line → List Term
unfolding defining
defined_from ds [] = ds
defined_from ds (l ∷ ls) = defined_from (defining ds l) ls

unfoldable pub definitions : List Line → List Term
unfolding defined_from
definitions ls = defined_from [] ls

-- the judgments of hyp, step and induct lines, by their numbers
unfoldable pub stating : Line → List Judgment
stating (var_line sort) = []
stating (def_line head words) = []
stating (hyp_line j) = j ∷ []
stating (step_line_of rule refs j) = j ∷ []
stating (induct_line j cases) = j ∷ []
stating (result_line goal step) = []

unfoldable pub stated : List Line → List Judgment
unfolding stating
stated [] = []
stated (l ∷ ls) = stating l ++ stated ls

abbrev pub no_judgment : Judgment
no_judgment = record { predicate = 0; words = [] }

-- words whose definitions are among the first n
abbrev pub WordBelow : ℕ → Word → Type 0
WordBelow n (constant h) = Unit {0}
WordBelow n (defined k) = k < n
WordBelow n (variable k) = Unit {0}

abbrev pub WordsBelow : ℕ → List Word → Type 0
WordsBelow n [] = Unit {0}
WordsBelow n (w ∷ ws) = WordBelow n w × WordsBelow n ws

-- ---- lines behind others
pub stated-behind : (ls ms : List Line) → stated (ls ++ ms) ≡ stated ls ++ stated ms
unfolding stated
stated-behind [] ms = refl
stated-behind (l ∷ ls) ms = ap (λ x. stating l ++ x) (stated-behind ls ms) ∙ sym (append_assoc (stating l) (stated ls) (stated ms))

pub defined_behind : (ds : List Term) (ls ms : List Line) → defined_from ds (ls ++ ms) ≡ defined_from (defined_from ds ls) ms
unfolding defined_from
defined_behind ds [] ms = refl
defined_behind ds (l ∷ ls) ms = defined_behind (defining ds l) ls ms

-- definitions that are there stay, and in front
defining_grows : (ds : List Term) (l : Line) → Grows ds (defining ds l)
unfolding defining
defining_grows ds (var_line sort) = grows_none ds
defining_grows ds (def_line head words) = with (app head (word_terms ds words) ∷ []) refl
defining_grows ds (hyp_line j) = grows_none ds
defining_grows ds (step_line_of rule refs j) = grows_none ds
defining_grows ds (induct_line j cases) = grows_none ds
defining_grows ds (result_line goal step) = grows_none ds

defined_grows : (ds : List Term) (ls : List Line) → Grows ds (defined_from ds ls)
unfolding defined_from
defined_grows ds [] = grows_none ds
defined_grows ds (l ∷ ls) = grows_then ds (defining ds l) (defined_from (defining ds l) ls) (defining_grows ds l) (defined_grows (defining ds l) ls)

pub definitions-grow : (ls ms : List Line) → Grows ls ms → Grows (definitions ls) (definitions ms)
unfolding definitions
definitions-grow ls ms (with more e) = rw (e, defined_behind [] ls more) (defined_grows (defined_from [] ls) more)

pub stated-grow : (ls ms : List Line) → Grows ls ms → Grows (stated ls) (stated ms)
stated-grow ls ms (with more e) = with (stated more) (ap stated e ∙ stated-behind ls more)

-- the tally's definitions and steps count just these
defined_count : (ds : List Term) (t : Tally) (ls : List Line) → length ds ≡ t.definitions → length (defined_from ds ls) ≡ (tally_from t ls).definitions
unfolding defined_from defining tally_from counting
defined_count ds t [] e = e
defined_count ds t (var_line sort ∷ ls) e = defined_count ds (counting t (var_line sort)) ls e
defined_count ds t (def_line head words ∷ ls) e =
    let k = length-append ds (app head (word_terms ds words) ∷ []) in
    defined_count (ds ++ (app head (word_terms ds words) ∷ [])) (counting t (def_line head words)) ls (omega arith)
defined_count ds t (hyp_line j ∷ ls) e = defined_count ds (counting t (hyp_line j)) ls e
defined_count ds t (step_line_of rule refs j ∷ ls) e = defined_count ds (counting t (step_line_of rule refs j)) ls e
defined_count ds t (induct_line j cases ∷ ls) e = defined_count ds (counting t (induct_line j cases)) ls e
defined_count ds t (result_line goal step ∷ ls) e = defined_count ds (counting t (result_line goal step)) ls e

pub count-definitions : (ls : List Line) → length (definitions ls) ≡ (tally ls).definitions
unfolding definitions tally
count-definitions ls = defined_count [] no_line ls refl

stated-count : (t : Tally) (ls : List Line) → t.steps + length (stated ls) ≡ (tally_from t ls).steps
unfolding stated stating tally_from counting
stated-count t [] = omega arith
stated-count t (var_line sort ∷ ls) = stated-count (counting t (var_line sort)) ls
stated-count t (def_line head words ∷ ls) = stated-count (counting t (def_line head words)) ls
stated-count t (hyp_line j ∷ ls) = let k = stated-count (counting t (hyp_line j)) ls in omega arith
stated-count t (step_line_of rule refs j ∷ ls) = let k = stated-count (counting t (step_line_of rule refs j)) ls in omega arith
stated-count t (induct_line j cases ∷ ls) = let k = stated-count (counting t (induct_line j cases)) ls in omega arith
stated-count t (result_line goal step ∷ ls) = stated-count (counting t (result_line goal step)) ls

pub count-stated : (ls : List Line) → length (stated ls) ≡ (tally ls).steps
unfolding tally
count-stated ls = let k = stated-count no_line ls in omega arith

-- ---- words over more definitions say the same
pub word_same : (ds es : List Term) → Grows ds es → (w : Word) → WordBelow (length ds) w → word_term es w ≡ word_term ds w
unfolding word_term
word_same ds es G (constant h) b = refl
word_same ds es G (defined k) b = grows_at ds es (var 0) k G b
word_same ds es G (variable zero) b = refl
word_same ds es G (variable (suc k)) b = refl

pub words_same : (ds es : List Term) → Grows ds es → (ws : List Word) → WordsBelow (length ds) ws → word_terms es ws ≡ word_terms ds ws
unfolding word_terms
words_same ds es G [] b = refl
words_same ds es G (w ∷ ws) b = ap₂ cons (word_same ds es G w b.0) (words_same ds es G ws b.1)

pub word_more : (n m : ℕ) → n ≤ m → (w : Word) → WordBelow n w → WordBelow m w
word_more n m h (constant x) b = tt
word_more n m h (defined k) b = omega arith
word_more n m h (variable k) b = tt

pub words_more : (n m : ℕ) → n ≤ m → (ws : List Word) → WordsBelow n ws → WordsBelow m ws
words_more n m h [] b = tt
words_more n m h (w ∷ ws) b = (word_more n m h w b.0, words_more n m h ws b.1)
