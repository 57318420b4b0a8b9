-- Demand 3 has teeth: on small packs that the step check accepts, in buffers that are long enough, it is false of what wrong ports leave.
use Rattle.std.specs.Prelude.{◌≡◌, refl, true, false, List, [], ◌∷◌, ℕ, zero, suc, ◌<◌, length, get_or}
use Rattle.std.proofs.Common.{sym, ap, ◌∙◌, subst, arith}
use Rattle.std.proofs.Math.Option.{none as nothing-refused}
use Rattle.definition.specs.Test.{never, any}
use Rattle.definition.specs.Pack.{prop, Symbol, var, app, nil, cons, Rule, Step, Result, no_node, Pack, empty, symbol_of, rule_of, step_of}
use Rattle.definition.specs.Tree.{Tree, tree, no_trees, tree_then, tree_of, turn}
use Rattle.definition.specs.Frame.{fine, ◌>>=◌, right, within}
use Rattle.definition.specs.Parse.{parse}
use Rattle.definition.specs.Encode.{encode}
use Rattle.definition.specs.Verdict.{judgments, Passes, Accepted}
use Rattle.definition.specs.Answer.{answer, lengths, padded}
use Rattle.definition.specs.Store.{nothing, variable_head, is_variable, term_of}
use Rattle.definition.specs.Analysis.{parts}
use Rattle.definition.specs.Keys.{first_of, predicate_of, is_a_cut, needed, key_of, rule_key}
use Rattle.definition.specs.Run as run
use Rattle.definition.specs.Run.{LongEnough}
use Rattle.definition.specs.Calls.{class_run, classes_lent, Left}
use Rattle.definition.specs.declared.Answer.{Answer}
use Rattle.theory.specs.Derive.{SortedTree, In, InstanceOf, Derivation, leaf, by, none, more}
use Rattle.theory.specs.Principal.{patterns_in, conclusion_in, Concluded, Principal, DemandThree}

-- what a port leaves that tells of n classes and writes these words, zeros behind them; whatever else it leaves
abbrev pub Writes : ℕ → ℕ → ℕ → List ℕ → List ℕ → Left → Type 0
Writes class pattern n ws ps left = (left.figures.classes ≡ n) × (left.class ≡ padded class ws) × (left.pattern ≡ padded pattern ps)

-- graph and work long enough for each pack here
abbrev pub cells : ℕ
cells = 20

abbrev pub words : ℕ
words = 10000

-- such a port breaks demand 3: a class buffer of this length and a pattern buffer of that
abbrev pub Bitten : Pack → ℕ → ℕ → ℕ → List ℕ → List ℕ → Type 0
Bitten P class pattern n ws ps = (left : Left) → Writes class pattern n ws ps left → DemandThree (encode P) class pattern cells words left → ⊥

-- demand 3 speaks of this pack with these lengths
record Spoken (P : Pack) (class pattern : ℕ) : Type 0 where
  read : parse (encode P) ≡ fine P
  accepted : Accepted P
  within_limits : lengths (classes_lent (length (encode P)) class pattern cells words) ≡ nothing-refused
  enough : LongEnough (classes_lent (length (encode P)) class pattern cells words) (class_run P)

bites : (P : Pack) (class pattern n : ℕ) (ws ps : List ℕ) → Spoken P class pattern → (Principal P n (padded class ws) (padded pattern ps) → ⊥) → Bitten P class pattern n ws ps
bites P class pattern n ws ps S refuted left w H =
    let a = (H P S.read S.accepted S.within_limits S.enough).1 in
    let b = subst (λ (k : ℕ). Principal P k left.class left.pattern) w.0 a in
    let c = subst (λ (k : List ℕ). Principal P n k left.pattern) w.1 b in
    refuted (subst (λ (k : List ℕ). Principal P n (padded class ws) k) w.2 c)

-- a symbol by its output, its inputs and its name's one byte
abbrev pub symbol : ℕ → List ℕ → ℕ → Symbol
symbol output inputs name = record { output = output; inputs = inputs; name = name ∷ [] }

-- a tree of no arguments
abbrev pub lone : ℕ → Tree
lone h = tree h no_trees

-- two judgments by two rules, both results
abbrev pub two : Pack
two = record {
  sorts = [];
  symbols = symbol prop [] 97 ∷ symbol prop [] 98 ∷ [];
  rules = record { vars = []; premises = nil; conclusion = app 0 nil; name = 97 ∷ [] } ∷ record { vars = []; premises = nil; conclusion = app 1 nil; name = 98 ∷ [] } ∷ [];
  nodes = record { head = 0; args = [] } ∷ record { head = 1; args = [] } ∷ [];
  steps = record { rule = 0; judgment = 0; refs = [] } ∷ record { rule = 1; judgment = 1; refs = [] } ∷ [];
  goals = [];
  results = record { step = 0; name = 97 ∷ [] } ∷ record { step = 1; name = 98 ∷ [] } ∷ [];
  cuts = [];
  abstracts = [];
}

-- both steps pass
two-passes : (i : ℕ) → i < length two.steps → Passes two (step_of two i)
unfolding step_of rule_of turn judgments tree_of
two-passes zero h = record { assignment = λ k. lone 0; premises = refl; conclusion = refl }
two-passes (suc zero) h = record { assignment = λ k. lone 0; premises = refl; conclusion = refl }
two-passes (suc (suc i)) h = absurd (omega arith)

-- the class words of one class for both, and its pattern
abbrev one_class : List ℕ
one_class = 0 ∷ 0 ∷ 0 ∷ 2 ∷ 0 ∷ []

abbrev one_pattern : List ℕ
one_pattern = 0 ∷ 0 ∷ []

-- the second step's judgment is no instance of the first's
two-not : InstanceOf two (patterns_in (padded 4 one_pattern)) (conclusion_in two (padded 8 one_class) 0) (tree_of two 1) → ⊥
unfolding padded patterns_in conclusion_in term_of turn tree_of
two-not I = let e : lone 0 ≡ lone 1 = I.is in let z : ◌≡◌ {A = ℕ} 0 1 = cc in never z

-- "classifies the first step and gives all others its class"
pub all_one : Bitten two 8 4 1 one_class one_pattern
unfolding parse encode ◌>>=◌ right within lengths class_run run.◌>>=◌ run.has_room_for padded step_of needed any
all_one = bites two 8 4 1 one_class one_pattern (record { read = refl; accepted = record { steps = two-passes; goals = λ i h. absurd (omega arith) }; within_limits = refl; enough = refl }) (λ H. two-not (H.held 1 (omega arith) refl).1)

-- a sort with two constants, a predicate over it, and the predicate's judgments of both; these rules, steps and results
abbrev pub ruled : List Rule → List Step → List Result → Pack
ruled rules steps results = record {
  sorts = (110 ∷ []) ∷ [];
  symbols = symbol 0 [] 122 ∷ symbol 0 [] 111 ∷ symbol prop (0 ∷ []) 112 ∷ [];
  rules = rules;
  nodes = record { head = 0; args = [] } ∷ record { head = 2; args = 0 ∷ [] } ∷ record { head = 1; args = [] } ∷ record { head = 2; args = 2 ∷ [] } ∷ [];
  steps = steps;
  goals = [];
  results = results;
  cuts = [];
  abstracts = [];
}

-- the rule for the first constant alone, and one for all, by its name's byte
abbrev pub for_first : Rule
for_first = record { vars = []; premises = nil; conclusion = app 2 (cons (app 0 nil) nil); name = 112 ∷ [] }

abbrev pub for_all : ℕ → Rule
for_all name = record { vars = 0 ∷ []; premises = nil; conclusion = app 2 (cons (var 0) nil); name = name ∷ [] }

-- the judgment of the first constant and that of the second, by a rule
abbrev pub first : ℕ → Step
first r = record { rule = r; judgment = 1; refs = [] }

abbrev pub second : ℕ → Step
second r = record { rule = r; judgment = 3; refs = [] }

-- the results of the first step, and of both
abbrev pub one_result : List Result
one_result = record { step = 0; name = 114 ∷ [] } ∷ []

abbrev pub both_results : List Result
both_results = record { step = 0; name = 114 ∷ [] } ∷ record { step = 1; name = 115 ∷ [] } ∷ []

-- one step by the rule for the first constant; one by the rule for all; two by that rule; two by two such rules, both results or one
abbrev pub fixed : Pack
fixed = ruled (for_first ∷ []) (first 0 ∷ []) one_result

abbrev pub free : Pack
free = ruled (for_all 112 ∷ []) (first 0 ∷ []) one_result

abbrev pub spread : Pack
spread = ruled (for_all 112 ∷ []) (first 0 ∷ second 0 ∷ []) both_results

abbrev pub doubled : Pack
doubled = ruled (for_all 112 ∷ for_all 113 ∷ []) (first 0 ∷ second 1 ∷ []) both_results

abbrev pub idle : Pack
idle = ruled (for_all 112 ∷ for_all 113 ∷ []) (first 0 ∷ second 1 ∷ []) one_result

-- all their steps pass
fixed-passes : (i : ℕ) → i < length fixed.steps → Passes fixed (step_of fixed i)
unfolding step_of rule_of turn judgments tree_of
fixed-passes zero h = record { assignment = lone; premises = refl; conclusion = refl }
fixed-passes (suc i) h = absurd (omega arith)

free-passes : (i : ℕ) → i < length free.steps → Passes free (step_of free i)
unfolding step_of rule_of turn judgments tree_of
free-passes zero h = record { assignment = lone; premises = refl; conclusion = refl }
free-passes (suc i) h = absurd (omega arith)

spread-passes : (i : ℕ) → i < length spread.steps → Passes spread (step_of spread i)
unfolding step_of rule_of turn judgments tree_of
spread-passes zero h = record { assignment = λ k. lone 0; premises = refl; conclusion = refl }
spread-passes (suc zero) h = record { assignment = λ k. lone 1; premises = refl; conclusion = refl }
spread-passes (suc (suc i)) h = absurd (omega arith)

doubled-passes : (rs : List Result) (i : ℕ) → i < 2 → Passes (ruled (for_all 112 ∷ for_all 113 ∷ []) (first 0 ∷ second 1 ∷ []) rs) (step_of (ruled (for_all 112 ∷ for_all 113 ∷ []) (first 0 ∷ second 1 ∷ []) rs) i)
unfolding step_of rule_of turn judgments tree_of
doubled-passes rs zero h = record { assignment = λ k. lone 0; premises = refl; conclusion = refl }
doubled-passes rs (suc zero) h = record { assignment = λ k. lone 1; premises = refl; conclusion = refl }
doubled-passes rs (suc (suc i)) h = absurd (omega arith)

-- the predicate over a constant
abbrev pub over : ℕ → Tree
over h = tree 2 (tree_then (lone h) no_trees)

-- only the first constant's judgment is derived by its rule
fixed-not : {j : Tree} → Derivation fixed j → j ≡ over 1 → ⊥
unfolding rule_of turn is_a_cut any
fixed-not (leaf p ts h c) e = never (let z : false ≡ true = c in cc)
fixed-not (by zero ν l fp fc ep ec ds) e = let z : over 0 ≡ over 1 = ec ∙ e in let y : ◌≡◌ {A = ℕ} 0 1 = cc in never y
fixed-not (by (suc r) ν l fp fc ep ec ds) e = absurd (omega arith)

-- the words of a class whose conclusion is the predicate of a variable, and its patterns
abbrev pub variable_class : List ℕ
variable_class = 0 ∷ 1 ∷ 1 ∷ 1 ∷ 1 ∷ []

abbrev pub variable_pattern : List ℕ
variable_pattern = 2 ∷ variable_head ∷ 0 ∷ 0 ∷ 1 ∷ 2 ∷ 0 ∷ []

-- the second constant's judgment is an instance of it
fixed_instance : InstanceOf fixed (patterns_in (padded 7 variable_pattern)) (conclusion_in fixed (padded 5 variable_class) 0) (over 1)
unfolding padded patterns_in conclusion_in term_of turn is_variable symbol_of
fixed_instance = record { assignment = λ k. lone 1; sorted = sorts; is = refl } where
  sorts : (q : ℕ) → In q (parts (patterns_in (padded 7 variable_pattern)) (conclusion_in fixed (padded 5 variable_class) 0)) → is_variable (get_or (patterns_in (padded 7 variable_pattern)) q no_node) ≡ true
      → SortedTree fixed (lone 1) (get_or (get_or (patterns_in (padded 7 variable_pattern)) q no_node).args 1 0)
  sorts zero i v = (omega arith, refl, tt)
  sorts (suc zero) i v = never (let z : false ≡ true = v in cc)
  sorts (suc (suc q)) i v = never (let z : false ≡ true = v in cc)

-- "one whose conclusions are always all variables"
pub all_variables : Bitten fixed 5 7 1 variable_class variable_pattern
unfolding parse encode ◌>>=◌ right within lengths class_run run.◌>>=◌ run.has_room_for step_of symbol_of
all_variables = bites fixed 5 7 1 variable_class variable_pattern
    (record { read = refl; accepted = record { steps = fixed-passes; goals = λ i h. absurd (omega arith) }; within_limits = refl; enough = refl })
    (λ H. fixed-not (H.narrow 0 (omega arith) (over 1) (omega arith, refl, ((omega arith, refl, tt), tt)) fixed_instance).0 refl)

-- the words of a class whose conclusion is the predicate of the first constant, and its patterns
abbrev pub ground_class : List ℕ
ground_class = 0 ∷ 1 ∷ 1 ∷ 0 ∷ []

abbrev pub ground_pattern : List ℕ
ground_pattern = 0 ∷ 0 ∷ 1 ∷ 2 ∷ 0 ∷ []

-- the second constant's judgment is concluded
free_concluded : Concluded free (padded 5 ground_class) 0 (over 1)
unfolding padded rule_of step_of symbol_of predicate_of is_a_cut any turn
free_concluded = (
  by 0 (λ k. lone 1) (omega arith) tt ((omega arith, refl, tt), tt) refl refl none,
  (0, record { given = omega arith; word = refl }, refl, refl, tt),
)

-- it is no instance of the first's
free-not : InstanceOf free (patterns_in (padded 7 ground_pattern)) (conclusion_in free (padded 5 ground_class) 0) (over 1) → ⊥
unfolding padded patterns_in conclusion_in term_of turn
free-not I = let e : over 0 ≡ over 1 = I.is in let z : ◌≡◌ {A = ℕ} 0 1 = cc in never z

-- "or always the ground judgment itself"
pub all_ground : Bitten free 5 7 1 ground_class ground_pattern
unfolding parse encode ◌>>=◌ right within lengths class_run run.◌>>=◌ run.has_room_for step_of symbol_of
all_ground = bites free 5 7 1 ground_class ground_pattern
    (record { read = refl; accepted = record { steps = free-passes; goals = λ i h. absurd (omega arith) }; within_limits = refl; enough = refl })
    (λ H. free-not (H.wide 0 (omega arith) (over 1) (omega arith, refl, ((omega arith, refl, tt), tt)) free_concluded))

-- the words of two classes with one conclusion, and those of one class of two steps
abbrev pub split_class : List ℕ
split_class = 0 ∷ 1 ∷ 1 ∷ 1 ∷ 1 ∷ 0 ∷ 1 ∷ 1 ∷ 1 ∷ 0 ∷ []

abbrev pub merged_class : List ℕ
merged_class = 0 ∷ 0 ∷ 1 ∷ 2 ∷ 1 ∷ 0 ∷ []

-- two classes for one key
pub split : Bitten spread 10 7 2 split_class variable_pattern
unfolding parse encode ◌>>=◌ right within lengths class_run run.◌>>=◌ run.has_room_for padded step_of needed any key_of
split = bites spread 10 7 2 split_class variable_pattern
    (record { read = refl; accepted = record { steps = spread-passes; goals = λ i h. absurd (omega arith) }; within_limits = refl; enough = refl })
    (λ H. let z : ◌≡◌ {A = ℕ} 0 1 = H.one 0 1 (omega arith) (omega arith) refl refl refl in never z)

-- one class for two keys, whose conclusions are alike
pub merged : Bitten doubled 10 7 1 merged_class variable_pattern
unfolding parse encode ◌>>=◌ right within lengths class_run run.◌>>=◌ run.has_room_for padded step_of needed any key_of
merged = bites doubled 10 7 1 merged_class variable_pattern
    (record { read = refl; accepted = record { steps = doubled-passes both_results; goals = λ i h. absurd (omega arith) }; within_limits = refl; enough = refl })
    (λ H. let e : rule_key 0 [] ≡ rule_key 1 [] = H.apart 0 1 (omega arith) (omega arith) refl refl refl in let z : ◌≡◌ {A = ℕ} 0 1 = cc in never z)

-- a class more than there are, its row the zeros behind the right words
pub invented : Bitten spread 9 7 2 merged_class variable_pattern
unfolding parse encode ◌>>=◌ right within lengths class_run run.◌>>=◌ run.has_room_for padded step_of
invented = bites spread 9 7 2 merged_class variable_pattern
    (record { read = refl; accepted = record { steps = spread-passes; goals = λ i h. absurd (omega arith) }; within_limits = refl; enough = refl })
    (λ H. let b = H.begun 1 (omega arith) in no_step b.0 b.1 b.3) where
      no_step : (s : ℕ) → s < 2 → get_or (padded 9 merged_class) s 0 ≡ 1 → ⊥
      no_step zero h e = never e
      no_step (suc zero) h e = never e
      no_step (suc (suc s)) h e = absurd (omega arith)

-- a class for a step that is not needed, by another rule
pub unneeded_classed : Bitten idle 6 7 1 (0 ∷ 0 ∷ 1 ∷ 1 ∷ 1 ∷ 0 ∷ []) variable_pattern
unfolding parse encode ◌>>=◌ right within lengths class_run run.◌>>=◌ run.has_room_for padded step_of needed any
unneeded_classed = bites idle 6 7 1 (0 ∷ 0 ∷ 1 ∷ 1 ∷ 1 ∷ 0 ∷ []) variable_pattern
    (record { read = refl; accepted = record { steps = doubled-passes one_result; goals = λ i h. absurd (omega arith) }; within_limits = refl; enough = refl })
    (λ H. let z : ◌≡◌ {A = ℕ} 0 nothing = H.unneeded 1 (omega arith) refl in absurd (omega arith))

-- the predicate of all, and a predicate of two by the first predicate of each; its judgment of the first constant twice, with one ref twice
abbrev pub paired : Pack
paired = record {
  sorts = (110 ∷ []) ∷ [];
  symbols = symbol 0 [] 122 ∷ symbol 0 [] 111 ∷ symbol prop (0 ∷ []) 112 ∷ symbol prop (0 ∷ 0 ∷ []) 113 ∷ [];
  rules =
      record { vars = 0 ∷ []; premises = nil; conclusion = app 2 (cons (var 0) nil); name = 112 ∷ [] }
      ∷ record {
        vars = 0 ∷ 0 ∷ [];
        premises = cons (app 2 (cons (var 0) nil)) (cons (app 2 (cons (var 1) nil)) nil);
        conclusion = app 3 (cons (var 0) (cons (var 1) nil));
        name = 113 ∷ [];
      }
      ∷ [];
  nodes = record { head = 0; args = [] } ∷ record { head = 2; args = 0 ∷ [] } ∷ record { head = 3; args = 0 ∷ 0 ∷ [] } ∷ [];
  steps = record { rule = 0; judgment = 1; refs = [] } ∷ record { rule = 1; judgment = 2; refs = 0 ∷ 0 ∷ [] } ∷ [];
  goals = [];
  results = record { step = 1; name = 114 ∷ [] } ∷ [];
  cuts = [];
  abstracts = [];
}

-- the second predicate over two constants
abbrev pub pair : ℕ → ℕ → Tree
pair h k = tree 3 (tree_then (lone h) (tree_then (lone k) no_trees))

-- both steps pass
paired-passes : (i : ℕ) → i < length paired.steps → Passes paired (step_of paired i)
unfolding step_of rule_of turn judgments tree_of
paired-passes zero h = record { assignment = λ k. lone 0; premises = refl; conclusion = refl }
paired-passes (suc zero) h = record { assignment = λ k. lone 0; premises = refl; conclusion = refl }
paired-passes (suc (suc i)) h = absurd (omega arith)

-- the words of two classes, the second's conclusion over one variable twice, and their patterns
abbrev pub shared_class : List ℕ
shared_class = 0 ∷ 1 ∷ (1 ∷ 1 ∷ 1 ∷ 1 ∷ 2 ∷ 1 ∷ 1 ∷ 1 ∷ [])

abbrev pub shared_pattern : List ℕ
shared_pattern = 2 ∷ variable_head ∷ 0 ∷ 0 ∷ 1 ∷ 2 ∷ 0 ∷ 2 ∷ 3 ∷ 0 ∷ 0 ∷ []

-- each constant's judgment of the first predicate, in the first class's shape
paired_premise : (h : ℕ) → h < 2 → Concluded paired (padded 11 shared_class) 0 (over h)
unfolding padded rule_of step_of symbol_of predicate_of is_a_cut any turn
paired_premise h l = (
  by 0 (λ k. lone h) (omega arith) tt (constant h l, tt) refl refl none,
  (0, record { given = omega arith; word = refl }, refl, refl, tt),
) where
  constant : (h : ℕ) → h < 2 → SortedTree paired (lone h) 0
  constant zero l = (omega arith, refl, tt)
  constant (suc zero) l = (omega arith, refl, tt)
  constant (suc (suc h)) l = absurd (omega arith)

-- the judgment of the two constants is concluded
paired_concluded : Concluded paired (padded 11 shared_class) 1 (pair 0 1)
unfolding padded rule_of step_of symbol_of predicate_of first_of is_a_cut any turn
paired_concluded =
    let p = paired_premise 0 (omega arith) in
    let q = paired_premise 1 (omega arith) in
    let z : SortedTree paired (lone 0) 0 = (omega arith, refl, tt) in
    let o : SortedTree paired (lone 1) 0 = (omega arith, refl, tt) in (
      by 1 lone (omega arith) ((z, tt), ((o, tt), tt)) (z, (o, tt)) refl refl (more p.0 (more q.0 none)),
      (1, record { given = omega arith; word = refl }, refl, refl, (p.1, (q.1, tt))),
    )

-- it is no instance of the second's conclusion
paired-not : InstanceOf paired (patterns_in (padded 15 shared_pattern)) (conclusion_in paired (padded 11 shared_class) 1) (pair 0 1) → ⊥
unfolding padded patterns_in conclusion_in term_of turn
paired-not I =
    let x = I.assignment 0 in
    let e : tree 3 (tree_then x (tree_then x no_trees)) ≡ pair 0 1 = I.is in
    let a : x ≡ lone 0 = cc in
    let b : x ≡ lone 1 = cc in
    let c : lone 0 ≡ lone 1 = sym a ∙ b in
    let z : ◌≡◌ {A = ℕ} 0 1 = cc in
    never z

-- "sharing one copy between two premises"
pub shared_copy : Bitten paired 11 15 2 shared_class shared_pattern
unfolding parse encode ◌>>=◌ right within lengths class_run run.◌>>=◌ run.has_room_for step_of symbol_of
shared_copy = bites paired 11 15 2 shared_class shared_pattern
    (record { read = refl; accepted = record { steps = paired-passes; goals = λ i h. absurd (omega arith) }; within_limits = refl; enough = refl })
    (λ H. paired-not (H.wide 1 (omega arith) (pair 0 1) (omega arith, refl, ((omega arith, refl, tt), ((omega arith, refl, tt), tt))) paired_concluded))

-- "A call that always refuses": of the pack of no bytes, with the least that may be lent
pub always_refused : (left : Left) → (left.returned.code ≡ 0 → ⊥) → DemandThree [] 0 0 0 1024 left → ⊥
unfolding parse lengths class_run answer run.◌>>=◌ run.has_room_for
always_refused left refuses H = refuses (ap (λ (a : Answer). a.code) (H empty refl (record { steps = λ i h. absurd (omega arith); goals = λ i h. absurd (omega arith) }) refl refl).0)
