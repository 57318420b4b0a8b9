-- Demand 3, of the words that class building writes: what they must say of the pack's bytes.
use Rattle.std.specs.Prelude.{◌≡◌, true, false, List, ℕ, zero, suc, ◌<◌, eqb, length, get_or, drop}
use Rattle.std.proofs.Math.Option.{none}
use Rattle.definition.specs.Test.{any}
use Rattle.definition.specs.Pack.{Node, Pack, step_of}
use Rattle.definition.specs.Store.{nothing, nodes_in}
use Rattle.definition.specs.Tree.{Tree, tree_of}
use Rattle.definition.specs.Frame.{fine}
use Rattle.definition.specs.Parse.{parse}
use Rattle.definition.specs.Verdict.{Accepted}
use Rattle.definition.specs.Answer.{Lent, answer, lengths}
use Rattle.definition.specs.Run.{Run, LongEnough}
use Rattle.definition.specs.Keys.{needed, key_of}
use Rattle.definition.specs.Calls.{class_run, show_run, classes_lent, show_lent, Left}
use Rattle.theory.specs.Derive.{Judgment, InstanceOf, Derivation, Shape}

-- the pattern nodes, "by their number"
unfoldable pub patterns_in : List ℕ → List Node
unfolding nodes_in
patterns_in pattern = nodes_in (length pattern) pattern

-- "per class conclusion, instance count, variable count, flex marks": the words from a class's row on
unfoldable pub row_in : List ℕ → ℕ → List ℕ
row_in ws zero = ws
row_in ws (suc c) = row_in (drop (get_or ws 2 0) (drop 3 ws)) c

-- the rows stand behind "each step's class"
unfoldable pub conclusion_in : Pack → List ℕ → ℕ → ℕ
unfolding row_in
conclusion_in P class c = get_or (row_in (drop (length P.steps) class) c) 0 0

-- "some derivation of the class's shape concludes it"
abbrev pub Concluded : Pack → List ℕ → ℕ → Tree → Type 0
Concluded P class c j = (d : Derivation P j) × Shape P class d c

-- what n classes, their words and their patterns' say of an accepted pack
pub record Principal (P : Pack) (n : ℕ) (class pattern : List ℕ) : Type 0 where
  -- "each needed step's judgment is an instance of the conclusion written for its class"
  pub held : (s : ℕ) → s < length P.steps → any (eqb s) (needed P) ≡ true → (get_or class s 0 < n) × InstanceOf P (patterns_in pattern) (conclusion_in P class (get_or class s 0)) (tree_of P (step_of P s).judgment)
  -- "for every class written and every well-sorted judgment …, that judgment is an instance of the class's conclusion exactly when
  -- some derivation of the class's shape concludes it": the conclusion is wide enough, and it is narrow enough
  pub wide : (c : ℕ) → c < n → (j : Tree) → Judgment P j → Concluded P class c j → InstanceOf P (patterns_in pattern) (conclusion_in P class c) j
  pub narrow : (c : ℕ) → c < n → (j : Tree) → Judgment P j → InstanceOf P (patterns_in pattern) (conclusion_in P class c) j → Concluded P class c j
  -- "a step's class (the same for two needed steps just when their keys, or their cut predicates, are equal)", keys being read in the
  -- words written: equal keys have one class, and one class has equal keys
  pub one : (s t : ℕ) → s < length P.steps → t < length P.steps → any (eqb s) (needed P) ≡ true → any (eqb t) (needed P) ≡ true → key_of P class s ≡ key_of P class t → get_or class s 0 ≡ get_or class t 0
  pub apart : (s t : ℕ) → s < length P.steps → t < length P.steps → any (eqb s) (needed P) ≡ true → any (eqb t) (needed P) ≡ true → get_or class s 0 ≡ get_or class t 0 → key_of P class s ≡ key_of P class t
  -- "each step's class (2^32−1 if unneeded)": so a class's rule and refs are those of needed steps
  pub unneeded : (s : ℕ) → s < length P.steps → any (eqb s) (needed P) ≡ false → get_or class s 0 ≡ nothing
  -- "every class written" is some needed step's
  pub begun : (c : ℕ) → c < n → (s : ℕ) × (s < length P.steps) × (any (eqb s) (needed P) ≡ true) × (get_or class s 0 ≡ c)

-- demand 3 of a call by its run: if the step check accepts the pack, "and the buffers are long enough and within document 01's limits,
-- then class building never refuses", and what it writes is principal
abbrev pub DemandThreeOf : {A : Type 0} → (Pack → Run A) → List ℕ → Lent → Left → Type 0
DemandThreeOf run pack lent left =
    (P : Pack) → parse pack ≡ fine P → Accepted P → lengths lent ≡ none → LongEnough lent (run P)
    → (left.returned ≡ answer none) × Principal P left.figures.classes left.class left.pattern

-- of the class call
abbrev pub DemandThree : List ℕ → ℕ → ℕ → ℕ → ℕ → Left → Type 0
DemandThree pack class pattern graph work left = DemandThreeOf class_run pack (classes_lent (length pack) class pattern graph work) left

-- of the call that shows the goals, which builds the classes too
abbrev pub DemandThreeShown : List ℕ → (budget valueBudget class pattern graph work text : ℕ) → Left → Type 0
DemandThreeShown pack budget valueBudget class pattern graph work text left = DemandThreeOf (show_run budget valueBudget) pack (show_lent (length pack) class pattern graph work text) left
