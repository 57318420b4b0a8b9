-- Every line has a byte: no count of lines is more than the text's length.
use mathlib.Core.List.{List, [], ◌∷◌}
use Rattle.std.specs.Prelude.{ℕ, suc, ◌+◌, ◌≤◌}
use native.Mathlib.Omega.{arith}
use Rattle.std.proofs.Math.ListN.{length, length-append}
use Rattle.definition.specs.Pack.{Pack}
use Rattle.emission.specs.Line.{Line, var_line, def_line, hyp_line, step_line_of, induct_line, result_line, Tally, no_line, counting, tally_from, tally}
use Rattle.emission.specs.Render.{line_text, text_from, proof_text}
use Rattle.emission.proofs.Laws.Text.{line-has-bytes}

-- a line is counted once at the most
module _ (t : Tally) where
  one-step : (l : Line) → (counting t l).steps ≤ suc t.steps
  unfolding counting
  one-step (var_line sort) = omega arith
  one-step (def_line head words) = omega arith
  one-step (hyp_line j) = omega arith
  one-step (step_line_of rule refs j) = omega arith
  one-step (induct_line j cases) = omega arith
  one-step (result_line goal step) = omega arith

  one_definition : (l : Line) → (counting t l).definitions ≤ suc t.definitions
  unfolding counting
  one_definition (var_line sort) = omega arith
  one_definition (def_line head words) = omega arith
  one_definition (hyp_line j) = omega arith
  one_definition (step_line_of rule refs j) = omega arith
  one_definition (induct_line j cases) = omega arith
  one_definition (result_line goal step) = omega arith

  one-variable : (l : Line) → (counting t l).variables ≤ suc t.variables
  unfolding counting
  one-variable (var_line sort) = omega arith
  one-variable (def_line head words) = omega arith
  one-variable (hyp_line j) = omega arith
  one-variable (step_line_of rule refs j) = omega arith
  one-variable (induct_line j cases) = omega arith
  one-variable (result_line goal step) = omega arith

  one_induction : (l : Line) → (counting t l).inductions ≤ suc t.inductions
  unfolding counting
  one_induction (var_line sort) = omega arith
  one_induction (def_line head words) = omega arith
  one_induction (hyp_line j) = omega arith
  one_induction (step_line_of rule refs j) = omega arith
  one_induction (induct_line j cases) = omega arith
  one_induction (result_line goal step) = omega arith

module _ (P : Pack) (L : List ℕ) where
  -- a count that grows by one a line at the most
  count-from : (f : Tally → ℕ) → ((t : Tally) (l : Line) → f (counting t l) ≤ suc (f t)) → (t : Tally) (ls : List Line) → f (tally_from t ls) ≤ f t + length (text_from P L t ls)
  unfolding tally_from text_from
  count-from f h t [] = omega arith
  count-from f h t (l ∷ ls) =
      let u = counting t l in
      let a = count-from f h u ls in
      let b = h t l in
      let c = line-has-bytes P L t l in
      let d = length-append (line_text P L t l) (text_from P L u ls) in
      omega (arith, a, b, c, d)

  module _ (ls : List Line) where
    -- the four counts
    pub steps_few : (tally ls).steps ≤ length (proof_text P L ls)
    unfolding tally proof_text
    steps_few = let z : (tally ls).steps ≤ 0 + length (proof_text P L ls) = count-from (λ t. t.steps) (λ t l. one-step t l) no_line ls in omega arith

    pub definitions_few : (tally ls).definitions ≤ length (proof_text P L ls)
    unfolding tally proof_text
    definitions_few = let z : (tally ls).definitions ≤ 0 + length (proof_text P L ls) = count-from (λ t. t.definitions) (λ t l. one_definition t l) no_line ls in omega arith

    pub variables_few : (tally ls).variables ≤ length (proof_text P L ls)
    unfolding tally proof_text
    variables_few = let z : (tally ls).variables ≤ 0 + length (proof_text P L ls) = count-from (λ t. t.variables) (λ t l. one-variable t l) no_line ls in omega arith

    pub inductions_few : (tally ls).inductions ≤ length (proof_text P L ls)
    unfolding tally proof_text
    inductions_few = let z : (tally ls).inductions ≤ 0 + length (proof_text P L ls) = count-from (λ t. t.inductions) (λ t l. one_induction t l) no_line ls in omega arith
