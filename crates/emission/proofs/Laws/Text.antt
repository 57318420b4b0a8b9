-- One line more is its own text behind the text so far, and one more in the tally.
use Rattle.std.specs.Prelude.{◌≡◌, ℕ, ◌<◌, length}
use Rattle.std.proofs.Math.Path.{refl, sym, ap}
use Rattle.std.proofs.Common.{◌∙◌, length-append}
use mathlib.Core.List.{List, [], ◌∷◌, ◌++◌, append_assoc, append-nil}
use native.Mathlib.Omega.{arith}
use Rattle.definition.specs.Pack.{Pack}
use Rattle.definition.specs.Ascii.{bytes}
use Rattle.emission.specs.Line.{Line, var_line, def_line, hyp_line, step_line_of, induct_line, result_line, GoalLine, Tally, no_line, counting, tally_from, tally}
use Rattle.emission.specs.Render.{line_text, var_text, text_from, proof_text, goal_line_text, goal_lines_text, goal_text}

pub tally-behind : (t : Tally) (ls ms : List Line) → tally_from t (ls ++ ms) ≡ tally_from (tally_from t ls) ms
unfolding tally_from
tally-behind t [] ms = refl
tally-behind t (l ∷ ls) ms = tally-behind (counting t l) ls ms

pub tally-one-more : (ls : List Line) (l : Line) → tally (ls ++ (l ∷ [])) ≡ counting (tally ls) l
unfolding tally tally_from
tally-one-more ls l = tally-behind no_line ls (l ∷ [])

module _ (P : Pack) (L : List ℕ) where
  pub text_behind : (t : Tally) (ls ms : List Line) → text_from P L t (ls ++ ms) ≡ text_from P L t ls ++ text_from P L (tally_from t ls) ms
  unfolding text_from tally_from
  text_behind t [] ms = refl
  text_behind t (l ∷ ls) ms =
      ap (λ x. line_text P L t l ++ x) (text_behind (counting t l) ls ms)
      ∙ sym (append_assoc (line_text P L t l) (text_from P L (counting t l) ls) (text_from P L (tally_from (counting t l) ls) ms))

  pub text_one-more : (ls : List Line) (l : Line) → proof_text P L (ls ++ (l ∷ [])) ≡ proof_text P L ls ++ line_text P L (tally ls) l
  unfolding proof_text text_from tally
  text_one-more ls l = text_behind no_line ls (l ∷ []) ∙ ap (λ x. text_from P L no_line ls ++ x) (append-nil (line_text P L (tally_from no_line ls) l))

  goals_behind : (gs : List GoalLine) (g : GoalLine) → goal_lines_text P L (gs ++ (g ∷ [])) ≡ goal_lines_text P L gs ++ goal_line_text P L g
  unfolding goal_lines_text
  goals_behind [] g = append-nil (goal_line_text P L g)
  goals_behind (f ∷ gs) g = ap (λ x. goal_line_text P L f ++ x) (goals_behind gs g) ∙ sym (append_assoc (goal_line_text P L f) (goal_lines_text P L gs) (goal_line_text P L g))

  -- the goal text likewise
  pub goal-one-more : (sort : ℕ) (gs : List GoalLine) (g : GoalLine) → goal_text P L sort (gs ++ (g ∷ [])) ≡ goal_text P L sort gs ++ goal_line_text P L g
  unfolding goal_text
  goal-one-more sort gs g = ap (λ x. var_text P L 0 sort ++ x) (goals_behind gs g) ∙ sym (append_assoc (var_text P L 0 sort) (goal_lines_text P L gs) (goal_line_text P L g))

  -- no line is empty
  pub line-has-bytes : (t : Tally) (l : Line) → 0 < length (line_text P L t l)
  unfolding line_text var_text bytes
  line-has-bytes t (var_line sort) = omega arith
  line-has-bytes t (def_line head words) = omega arith
  line-has-bytes t (hyp_line j) = omega arith
  line-has-bytes t (step_line_of rule refs j) = omega arith
  line-has-bytes t (induct_line j cases) = omega arith
  line-has-bytes t (result_line goal s) = omega arith

  pub text_grows : (ls : List Line) (l : Line) → length (proof_text P L ls) < length (proof_text P L (ls ++ (l ∷ [])))
  text_grows ls l =
      let whole = ap length (text_one-more ls l) in
      let parts = length-append (proof_text P L ls) (line_text P L (tally ls) l) in
      let some = line-has-bytes (tally ls) l in
      omega arith
