-- What the writers of lines promise.
use Rattle.std.specs.Prelude.{◌≡◌, List, [], ◌∷◌, ◌++◌, map, ℕ, suc}
use Rattle.std.proofs.Common.{sym, ◌∙◌, append_assoc}
use Rattle.std.proofs.Math.Path.{ap}
use Rattle.definition.specs.Ascii.{bytes}
use Rattle.definition.specs.Decimal.{decimal}
use Rattle.definition.specs.Pack.{Pack, rule_of}
use Rattle.emission.specs.Name.{name_with}
use Rattle.emission.specs.Line.{Word, Judgment, Case, Line, var_line, def_line, hyp_line, step_line_of, induct_line, Tally}
use Rattle.emission.specs.Text.{joined}
use Rattle.emission.specs.Render.{definition_text, over_words, case_text, var_text, line_text}
use Rattle.text_write.specs.Source.{OfRead}
use Rattle.text_write.specs.Written.{Adds, adds_as}
use Rattle.emit_lines.specs.Words.{Puts}
use Rattle.emit_lines.specs.declared.word.Hand.{Hand}

-- a line is added, behind whatever lines have such a tally
abbrev pub PutsLine : (bytes work text text' : List ℕ) (s : Hand) (at : ℕ) → (Tally → Type 0) → Line → ℕ → Type 0
PutsLine bytes work text text' s at Q l r = OfRead bytes work s.catalog (λ P. (t : Tally) → Q t → Adds text text' at (line_text P (name_with s.name) t l) r)

-- what a line with a number starts with
unfoldable pub numbered : List ℕ → ℕ → List ℕ
unfolding decimal
numbered kind n = kind ++ (decimal n ++ (32 ∷ []))

-- ---- lines by what is put one behind the other
-- the same start and what follows it
numbered_then : (kind : List ℕ) (n m : ℕ) (rest : List ℕ) → m ≡ n → numbered kind n ++ rest ≡ kind ++ (decimal m ++ (32 ∷ rest))
unfolding numbered
numbered_then kind n m rest e =
    append_assoc kind (decimal n ++ (32 ∷ [])) rest ∙ ap (λ (l : List ℕ). kind ++ l) (append_assoc (decimal n) (32 ∷ []) rest ∙ ap (λ (k : ℕ). decimal k ++ (32 ∷ rest)) (sym e))

module _ (P : Pack) (L : List ℕ) (t : Tally) where
  var_line_law : (k sort : ℕ) → suc t.variables ≡ k → var_text P L k sort ≡ line_text P L t (var_line sort)
  unfolding line_text
  var_line_law k sort e = ap (λ (n : ℕ). var_text P L n sort) (sym e)

  pub def_line_law : (n head : ℕ) (words : List Word) → t.definitions ≡ n → bytes "(def " ++ (definition_text n ++ (bytes " " ++ (over_words P L head words ++ bytes ")\n"))) ≡ line_text P L t (def_line head words)
  unfolding line_text
  def_line_law n head words e = ap (λ (m : ℕ). bytes "(def " ++ (definition_text m ++ (bytes " " ++ (over_words P L head words ++ bytes ")\n")))) (sym e)

  pub hyp_line_law : (n : ℕ) (j : Judgment) → t.steps ≡ n → numbered (bytes "(hyp ") n ++ (over_words P L j.predicate j.words ++ bytes ")\n") ≡ line_text P L t (hyp_line j)
  unfolding line_text bytes
  hyp_line_law n j e = numbered_then (bytes "(hyp ") n t.steps (over_words P L j.predicate j.words ++ bytes ")\n") e

  pub step_line : (n rule : ℕ) (refs : List ℕ) (j : Judgment) → t.steps ≡ n
      → numbered (bytes "(step ") n ++ ((rule_of P rule).name ++ (bytes " (" ++ (joined (map decimal refs) ++ (bytes ") " ++ (over_words P L j.predicate j.words ++ bytes ")\n"))))) ≡ line_text P L t (step_line_of rule refs j)
  unfolding line_text bytes
  step_line n rule refs j e = numbered_then (bytes "(step ") n t.steps ((rule_of P rule).name ++ (bytes " (" ++ (joined (map decimal refs) ++ (bytes ") " ++ (over_words P L j.predicate j.words ++ bytes ")\n"))))) e

  pub induct-line : (n : ℕ) (j : Judgment) (cases : List Case) → t.steps ≡ n
      → numbered (bytes "(induct ") n ++ (L ++ (bytes " " ++ (over_words P L j.predicate j.words ++ (bytes " (" ++ (joined (map (case_text L) cases) ++ bytes "))\n"))))) ≡ line_text P L t (induct_line j cases)
  unfolding line_text bytes
  induct-line n j cases e = numbered_then (bytes "(induct ") n t.steps (L ++ (bytes " " ++ (over_words P L j.predicate j.words ++ (bytes " (" ++ (joined (map (case_text L) cases) ++ bytes "))\n"))))) e

-- a variable's text is its line's too
pub puts_var : (bytes work text text' : List ℕ) (s : Hand) (at k sort r : ℕ) → Puts bytes work text text' s at (λ P L. var_text P L k sort) r
    → Puts bytes work text text' s at (λ P L. var_text P L k sort) r × PutsLine bytes work text text' s at (λ t. suc t.variables ≡ k) (var_line sort) r
puts_var bytes work text text' s at k sort r A = (A, λ P R t e. adds_as text text' at r (var_text P (name_with s.name) k sort) (line_text P (name_with s.name) t (var_line sort)) (var_line_law P (name_with s.name) t k sort e) (A P R))
