-- Goal lines beside result lines: the line that is named states the pattern that is written.
use Rattle.std.specs.Prelude.{◌≡◌, List, [], ◌∷◌, ◌++◌, ℕ}
use Rattle.std.proofs.Common.{sym, ap, ◌∙◌}
use Rattle.definition.specs.Pack.{Node}
use Rattle.definition.specs.Store.{term_of}
use Rattle.emission.specs.Line.{Line, result_line, GoalLine}
use Rattle.emission.specs.Written.{only_l}
use Rattle.theory.specs.Patterns.Interned.{Grows}
use Rattle.emit_theory.specs.Sound.{Told, told_grows, term_grows}

-- a goal line and its result line: the line that is named states the pattern that is written
pub record Shown (ls : List Line) (s : List Node) (g : GoalLine) (l : Line) : Type 0 where
  pub pattern : ℕ
  pub number : ℕ
  pub result : l ≡ result_line g.goal number
  pub told : Told ls s pattern number
  pub judgment : g.judgment ≡ only_l (term_of s pattern)

-- goal lines beside result lines
abbrev pub AllShown : List Line → List Node → List GoalLine → List Line → Type 0
AllShown ls s [] [] = Unit {0}
AllShown ls s [] (l ∷ rs) = ⊥
AllShown ls s (g ∷ gs) [] = ⊥
AllShown ls s (g ∷ gs) (l ∷ rs) = Shown ls s g l × AllShown ls s gs rs

pub shown_grow : (ls ms : List Line) (s t : List Node) → Grows ls ms → Grows s t → (gs : List GoalLine) (rs : List Line) → AllShown ls s gs rs → AllShown ms t gs rs
shown_grow ls ms s t G H [] [] A = tt
shown_grow ls ms s t G H [] (l ∷ rs) A = absurd A
shown_grow ls ms s t G H (g ∷ gs) [] A = absurd A
shown_grow ls ms s t G H (g ∷ gs) (l ∷ rs) A =
    let a = A.0 in (
      record {
        pattern = a.pattern;
        number = a.number;
        result = a.result;
        told = told_grows ls ms s t G H a.pattern a.number a.told;
        judgment = a.judgment ∙ ap only_l (sym (term_grows s t H a.pattern a.told.stored));
      },
      shown_grow ls ms s t G H gs rs A.1,
    )

pub shown_more : (ls : List Line) (s : List Node) (gs : List GoalLine) (rs : List Line) (g : GoalLine) (l : Line) → AllShown ls s gs rs → Shown ls s g l → AllShown ls s (gs ++ (g ∷ [])) (rs ++ (l ∷ []))
shown_more ls s [] [] g l A a = (a, tt)
shown_more ls s [] (k ∷ rs) g l A a = absurd A
shown_more ls s (f ∷ gs) [] g l A a = absurd A
shown_more ls s (f ∷ gs) (k ∷ rs) g l A a = (A.0, shown_more ls s gs rs g l A.1 a)
