-- What `cert_classes` and `cert_show` answer, for every pack and all lengths: returned numbers and every cell lent.
use Rattle.std.specs.Prelude.{List, [], ℕ, length}
use Rattle.std.proofs.Math.Option.{none, some}
use Rattle.definition.specs.Pack.{Pack}
use Rattle.definition.specs.Frame.{Read, fine, refuse}
use Rattle.definition.specs.Parse.{parse}
use Rattle.definition.specs.Answer.{answer, Lent, lengths, padded}
use Rattle.definition.specs.Store.{pattern_words}
use Rattle.definition.specs.Run.{Run, ◌>>=◌, note, return, outcome}
use Rattle.definition.specs.Classes.{Built, build_classes, class_words}
use Rattle.definition.specs.Figures.{figures}
use Rattle.definition.specs.Goals.{Root, test_goals}
use Rattle.definition.specs.Shown.{shown_text}
use Rattle.definition.specs.declared.Refusal.{Refusal}
use Rattle.definition.specs.declared.Answer.{Answer}
use Rattle.definition.specs.declared.Figures.{Figures}

-- what class building comes to: the classes, then the goals with their values
pub record Classed : Type 0 where
  pub pack : Pack
  pub built : Built
  pub roots : List Root

-- "then steps (5, 6, 7 within one), then goals, ascending"
unfoldable pub class_run : Pack → Run Classed
unfolding build_classes test_goals
class_run P = do
  b ← build_classes P
  rs ← test_goals P b 0 P.goals
  return (record { pack = P; built = b; roots = rs })

-- classes, then what a later part of the call makes of them
pub record Shown : Type 0 where
  pub classed : Classed
  pub text : List ℕ

-- the goals' tests come ahead of the text
unfoldable pub show_run : ℕ → ℕ → Pack → Run Shown
unfolding class_run shown_text
show_run budget valueBudget P = do
  c ← class_run P
  let text = shown_text P c.built budget valueBudget c.roots
  _ ← note 5 (length text)
  return (record { classed = c; text = text })

-- "Order": lengths, work, the pack's first bad record, then the run with the lent lengths
unfoldable pub called : {A : Type 0} → (Pack → Run A) → List ℕ → Lent → Read A
unfolding lengths parse outcome
called run pack l =
    elim (lengths l) [
      | some r ↦ refuse r
      | none ↦ elim (parse pack) [ refuse r ↦ refuse r | fine P ↦ outcome l (run P) ]
    ]

-- a refusal returns no figures
abbrev pub no_figures : Figures
no_figures = record { steps = 0; classes = 0; ground_nodes = 0; pattern_nodes = 0; class_vars = 0; flex_vars = 0; fixed_vars = 0; subst_entries = 0; subst_renamings = 0; single = 0; few = 0; tens = 0; hundreds = 0 }

-- what a call returns and leaves in its buffers
pub record Left : Type 0 where
  pub returned : Answer
  pub figures : Figures
  pub text_length : ℕ
  pub class : List ℕ
  pub pattern : List ℕ
  pub graph : List ℕ
  pub work : List ℕ
  pub text : List ℕ

-- a refusal "leaves zeros"
unfoldable pub refused : Lent → Refusal → Left
unfolding answer padded
refused l r = record { returned = answer (some r); figures = no_figures; text_length = 0; class = padded l.class []; pattern = padded l.pattern []; graph = padded l.graph []; work = padded l.work []; text = padded l.text [] }

-- "On success 1 and 2 hold class and pattern words …, 5 and 6 text, 3 and 4 zeros"
unfoldable pub answered : Lent → Classed → List ℕ → Left
unfolding answer padded class_words pattern_words figures
answered l c text = record {
  returned = answer none;
  figures = figures c.pack c.built;
  text_length = length text;
  class = padded l.class (class_words c.pack c.built);
  pattern = padded l.pattern (pattern_words c.built.store);
  graph = padded l.graph [];
  work = padded l.work [];
  text = padded l.text text;
}

-- classes is lent the pack and buffers 1 to 4
abbrev pub classes_lent : ℕ → ℕ → ℕ → ℕ → ℕ → Lent
classes_lent pack class pattern graph work = record { pack = pack; class = class; pattern = pattern; graph = graph; work = work; text = 0; goals = 0 }

unfoldable pub cert_classes : List ℕ → ℕ → ℕ → ℕ → ℕ → Left
unfolding called class_run refused answered
cert_classes pack class pattern graph work =
    let l = classes_lent (length pack) class pattern graph work in
    elim (called class_run pack l) [ refuse r ↦ refused l r | fine c ↦ answered l c [] ]

-- show is lent buffer 5 too, and two budgets
abbrev pub show_lent : ℕ → ℕ → ℕ → ℕ → ℕ → ℕ → Lent
show_lent pack class pattern graph work text = record { pack = pack; class = class; pattern = pattern; graph = graph; work = work; text = text; goals = 0 }

unfoldable pub cert_show : List ℕ → ℕ → ℕ → ℕ → ℕ → ℕ → ℕ → ℕ → Left
unfolding called show_run refused answered
cert_show pack budget valueBudget class pattern graph work text =
    let l = show_lent (length pack) class pattern graph work text in
    elim (called (show_run budget valueBudget) pack l) [ refuse r ↦ refused l r | fine s ↦ answered l s.classed s.text ]
