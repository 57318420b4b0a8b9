-- The lines of one goal.
use Rattle.std.specs.Prelude.{◌≡◌, List, [], ◌∷◌, ◌++◌, ℕ, ◌<◌, length, get_or}
use Rattle.std.proofs.Common.{sym, ap, ◌∙◌, append_assoc, arith}
use Rattle.definition.specs.Pack.{Node, Pack}
use Rattle.definition.specs.Verdict.{Bound, no_goal}
use Rattle.definition.specs.Classes.{Class, Built, no_class}
use Rattle.definition.specs.Store.{term_of}
use Rattle.definition.specs.Graph.{up_to}
use Rattle.definition.specs.Goals.{Root}
use Rattle.definition.specs.Shown.{show, variable_name, variable_lines, goal_lines}
use Rattle.base.specs.Upto.{Upto, upto_then}
use Rattle.store.specs.Stored.{nodes}
use Rattle.pack_tables.specs.Catalog.{records_of}
use Rattle.pack_read.specs.Reads.{Reads}
use Rattle.class_premises.specs.Takes.{conclusion_in}
use Rattle.text_write.specs.Written.{Adds, adds_then, adds_as}
use Rattle.text_write.specs.Source.{nodes_pattern, many_pattern}
use Rattle.text_write.specs.Walk.{Writing, Writes}
use Rattle.text_goals.specs.Form.{Lined, OfLined, lined_on, lined_reads, says_on}
use Rattle.text_goals.specs.Lines.{WritesVariables}
use Rattle.text_goals.specs.declared.form.Form.{Form}

-- a goal's lines by its class's form and values
abbrev pub goal_text : Pack → List Node → Class → List Bound → (budget valueBudget g : ℕ) → List ℕ
goal_text P ns x vs budget valueBudget g =
    ((get_or P.goals g no_goal).name ++ (32 ∷ (show P variable_name (term_of ns x.conclusion) budget).bytes)) ++ (10 ∷ variable_lines P x valueBudget vs (up_to (length x.flex)))

pub record WritesGoal (bytes work work' class words text text' : List ℕ) (f : Form) (budget at g r : ℕ) : Type 0 where
  pub upto : Upto f.stack work work'
  pub adds : OfLined bytes work class f (λ P x vs. Adds text text' at (goal_text P (nodes words f.patterns.store) x vs budget f.budget g) r)

-- they are those of the definition's root
pub goal-lines : (P : Pack) (b : Built) (budget valueBudget : ℕ) (r : Root) (g : ℕ) → r.goal ≡ get_or P.goals g no_goal
    → goal_text P b.store (get_or b.classes r.class no_class) r.values budget valueBudget g ≡ goal_lines P b budget valueBudget r
unfolding goal_lines
goal-lines P b budget valueBudget r g e = ap (λ o. (o.name ++ (32 ∷ (show P variable_name (term_of b.store (get_or b.classes r.class no_class).conclusion) budget).bytes)) ++ (10 ∷ variable_lines P (get_or b.classes r.class no_class) valueBudget r.values (up_to (length (get_or b.classes r.class no_class).flex)))) (sym e)

module _ (bytes work class words : List ℕ) (f : Form) (L : Lined bytes work class words f) where
  -- the conclusion's word is there
  pub goal-row : f.row < length class
  goal-row = omega (arith, L.within)

  -- it can be shown
  pub goal_writing : (p : ℕ) → p ≡ conclusion_in class f.row → Writing bytes work words f.patterns f.stack p
  goal_writing p e = record { placed = L.patterns; there = omega (arith, e, L.stored, many_pattern L.patterns.sourced.held.pack work words f.patterns L.pattern) }

  module _ (work₁ : List ℕ) (U : Upto f.stack work work₁) where
    -- the variables' lines behind it
    pub goal_lined : Lined bytes work₁ class words f
    goal_lined = lined_on bytes work work₁ class words f U L

    -- the parts are the goal's lines
    pub goal_writes : (work' name text t1 t2 t3 t4 text' : List ℕ) (budget at a1 a2 a3 a4 r g p : ℕ) → ((P : Pack) → Reads bytes (records_of work f.patterns.catalog) P → name ≡ (get_or P.goals g no_goal).name)
        → Adds text t1 at name a1 → Adds t1 t2 a1 (32 ∷ []) a2 → p ≡ conclusion_in class f.row → Writes bytes work work₁ words t2 t3 f.patterns f.stack a2 budget p a3 → Adds t3 t4 a3 (10 ∷ []) a4
        → WritesVariables bytes work₁ work' class words t4 text' f a4 r → WritesGoal bytes work work' class words text text' f budget at g r
    goal_writes work' name text t1 t2 t3 t4 text' budget at a1 a2 a3 a4 r g p named A B e W C D = record {
      upto = upto_then f.stack work work₁ work' U D.upto;
      adds = λ P x vs R Q S.
          let shown = (show P variable_name (term_of (nodes words f.patterns.store) x.conclusion) budget).bytes in
          let lines = variable_lines P x f.budget vs (up_to (length x.flex)) in
          let own = (get_or P.goals g no_goal).name in
          let form : Adds t2 t3 a2 shown a3 = adds_as t2 t3 a2 a3 _ shown
          (ap (λ (ns : List Node). (show P variable_name (term_of ns p) budget).bytes) (nodes_pattern P work words f.patterns L.pattern) ∙ ap (λ (q : ℕ). (show P variable_name (term_of (nodes words f.patterns.store) q) budget).bytes) (e ∙ S.conclusion)) (W.adds P R Q) in
          let rest = D.adds P x vs (lined_reads bytes work work₁ class words f U L P R) Q (says_on bytes work work₁ class words f U L x vs S) in
          adds_as text text' at r _ (goal_text P (nodes words f.patterns.store) x vs budget f.budget g) (sym (append_assoc own (32 ∷ shown) (10 ∷ lines)))
          (adds_then text t1 text' at a1 r own ((32 ∷ shown) ++ (10 ∷ lines)) (adds_as text t1 at a1 name own (named P R) A)
          (adds_then t1 t3 text' a1 a3 r (32 ∷ shown) (10 ∷ lines) (adds_then t1 t2 t3 a1 a2 a3 (32 ∷ []) shown B form) (adds_then t3 t4 text' a3 a4 r (10 ∷ []) lines C rest)));
    }
