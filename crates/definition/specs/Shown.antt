-- Document 01, "Goals as shown": from `show`, `show_ground`, `bind`.
use Rattle.std.specs.Prelude.{true, false, List, [], ◌∷◌, ◌++◌, ℕ, zero, suc, eqb, length, get_or}
use Rattle.std.proofs.Math.Option.{none, some}
use Rattle.definition.specs.Decimal.{decimal}
use Rattle.definition.specs.Pack.{prop, Term, Terms, var, app, nil, cons, Pack, symbol_of, sort_of}
use Rattle.definition.specs.Verdict.{Bound, value_of}
use Rattle.definition.specs.Store.{term_of}
use Rattle.definition.specs.Graph.{up_to}
use Rattle.definition.specs.Classes.{Class, no_class, Built, mark}
use Rattle.definition.specs.Goals.{Root}

-- a text, and what is left of the budget
pub record Text : Type 0 where
  pub bytes : List ℕ
  pub left : ℕ

-- "spent, it shows `…` (E2 80 A6)"
abbrev pub ellipsis : Text
ellipsis = record { bytes = 226 ∷ 128 ∷ 166 ∷ []; left = 0 }

-- a head over the text of its arguments: a judgment always in brackets, a constant never
unfoldable pub headed : Pack → ℕ → Terms → List ℕ → List ℕ
unfolding symbol_of
headed P h nil args = elim (eqb (symbol_of P h).output prop) [ true ↦ (40 ∷ (symbol_of P h).name) ++ (41 ∷ []) | false ↦ (symbol_of P h).name ]
headed P h (cons t ts) args = (40 ∷ (symbol_of P h).name) ++ (args ++ (41 ∷ []))

-- a term by a name for each variable, one unit of the budget for each node, from left to right
unfoldable mutual
  unfolding headed

  pub show : Pack → (ℕ → List ℕ) → Term → ℕ → Text
  show P name (var k) zero = ellipsis
  show P name (var k) (suc b) = record { bytes = name k; left = b }
  show P name (app h ts) zero = ellipsis
  show P name (app h ts) (suc b) = let args = show_all P name ts b in record { bytes = headed P h ts args.bytes; left = args.left }

  pub show_all : Pack → (ℕ → List ℕ) → Terms → ℕ → Text
  show_all P name nil b = record { bytes = []; left = b }
  show_all P name (cons t ts) b =
      let first = show P name t b in
      let rest = show_all P name ts first.left in
      record { bytes = (32 ∷ first.bytes) ++ rest.bytes; left = rest.left }

-- `?v` and the variable's number
unfoldable pub variable_name : ℕ → List ℕ
unfolding decimal
variable_name k = 63 ∷ 118 ∷ decimal k

-- "a line a variable, as `?v0 : Nat 1 (s z)`: number, sort, flex mark, value"
unfoldable pub variable_line : Pack → Class → ℕ → ℕ → ℕ → List ℕ
unfolding variable_name sort_of mark show term_of decimal
variable_line P c budget k n =
    (variable_name k ++ (32 ∷ 58 ∷ 32 ∷ [])) ++ ((get_or P.sorts (sort_of P n) [] ++ (32 ∷ decimal (mark (get_or c.flex k false)))) ++ ((32 ∷ (show P variable_name (term_of P.nodes n) budget).bytes) ++ (10 ∷ [])))

-- "Variables ascend": those of the conclusion among these numbers
unfoldable pub variable_lines : Pack → Class → ℕ → List Bound → List ℕ → List ℕ
unfolding value_of variable_line
variable_lines P c budget values [] = []
variable_lines P c budget values (k ∷ ks) = elim (value_of k values) [ none ↦ variable_lines P c budget values ks | some n ↦ variable_line P c budget k n ++ variable_lines P c budget values ks ]

-- "for each goal a line of its name, a blank and the general form", then its variables
unfoldable pub goal_lines : Pack → Built → ℕ → ℕ → Root → List ℕ
unfolding show term_of variable_name variable_lines up_to
goal_lines P b budget valueBudget r =
    let c = get_or b.classes r.class no_class in
    (r.goal.name ++ (32 ∷ (show P variable_name (term_of b.store c.conclusion) budget).bytes)) ++ (10 ∷ variable_lines P c valueBudget r.values (up_to (length c.flex)))

unfoldable pub shown_text : Pack → Built → ℕ → ℕ → List Root → List ℕ
unfolding goal_lines
shown_text P b budget valueBudget [] = []
shown_text P b budget valueBudget (r ∷ rs) = goal_lines P b budget valueBudget r ++ shown_text P b budget valueBudget rs
