-- From `emit`, its beginning: the refusals 9 and 10, L's sort, pattern and name, the goal text's first line.
use Rattle.std.specs.Prelude.{Bool, true, false, List, [], ◌∷◌, ◌++◌, ℕ, suc, eqb, length, get_or}
use Rattle.std.proofs.Math.Option.{Option, none, some}
use Rattle.definition.specs.Test.{all}
use Rattle.definition.specs.Pack.{Node, Pack, node_of, sort_of}
use Rattle.definition.specs.Verdict.{Bound}
use Rattle.definition.specs.Store.{variable_node, intern, pattern_words, term_of}
use Rattle.definition.specs.Keys.{is_a_cut}
use Rattle.definition.specs.Classes.{Class, no_class}
use Rattle.definition.specs.Goals.{Root}
use Rattle.definition.specs.Open.{at}
use Rattle.definition.specs.Calls.{Classed}
use Rattle.definition.specs.Run.{Run, ◌>>=◌, note, return, need}
use Rattle.definition.specs.declared.Refusal.TheVariants.{Sorts, Cut}
use Rattle.emission.specs.Line.{Line, GoalLine}
use Rattle.emission.specs.Name.{name_of}
use Rattle.emission.specs.Render.{goal_text}
use Rattle.emission.specs.State.{Emitter, Setting}

unfoldable pub class_of : Classed → Root → Class
class_of c r = get_or c.built.classes r.class no_class

-- the variables of a goal's conclusion that are open: those at record 9's position, or without that record the flexible ones
unfoldable pub is_open : Classed → Root → ℕ → Bool
unfolding at term_of class_of
is_open c r k =
    elim c.pack.abstracts [
      | [] ↦ get_or (class_of c r).flex k false
      | a ∷ more ↦ at a.constructor a.position k (term_of c.built.store (class_of c r).conclusion)
    ]

-- the sorts of the open ones among a goal's variables
unfoldable pub sorts_among : Classed → Root → List Bound → List ℕ
unfolding is_open sort_of
sorts_among c r [] = []
sorts_among c r (b ∷ bs) = elim (is_open c r b.variable) [ true ↦ sort_of c.pack b.value ∷ sorts_among c r bs | false ↦ sorts_among c r bs ]

-- of all goals, whether their open attempt will hold or not
unfoldable pub open_sorts : Classed → List Root → List ℕ
unfolding sorts_among
open_sorts c [] = []
open_sorts c (r ∷ rs) = sorts_among c r r.values ++ open_sorts c rs

-- "10, goal": "the lowest such goal", counted on from i
unfoldable pub cut_goal : Pack → List Root → ℕ → Option ℕ
unfolding is_a_cut node_of
cut_goal P [] i = none
cut_goal P (r ∷ rs) i = elim (is_a_cut P (node_of P r.goal.judgment).head) [ true ↦ some i | false ↦ cut_goal P rs (suc i) ]

unfoldable pub no_cut_goal : Option ℕ → Run (Unit {0})
unfolding need
no_cut_goal none = return tt
no_cut_goal (some i) = need false (Cut i)

-- emission between two goals: the state, the goal text's lines, the result lines that wait, goals written open and ground
pub record Emission : Type 0 where
  pub classed : Classed
  pub setting : Setting
  pub state : Emitter
  pub goals : List GoalLine
  pub results : List Line
  pub opened : ℕ
  pub rigid : ℕ

-- no line and nothing proved, over the patterns of class building
abbrev pub fresh : List Node → Emitter
fresh s = record { undone = record { lines = []; proved = []; derived = []; defs = []; names = [] }; kept = record { store = s; pairs = 0 } }

-- L is pattern variable 2^30−1, as in the Rust
abbrev pub eigen_number : ℕ
eigen_number = 1073741823

-- "emit then 9, then 10 at the lowest such goal, both ahead of its first write"; without an open variable L has sort 0
unfoldable pub begin : Classed → Run Emission
unfolding need no_cut_goal open_sorts all cut_goal name_of intern pattern_words goal_text
begin c = do
  let P = c.pack
  let sorts = open_sorts c c.roots
  let sort = get_or sorts 0 0
  _ ← need (all (eqb sort) sorts) Sorts
  _ ← no_cut_goal (cut_goal P c.roots 0)
  let L = intern c.built.store (variable_node eigen_number sort)
  _ ← note 2 (length (pattern_words L.store))
  let S : Setting = record { pack = P; eigen = L.number; name = name_of P; sort = sort }
  _ ← note 6 (length (goal_text P S.name sort []))
  return (record { classed = c; setting = S; state = fresh L.store; goals = []; results = []; opened = 0; rigid = 0 })
