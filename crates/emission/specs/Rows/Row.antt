-- A row of the table of emission's small packs, and what it claims.
use Rattle.std.specs.Prelude.{◌≡◌, true, false, List, [], ◌∷◌, ◌++◌, ℕ, eqb, length, take}
use Rattle.definition.specs.Test.{all}
use Rattle.definition.specs.Frame.{right, within, ◌>>=◌ as ◌>>=f◌}
use Rattle.definition.specs.Run.{◌>>=◌ as ◌>>=r◌}
use Rattle.definition.specs.Parse.{kinds, take_record}
use Rattle.definition.specs.Answer.{least_work}
use Rattle.definition.specs.Calls.{no_figures}
use Rattle.definition.specs.Ascii.{bytes}
use Rattle.definition.specs.Rows.Say.{sort, symbol, rule, node, step, goal, result, cut}
use Rattle.definition.specs.Rows.Row.{figure_words}
use Rattle.emission.specs.State.{◌>>=◌, ◌or_else◌}
use Rattle.emission.specs.Calls.{EmitLeft, emit_lent, cert_emit, certgen}

-- the lengths of buffers 1, 2, 3, 5 and 6
pub record Room : Type 0 where
  pub class : ℕ
  pub pattern : ℕ
  pub graph : ℕ
  pub proof : ℕ
  pub goals : ℕ

pub data Row : Type 0 where
  -- certgen's input and output
  generated : List ℕ → List ℕ → Row
  -- a pack, both texts and `Emitted`, in ample buffers
  emitted : List ℕ → List ℕ → List ℕ → List ℕ → Row
  -- a pack and lengths with the least work, and what emit returns
  emits : List ℕ → Room → ℕ → ℕ → Row
  -- the same, with work of this length
  worked : List ℕ → Room → ℕ → ℕ → ℕ → Row
  -- a pack, the cells of its largest graph, and all that is left in buffers just long enough: `Emitted`, figures, class words, pattern
  -- words, both texts
  left : List ℕ → ℕ → List ℕ → List ℕ → List ℕ → List ℕ → List ℕ → List ℕ → Row
  -- a pack, lengths and work that are refused: no number is returned but the refusal's, and each cell is zero
  cleared : List ℕ → Room → ℕ → Row

-- the least work for a pack and lengths
abbrev pub works_with : List ℕ → Room → ℕ
works_with pack r = least_work (emit_lent (length pack) r.class r.pattern r.graph 0 r.proof r.goals)

abbrev pub ample : Room
ample = record { class = 1000; pattern = 1000; graph = 1000; proof = 1000; goals = 1000 }

abbrev pub run : List ℕ → Room → ℕ → EmitLeft
run pack r work = cert_emit pack r.class r.pattern r.graph work r.proof r.goals

abbrev answered : EmitLeft → List ℕ
answered l = l.returned.code ∷ l.returned.place ∷ []

abbrev texts : EmitLeft → List ℕ
texts l = l.proof_length ∷ l.goals_length ∷ []

abbrev counts : EmitLeft → List ℕ
counts l = let n = l.emitted in n.open_goals ∷ n.rigid_goals ∷ n.steps ∷ n.inductions ∷ n.definitions ∷ []

-- whether all are zero, and how many there are
unfoldable pub zeros : List ℕ → List ℕ
unfolding all
zeros xs = elim (all (eqb 0) xs) [ true ↦ 1 | false ↦ 0 ] ∷ length xs ∷ []

-- what a row's call gives
unfoldable pub seen : Row → List ℕ
unfolding ◌>>=f◌ ◌>>=r◌ ◌>>=◌ ◌or_else◌ right within kinds take_record bytes sort symbol rule node step goal result cut zeros cert_emit certgen
seen (generated input output) = certgen input
seen (emitted pack proof goals ns) =
    let l = run pack ample (works_with pack ample) in
    answered l ++ (counts l ++ (take l.proof_length l.proof ++ take l.goals_length l.goals))
seen (emits pack r code place) = answered (run pack r (works_with pack r))
seen (worked pack r work code place) = answered (run pack r work)
seen (left pack graph ns figures class pattern proof goals) =
    let r : Room = record { class = length class; pattern = length pattern; graph = graph; proof = length proof; goals = length goals } in
    let l = run pack r (works_with pack r) in
    (answered l ++ (texts l ++ (counts l ++ figure_words l.figures))) ++ ((l.class ++ l.pattern) ++ ((l.proof ++ l.goals) ++ (zeros l.graph ++ zeros l.work)))
seen (cleared pack r work) =
    let l = run pack r work in
    (texts l ++ (counts l ++ figure_words l.figures)) ++ ((zeros l.class ++ zeros l.pattern) ++ ((zeros l.graph ++ zeros l.work) ++ (zeros l.proof ++ zeros l.goals)))

-- what a row says of it
unfoldable pub said : Row → List ℕ
unfolding bytes sort symbol rule node step goal result cut
said (generated input output) = output
said (emitted pack proof goals ns) = (0 ∷ 0 ∷ []) ++ (ns ++ (proof ++ goals))
said (emits pack r code place) = code ∷ place ∷ []
said (worked pack r work code place) = code ∷ place ∷ []
said (left pack graph ns figures class pattern proof goals) =
    let r : Room = record { class = length class; pattern = length pattern; graph = graph; proof = length proof; goals = length goals } in
    ((0 ∷ 0 ∷ []) ++ ((length proof ∷ length goals ∷ []) ++ (ns ++ figures))) ++ ((class ++ pattern) ++ ((proof ++ goals) ++ ((1 ∷ graph ∷ []) ++ (1 ∷ works_with pack r ∷ []))))
said (cleared pack r work) =
    ((0 ∷ 0 ∷ []) ++ ((0 ∷ 0 ∷ 0 ∷ 0 ∷ 0 ∷ []) ++ figure_words no_figures)) ++ (((1 ∷ r.class ∷ []) ++ (1 ∷ r.pattern ∷ [])) ++ (((1 ∷ r.graph ∷ []) ++ (1 ∷ work ∷ [])) ++ ((1 ∷ r.proof ∷ []) ++ (1 ∷ r.goals ∷ []))))

abbrev pub Claim : Row → Type 0
Claim r = seen r ≡ said r

-- every row holds
abbrev pub Holds : List Row → Type 0
Holds [] = Unit {0}
Holds (r ∷ rs) = Claim r × Holds rs
