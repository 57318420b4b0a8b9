-- Where the walk's words stand: behind the rows the path, where unification has its pairs, and behind that a colour for each node.
use Rattle.std.specs.Prelude.{Option}
use Rattle.std.specs.Prelude.{◌≡◌, Bool, true, false, List, ℕ, suc, ◌+◌, ◌*◌, ◌≤◌, ◌<◌, get_or, set}
use Rattle.std.proofs.Common.{sym, ap, ◌∙◌, arith, length-set}
use Rattle.std.proofs.Math.ListN.{length}
use Rattle.definition.specs.Graph.{Graph, vertex, is_var}
use Rattle.base.specs.Part.{part, part_at, length_part, part_same, part-set, part-set-before, part-set-behind}
use Rattle.graph.specs.declared.graph.Graph.{Graph as Counts}
use Rattle.graph.specs.Places as places
use Rattle.graph.specs.Cells.{rows_end, Laid, Shows, SameRows, rows-set, rows_then, laid_rows, shows_rows, Unchanged, unchanged_then, unchanged_later, unchanged_set}
use Rattle.graph.specs.Links.{Found}
use Rattle.graph.specs.Nodes.{ArgumentOf}
use Rattle.graph_unify.specs.declared.circle.Seen.{Seen}
use Rattle.graph_unify.specs.declared.circle.Seen.TheVariants.{Ends, Deeper, Circle as Met}
use Rattle.graph_unify.specs.Paths.{colour_of}
use Rattle.graph_unify.specs.Circles.{Enters, enters_variable, enters_application, Under, few_nodes, as_many, Looking, Looks, looks_ends, looks_circle, looks_variable, looks_deeper, Walking, Advances, Finishes, Idle, Walks, Tells}

-- where the colours start, and end
abbrev pub colours_at : List ℕ → ℕ
colours_at words = places.colours_at (length words)

abbrev pub colours_end : List ℕ → ℕ
colours_end words = colours_at words + length words

unfoldable pub path_in : List ℕ → List ℕ → List ℕ
path_in words table = part (rows_end words) (2 * length words + 2) table

unfoldable pub colour_in : List ℕ → List ℕ → List ℕ
colour_in words table = part (colours_at words) (length words) table

module _ (words table : List ℕ) (room : colours_end words ≤ length table) where
  pub length_path : length (path_in words table) ≡ 2 * length words + 2
  unfolding path_in
  length_path = length_part (rows_end words) (2 * length words + 2) table (omega arith)

  pub length_colour : length (colour_in words table) ≡ length words
  unfolding colour_in
  length_colour = length_part (colours_at words) (length words) table (omega arith)

-- a word of the path, and a colour
pub path_at : (words table : List ℕ) (i : ℕ) → i < 2 * length words + 2 → get_or (path_in words table) i 0 ≡ get_or table (rows_end words + i) 0
unfolding path_in
path_at words table i h = part_at (rows_end words) (2 * length words + 2) table i h

pub colour_at : (words table : List ℕ) (i : ℕ) → i < length words → get_or (colour_in words table) i 0 ≡ get_or table (colours_at words + i) 0
unfolding colour_in
colour_at words table i h = part_at (colours_at words) (length words) table i h

-- what is written to the one, the other keeps
pub path_set : (words table : List ℕ) (i v : ℕ) → i < 2 * length words + 2 → path_in words (set table (rows_end words + i) v) ≡ set (path_in words table) i v
unfolding path_in
path_set words table i v h = part-set (rows_end words) (2 * length words + 2) table i v h

pub path_kept : (words table : List ℕ) (i v : ℕ) → path_in words (set table (colours_at words + i) v) ≡ path_in words table
unfolding path_in
path_kept words table i v = part-set-behind (rows_end words) (2 * length words + 2) table (colours_at words + i) v (omega arith)

pub colour_set : (words table : List ℕ) (i v : ℕ) → i < length words → colour_in words (set table (colours_at words + i) v) ≡ set (colour_in words table) i v
unfolding colour_in
colour_set words table i v h = part-set (colours_at words) (length words) table i v h

pub colour_kept : (words table : List ℕ) (i v : ℕ) → i < 2 * length words + 2 → colour_in words (set table (rows_end words + i) v) ≡ colour_in words table
unfolding colour_in
colour_kept words table i v h = part-set-before (colours_at words) (length words) table (rows_end words + i) v (omega arith)

-- rows written leave both
module _ (words table table' : List ℕ) (room : colours_end words ≤ length table) (U : Unchanged (rows_end words) table table') where
  pub path_same : path_in words table' ≡ path_in words table
  unfolding path_in
  path_same = part_same (rows_end words) (2 * length words + 2) table' table (omega (arith, U.long)) (omega arith) (λ i h. U.words (rows_end words + i) (omega arith))

  pub colour_same : colour_in words table' ≡ colour_in words table
  unfolding colour_in
  colour_same = part_same (colours_at words) (length words) table' table (omega (arith, U.long)) (omega arith) (λ i h. U.words (colours_at words + i) (omega arith))

-- beyond the colours nothing changes
abbrev pub Beyond : List ℕ → List ℕ → List ℕ → Type 0
Beyond words table table' = Unchanged (colours_end words) table table'

-- rows written
pub beyond_rows : (words table table' : List ℕ) → Unchanged (rows_end words) table table' → Beyond words table table'
beyond_rows words table table' U = unchanged_later (rows_end words) (colours_end words) table table' (omega arith) U

-- ---- the functions' contracts, over the one table
pub record Entering (words table : List ℕ) (s : Counts) (top y : ℕ) : Type 0 where
  pub laid : Laid words table s
  pub node : y < s.nodes
  pub inside : y < length words
  pub room : colours_end words ≤ length table
  pub path : top ≤ length words

abbrev pub EntersIn : List ℕ → List ℕ → List ℕ → Counts → ℕ → ℕ → ℕ → Type 0
EntersIn words table table' s top y r = Enters words table (colour_in words table) (colour_in words table') (path_in words table) (path_in words table') s top y r × SameRows words table table' × Beyond words table table'

abbrev pub LookingIn : List ℕ → List ℕ → Counts → ℕ → ℕ → ℕ → Type 0
LookingIn words table s top x i = Looking words table (colour_in words table) (path_in words table) s top x i × (colours_end words ≤ length table)

abbrev pub LooksIn : List ℕ → List ℕ → List ℕ → Counts → ℕ → ℕ → ℕ → Seen → Type 0
LooksIn words table table' s top x i r = Looks words table table' (colour_in words table) (colour_in words table') (path_in words table) (path_in words table') s top x i r × Beyond words table table'

abbrev pub WalkingIn : List ℕ → List ℕ → Counts → ℕ → Type 0
WalkingIn words table s top = Walking words table (colour_in words table) (path_in words table) s top × (colours_end words ≤ length table)

abbrev pub AdvancesIn : List ℕ → List ℕ → List ℕ → Counts → ℕ → Option ℕ → Type 0
AdvancesIn words table table' s top r = Advances words table table' (colour_in words table) (colour_in words table') (path_in words table) (path_in words table') s top r × Beyond words table table'

abbrev pub FinishesIn : List ℕ → List ℕ → List ℕ → Counts → ℕ → Bool → Type 0
FinishesIn words table table' s top r = Finishes words table table' (colour_in words table) (colour_in words table') (path_in words table) (path_in words table') s top r × Beyond words table table'

abbrev pub IdleIn : List ℕ → List ℕ → Counts → Type 0
IdleIn words table s = Idle words table (colour_in words table) (path_in words table) s × (colours_end words ≤ length table)

abbrev pub WalksIn : List ℕ → List ℕ → List ℕ → Counts → ℕ → Bool → Type 0
WalksIn words table table' s x r = Walks words table table' (colour_in words table) (colour_in words table') (path_in words table) (path_in words table') s x r × Beyond words table table'

abbrev pub TellsIn : List ℕ → List ℕ → List ℕ → Counts → Bool → Type 0
TellsIn words table table' s r = Tells words table table' s r × Beyond words table table'

-- ---- `enter`
module _ (words table : List ℕ) (s : Counts) (top y : ℕ) (N : Entering words table s top y) where
  pub enters_variable_in : ((g : Graph) → Shows words table s g → is_var (vertex g y) ≡ true) → EntersIn words table (set table (colours_at words + y) 2) s top y top
  enters_variable_in v = (
    rw (colour_set words table y 2 N.inside, path_kept words table y 2) (enters_variable words table (colour_in words table) (path_in words table) s top y v),
    rows-set words table (colours_at words + y) 2 (omega arith),
    unchanged_set (colours_end words) table (colours_at words + y) 2 (omega (arith, N.inside)),
  )

  abbrev t₁ : List ℕ
  t₁ = set table (colours_at words + y) 1

  abbrev t₂ : List ℕ
  t₂ = set t₁ (rows_end words + 2 * top) y

  abbrev t₃ : List ℕ
  t₃ = set t₂ (rows_end words + 2 * top + 1) 0

  index : rows_end words + 2 * top + 1 ≡ rows_end words + (2 * top + 1)
  index = omega arith

  colour_then : colour_in words t₃ ≡ set (colour_in words table) y 1
  colour_then =
      ap (λ (i : ℕ). colour_in words (set t₂ i 0)) index ∙ colour_kept words t₂ (2 * top + 1) 0 (omega (arith, N.path))
      ∙ colour_kept words t₁ (2 * top) y (omega (arith, N.path)) ∙ colour_set words table y 1 N.inside

  path_then : path_in words t₃ ≡ set (set (path_in words table) (2 * top) y) (2 * top + 1) 0
  path_then =
      ap (λ (i : ℕ). path_in words (set t₂ i 0)) index ∙ path_set words t₂ (2 * top + 1) 0 (omega (arith, N.path))
      ∙ ap (λ (p : List ℕ). set p (2 * top + 1) 0) (path_set words t₁ (2 * top) y (omega (arith, N.path)) ∙ ap (λ (p : List ℕ). set p (2 * top) y) (path_kept words table y 1))

  pub enters_application_in : ((g : Graph) → Shows words table s g → is_var (vertex g y) ≡ false) → EntersIn words table t₃ s top y (top + 1)
  enters_application_in v = (
    rw (colour_then, path_then) (enters_application words table (colour_in words table) (path_in words table) s top y v),
    rows_then words table t₁ t₃ (rows-set words table (colours_at words + y) 1 (omega arith))
        (rows_then words t₁ t₂ t₃ (rows-set words t₁ (rows_end words + 2 * top) y (omega arith)) (rows-set words t₂ (rows_end words + 2 * top + 1) 0 (omega arith))),
    unchanged_then (colours_end words) table t₁ t₃ (unchanged_set (colours_end words) table (colours_at words + y) 1 (omega (arith, N.inside)))
        (unchanged_then (colours_end words) t₁ t₂ t₃ (unchanged_set (colours_end words) t₁ (rows_end words + 2 * top) y (omega (arith, N.path))) (unchanged_set (colours_end words) t₂ (rows_end words + 2 * top + 1) 0 (omega (arith, N.path)))),
  )

-- ---- the same rows hold the same graph
pub under-rows : (words table table' colour path : List ℕ) (s : Counts) (g : Graph) (top : ℕ) → SameRows words table table' → Under words table colour path s g top → Under words table' colour path s g top
under-rows words table table' colour path s g top R U = record { shows = shows_rows words table table' s g R U.shows; walk = U.walk; room = U.room }

module _ (words table mid table' colour colour' path path' : List ℕ) (s : Counts) (top x i : ℕ) (R : SameRows words mid table') where
  looks_rows-ends : Looks words table mid colour colour' path path' s top x i Ends → Looks words table table' colour colour' path path' s top x i Ends
  looks_rows-ends M g I P h =
      let m = M g I P h in
      (record { under = under-rows words mid table' colour' path' s g (suc top) R m.0.under; node = m.0.node; steps = m.0.steps }, m.1, m.2)

  looks_rows-deeper : Looks words table mid colour colour' path path' s top x i Deeper → Looks words table table' colour colour' path path' s top x i Deeper
  looks_rows-deeper M g I P h = let m = M g I P h in (under-rows words mid table' colour' path' s g (suc (suc top)) R m.0, m.1, m.2, m.3)

-- ---- `look`
-- the path is shorter than there are cells, and nodes are no more than these
pub looking_low : (words table : List ℕ) (s : Counts) (top x i : ℕ) → LookingIn words table s top x i → (top < length words) × ((y : ℕ) → y < s.nodes → y < length words)
looking_low words table s top x i H =
    let P = H.0.2.under in
    let n = few_nodes words table s H.0.0 P.shows in
    (omega (arith, P.walk.few, as_many words table s H.0.0 P.shows), λ y l. omega arith)

module _ (words table table' : List ℕ) (s : Counts) (top x i a y : ℕ) (A : ArgumentOf words table s x i a) (F : Found words table table' s a y) (room : colours_end words ≤ length table) (inside : y < length words) where
  seen_of : get_or table' (colours_at words + y) 0 ≡ colour_of (colour_in words table) y
  seen_of = F.3.words (colours_at words + y) (omega arith) ∙ sym (colour_at words table y inside)

  as_before : (Q : List ℕ → List ℕ → Type 0) → Q (colour_in words table) (path_in words table) → Q (colour_in words table') (path_in words table')
  as_before Q q = rw (colour_same words table table' room F.3, path_same words table table' room F.3) q

  pub looks_ends_in : get_or table' (colours_at words + y) 0 ≡ 2 → LooksIn words table table' s top x i Ends
  looks_ends_in e = (as_before (λ c p. Looks words table table' (colour_in words table) c (path_in words table) p s top x i Ends) (looks_ends words table table' (colour_in words table) (path_in words table) s top x i a y A F (sym seen_of ∙ e)), beyond_rows words table table' F.3)

  pub looks_circle_in : (get_or table' (colours_at words + y) 0 ≡ 2 → ⊥) → (get_or table' (colours_at words + y) 0 ≡ 0 → ⊥) → LooksIn words table table' s top x i Met
  looks_circle_in c b = (as_before (λ k p. Looks words table table' (colour_in words table) k (path_in words table) p s top x i Met) (looks_circle words table table' (colour_in words table) (path_in words table) s top x i a y A F (λ e. c (seen_of ∙ e)) (λ e. b (seen_of ∙ e))), beyond_rows words table table' F.3)

  module _ (new : get_or table' (colours_at words + y) 0 ≡ 0) (low : top < length words) (last : List ℕ) (r : ℕ) (E : EntersIn words (set table' (rows_end words + 2 * top + 1) (i + 1)) last s (top + 1) y r) where
    abbrev next : List ℕ
    next = set table' (rows_end words + 2 * top + 1) (i + 1)

    where_it_is : rows_end words + 2 * top + 1 ≡ rows_end words + (2 * top + 1)
    where_it_is = omega arith

    colour_next : colour_in words next ≡ colour_in words table
    colour_next = ap (λ (k : ℕ). colour_in words (set table' k (i + 1))) where_it_is ∙ colour_kept words table' (2 * top + 1) (i + 1) (omega arith) ∙ colour_same words table table' room F.3

    path_next : path_in words next ≡ set (path_in words table) (2 * top + 1) (i + 1)
    path_next = ap (λ (k : ℕ). path_in words (set table' k (i + 1))) where_it_is ∙ path_set words table' (2 * top + 1) (i + 1) (omega arith) ∙ ap (λ (p : List ℕ). set p (2 * top + 1) (i + 1)) (path_same words table table' room F.3)

    rows_next : SameRows words table' next
    rows_next = rows-set words table' (rows_end words + 2 * top + 1) (i + 1) (omega arith)

    entered : Enters words table' (colour_in words table) (colour_in words last) (set (path_in words table) (2 * top + 1) (i + 1)) (path_in words last) s (top + 1) y r
    entered g S = rw (colour_next, path_next) at (E.0 g (shows_rows words table' next s g rows_next S))

    rows_last : SameRows words table' last
    rows_last = rows_then words table' next last rows_next E.1

    beyond_last : Beyond words table last
    beyond_last = unchanged_then (colours_end words) table table' last (beyond_rows words table table' F.3) (unchanged_then (colours_end words) table' next last (unchanged_set (colours_end words) table' (rows_end words + 2 * top + 1) (i + 1) (omega arith)) E.2)

    pub looks_variable_in : r ≡ top + 1 → LooksIn words table last s top x i Ends
    looks_variable_in q = (looks_rows-ends words table table' last (colour_in words table) (colour_in words last) (path_in words table) (path_in words last) s top x i rows_last (looks_variable words table table' (colour_in words table) (path_in words table) s top x i a y A F (sym seen_of ∙ new) (colour_in words last) (path_in words last) r entered q), beyond_last)

    pub looks_deeper_in : (r ≡ top + 1 → ⊥) → LooksIn words table last s top x i Deeper
    looks_deeper_in d = (looks_rows-deeper words table table' last (colour_in words table) (colour_in words last) (path_in words table) (path_in words last) s top x i rows_last (looks_deeper words table table' (colour_in words table) (path_in words table) s top x i a y A F (sym seen_of ∙ new) (colour_in words last) (path_in words last) r entered d), beyond_last)

-- the argument's root goes on the path
pub looking_entering : (words table table' : List ℕ) (s : Counts) (top x i a y : ℕ) → ArgumentOf words table s x i a → Found words table table' s a y → LookingIn words table s top x i → Entering words (set table' (rows_end words + 2 * top + 1) (i + 1)) s (top + 1) y
looking_entering words table table' s top x i a y A F H =
    let at : ℕ = rows_end words + 2 * top + 1 in
    let w = looking_low words table s top x i H in
    record {
      laid = laid_rows words table' (set table' at (i + 1)) s (rows-set words table' at (i + 1) (omega arith)) (F.2 H.0.0 H.0.2.under.shows).1.laid;
      node = F.0;
      inside = w.1 y F.0;
      room = omega (arith, H.1, F.3.long, length-set table' at (i + 1));
      path = omega (arith, w.0);
    }
