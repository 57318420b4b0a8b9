-- A node looked at: whether it is a fixed variable; and how many are.
use Rattle.std.specs.Prelude.{◌≡◌, refl, Bool, true, false, not, List, ℕ, ◌+◌, ◌≤◌, ◌<◌, eqb, length, get_or}
use Rattle.std.proofs.Common.{sym, ap, ◌∙◌, arith}
use Rattle.std.proofs.Math.Option.{Option, none, some}
use Rattle.definition.specs.Test.{never, any, ◌and◌}
use Rattle.definition.specs.Verdict.{Bound, value_of}
use Rattle.definition.specs.Store.{variable_head}
use Rattle.definition.specs.Graph.{Graph, vertex, root, is_var, up_to}
use Rattle.definition.specs.Analysis.{number_of}
use Rattle.definition.specs.Classes.{count_of, is_some, is_fixed, mark}
use Rattle.base.specs.Word.{word_of}
use Rattle.pack_tables.specs.Name.{denied, not_denied}
use Rattle.graph.specs.declared.graph.Graph.{Graph as Counts}
use Rattle.graph.specs.Cells.{Shows, nodes_few}
use Rattle.graph.specs.Joins.{HeadOf, head-variable, head-other}
use Rattle.term_readback.specs.Words.{values_at, table_end, table_in, Stands}
use Rattle.term_readback.specs.Moved.{table_at}
use Rattle.graph.specs.Nodes.{FlexOf, RootOf}
use Rattle.term_readback.specs.Asked.{graph_long}
use Rattle.term_readback.specs.declared.table.Table.{Table}
use Rattle.theory.specs.Making.Numbers.{number_any, count_next}
use Rattle.class_conclude.specs.FixedMarks.{colours_at, colour_in}

-- graph and values stand, and just the numbered variables have a colour
pub record Coloured (work cells : List ℕ) (t : Table) (g : Counts) (h : Graph) (vs : List Bound) (xs : List ℕ) : Type 0 where
  pub room : t.at + table_end cells ≤ t.end
  pub fits : t.end ≤ length work
  pub stands : Stands cells (table_in t work) g h vs
  pub colours : (x : ℕ) → x < g.nodes → colour_in work cells t x ≡ mark (any (eqb x) xs)

-- there are such
pub record ColouredIn (work cells : List ℕ) (t : Table) (g : Counts) : Type 0 where
  pub graph : Graph
  pub values : List Bound
  pub numbering : List ℕ
  pub coloured : Coloured work cells t g graph values numbering

-- a node of it
pub record FixedAsked (work cells : List ℕ) (t : Table) (g : Counts) (x : ℕ) : Type 0 where
  pub held : ColouredIn work cells t g
  pub node : x < g.nodes

-- what is answered of it
abbrev pub FixesOne : List ℕ → List ℕ → Table → Counts → ℕ → ℕ → Type 0
FixesOne work cells t g x r = (r ≤ 1) × ((h : Graph) (vs : List Bound) (xs : List ℕ) → Coloured work cells t g h vs xs → r ≡ mark (is_fixed h vs xs x))

-- of all nodes
abbrev pub FixesAll : List ℕ → List ℕ → Table → Counts → ℕ → Type 0
FixesAll work cells t g r = (h : Graph) (vs : List Bound) (xs : List ℕ) → Coloured work cells t g h vs xs → r ≡ count_of (is_fixed h vs xs) (up_to (length h))

-- ---- five tests
-- all must go the right way
abbrev fixed_by : Bool → Bool → Bool → Bool → Bool → Bool
fixed_by a b f v k = a and b and not f and v and not k

-- it is these
fixed_by_law : (h : Graph) (vs : List Bound) (xs : List ℕ) (x : ℕ) → is_fixed h vs xs x ≡ fixed_by (eqb (root h x) x) (is_var (vertex h x)) (vertex h x).flex (is_some (value_of x vs)) (is_some (number_of x xs 0))
unfolding is_fixed
fixed_by_law h vs xs x = refl

-- one goes the wrong way
wrong_root : (a b f v k : Bool) → a ≡ false → 0 ≡ mark (fixed_by a b f v k)
unfolding ◌and◌ mark
wrong_root true b f v k e = never (cc)
wrong_root false b f v k e = refl

-- the second
wrong_head : (a b f v k : Bool) → b ≡ false → 0 ≡ mark (fixed_by a b f v k)
unfolding ◌and◌ mark
wrong_head true true f v k e = never (cc)
wrong_head true false f v k e = refl
wrong_head false true f v k e = refl
wrong_head false false f v k e = refl

-- the third
wrong_flex : (a b f v k : Bool) → f ≡ true → 0 ≡ mark (fixed_by a b f v k)
unfolding ◌and◌ mark
wrong_flex a b false v k e = never (cc)
wrong_flex true true true v k e = refl
wrong_flex true false true v k e = refl
wrong_flex false true true v k e = refl
wrong_flex false false true v k e = refl

-- the fourth, whatever stands ahead of it
last : (u v k : Bool) → v ≡ false → 0 ≡ mark (u and v and not k)
unfolding ◌and◌ mark
last u true k e = never (cc)
last true false k e = refl
last false false k e = refl

-- the fifth
end : (u k : Bool) → k ≡ true → 0 ≡ mark (u and not k)
unfolding ◌and◌ mark
end u false e = never (cc)
end true true e = refl
end false true e = refl

-- none does
right-all : (a b f v k : Bool) → a ≡ true → b ≡ true → f ≡ false → v ≡ true → k ≡ false → 1 ≡ mark (fixed_by a b f v k)
unfolding ◌and◌ mark
right-all a b f v k p q r s u = rw (p, q, r, s, u)

-- ---- what single words say
-- a value's word
no_value : (o : Option ℕ) → word_of o ≡ 0 → is_some o ≡ false
unfolding is_some
no_value none q = refl
no_value (some v) q = never (cc)

-- a word that is not 0
a_value : (o : Option ℕ) → (word_of o ≡ 0 → ⊥) → is_some o ≡ true
unfolding is_some
a_value none q = absurd (q refl)
a_value (some v) q = refl

-- a mark's word
a_mark : (b : Bool) → (mark b ≡ 0 → ⊥) → b ≡ true
unfolding mark
a_mark true q = refl
a_mark false q = absurd (q refl)

-- a word that is 0
no_mark : (b : Bool) → mark b ≡ 0 → b ≡ false
unfolding mark
no_mark true q = never (cc)
no_mark false q = refl

-- ---- what the words of a node tell
module _ (work cells : List ℕ) (t : Table) (g : Counts) (x : ℕ) (low : x < g.nodes) (h : Graph) (vs : List Bound) (xs : List ℕ) (C : Coloured work cells t g h vs xs) where
  abbrev table : List ℕ
  table = table_in t work

  -- they hold the graph
  abbrev S : Shows cells (table_in t work) g h
  S = C.stands.shows

  -- it is linked to another
  pub linked : (r : Bool) → RootOf cells (table_in t work) g x r → not r ≡ true → 0 ≡ mark (is_fixed h vs xs x)
  linked r R e = wrong_root (eqb (root h x) x) (is_var (vertex h x)) (vertex h x).flex (is_some (value_of x vs)) (is_some (number_of x xs 0)) (denied r (eqb (root h x) x) (R h S) e) ∙ ap mark (sym (fixed_by_law h vs xs x))

  -- its head
  pub headed : (r : ℕ) → HeadOf cells (table_in t work) g x r → (r ≡ variable_head → ⊥) → 0 ≡ mark (is_fixed h vs xs x)
  headed r H d =
      wrong_head (eqb (root h x) x) (is_var (vertex h x)) (vertex h x).flex (is_some (value_of x vs)) (is_some (number_of x xs 0)) (head-other h x r (H h S) d) ∙ ap mark (sym (fixed_by_law h vs xs x))

  -- it is flexible
  pub flexed : (f : Bool) → FlexOf cells (table_in t work) g x f → f ≡ true → 0 ≡ mark (is_fixed h vs xs x)
  flexed f F e = wrong_flex (eqb (root h x) x) (is_var (vertex h x)) (vertex h x).flex (is_some (value_of x vs)) (is_some (number_of x xs 0)) (sym (F h S) ∙ e) ∙ ap mark (sym (fixed_by_law h vs xs x))

  -- its value
  value_is : (w : ℕ) → w ≡ get_or (table_in t work) (values_at cells + x) 0 → w ≡ word_of (value_of x vs)
  value_is w e = e ∙ C.stands.values x low

  -- it has none
  pub unvalued : (w : ℕ) → w ≡ get_or (table_in t work) (values_at cells + x) 0 → w ≡ 0 → 0 ≡ mark (is_fixed h vs xs x)
  unvalued w e z =
      last (eqb (root h x) x and is_var (vertex h x) and not (vertex h x).flex) (is_some (value_of x vs)) (is_some (number_of x xs 0)) (no_value (value_of x vs) (sym (value_is w e) ∙ z)) ∙ ap mark (sym (fixed_by_law h vs xs x))

  -- it has one
  pub valued : (w : ℕ) → w ≡ get_or (table_in t work) (values_at cells + x) 0 → (w ≡ 0 → ⊥) → is_some (value_of x vs) ≡ true
  valued w e d = a_value (value_of x vs) (λ q. d (value_is w e ∙ q))

  -- its colour
  colour_is : (w : ℕ) → w ≡ get_or (table_in t work) (colours_at cells + x) 0 → w ≡ mark (is_some (number_of x xs 0))
  colour_is w e =
      let most = omega_most in
      e ∙ table_at t work (colours_at cells + x) (omega (arith, C.room, most)) ∙ C.colours x low ∙ ap mark (sym (number_any x xs 0))
    where
      omega_most : g.nodes ≤ length cells
      omega_most = omega (arith, nodes_few cells (table_in t work) g S.laid, S.laid.fits)

  -- it has one
  pub coloured : (w : ℕ) → w ≡ get_or (table_in t work) (colours_at cells + x) 0 → (w ≡ 0 → ⊥) → 0 ≡ mark (is_fixed h vs xs x)
  coloured w e d =
      end (eqb (root h x) x and is_var (vertex h x) and not (vertex h x).flex and is_some (value_of x vs)) (is_some (number_of x xs 0)) (a_mark (is_some (number_of x xs 0)) (λ q. d (colour_is w e ∙ q))) ∙ ap mark (sym (fixed_by_law h vs xs x))

  -- it has none
  pub uncoloured : (w : ℕ) → w ≡ get_or (table_in t work) (colours_at cells + x) 0 → w ≡ 0 → is_some (number_of x xs 0) ≡ false
  uncoloured w e z = no_mark (is_some (number_of x xs 0)) (sym (colour_is w e) ∙ z)

  -- all five are right
  pub fixed : (l : Bool) (r : ℕ) (f : Bool) (v k : ℕ) → RootOf cells (table_in t work) g x l → not l ≡ false → HeadOf cells (table_in t work) g x r → r ≡ variable_head → FlexOf cells (table_in t work) g x f → f ≡ false
      → v ≡ get_or (table_in t work) (values_at cells + x) 0 → (v ≡ 0 → ⊥) → k ≡ get_or (table_in t work) (colours_at cells + x) 0 → k ≡ 0 → 1 ≡ mark (is_fixed h vs xs x)
  fixed l r f v k le lz H rz fe fz ve vd ke kz =
      right-all (eqb (root h x) x) (is_var (vertex h x)) (vertex h x).flex (is_some (value_of x vs)) (is_some (number_of x xs 0)) (not_denied l (eqb (root h x) x) (le h S) lz) (head-variable h x r (H h S) rz) (sym (fe h S) ∙ fz) (valued v ve vd) (uncoloured k ke kz)
      ∙ ap mark (sym (fixed_by_law h vs xs x))

-- ---- the words stand there
module _ (work cells : List ℕ) (t : Table) (g : Counts) (x : ℕ) (K : FixedAsked work cells t g x) where
  abbrev C : Coloured work cells t g K.held.graph K.held.values K.held.numbering
  C = K.held.coloured

  -- the nodes are few
  pub asked_few : g.nodes ≤ length cells
  asked_few = omega (arith, nodes_few cells (table_in t work) g C.stands.shows.laid, C.stands.shows.laid.fits)

  -- so the words of the node stand in the table
  pub asked-room : (t.at + table_end cells ≤ t.end) × (t.end ≤ length work) × (x < length cells)
  asked-room = (C.room, C.fits, omega (arith, asked_few, K.node))

-- ---- the loop
-- so many nodes were looked at
pub record Looked (work cells : List ℕ) (t : Table) (g : Counts) (x k : ℕ) : Type 0 where
  pub low : x ≤ g.nodes
  pub few : k ≤ x
  pub each : (h : Graph) (vs : List Bound) (xs : List ℕ) → Coloured work cells t g h vs xs → k ≡ count_of (is_fixed h vs xs) (up_to x)

-- none was
pub looked_none : (work cells : List ℕ) (t : Table) (g : Counts) → Looked work cells t g 0 0
unfolding count_of up_to
looked_none work cells t g = record { low = omega arith; few = omega arith; each = λ h vs xs C. refl }

-- one more
pub looked_on : (work cells : List ℕ) (t : Table) (g : Counts) (x k r : ℕ) → Looked work cells t g x k → x < g.nodes → FixesOne work cells t g x r → Looked work cells t g (x + 1) (k + r)
looked_on work cells t g x k r L m F = record {
  low = omega arith;
  few = omega (arith, L.few, F.0);
  each = λ h vs xs C. omega (arith, L.each h vs xs C, F.1 h vs xs C, count_next (is_fixed h vs xs) x);
}

-- all were
pub looked_all : (work cells : List ℕ) (t : Table) (g : Counts) (x k : ℕ) → Looked work cells t g x k → g.nodes ≤ x → FixesAll work cells t g k
looked_all work cells t g x k L m h vs xs C =
    let e : x ≡ length h = omega (arith, L.low, graph_long cells (table_in t work) g h C.stands.shows) in
    L.each h vs xs C ∙ ap (λ (n : ℕ). count_of (is_fixed h vs xs) (up_to n)) e
