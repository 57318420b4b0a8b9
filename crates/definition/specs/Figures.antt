-- Document 01, "Figures": `Stats`, each a count over the run.
use Rattle.std.specs.Prelude.{true, false, List, [], ◌∷◌, ℕ, ◌+◌, eqb, leb, length}
use Rattle.definition.specs.Pack.{Pack}
use Rattle.definition.specs.Keys.{Keyed, needed, keyed}
use Rattle.definition.specs.Classes.{Class, Built, count_of}
use Rattle.definition.specs.declared.Figures.{Figures}

-- the histogram's slot of a count: "up to 1, 2 to 9, 10 to 99, 100 or more"
unfoldable pub slot : ℕ → ℕ
slot n = elim (leb n 1) [ true ↦ 0 | false ↦ elim (leb n 9) [ true ↦ 1 | false ↦ elim (leb n 99) [ true ↦ 2 | false ↦ 3 ] ] ]

unfoldable pub in_slot : List Keyed → ℕ → ℕ
unfolding slot count_of
in_slot ks i = count_of (λ (k : Keyed). eqb (slot k.count) i) ks

-- a figure added up over the classes
unfoldable pub total : (Class → ℕ) → List Class → ℕ
total f [] = 0
total f (c ∷ cs) = f c + total f cs

-- "Cut classes add nothing to `class_vars`", nor to `flex_vars`
unfoldable pub class_vars_of : Class → ℕ
class_vars_of c = elim c.cut [ true ↦ 0 | false ↦ length c.flex ]

unfoldable pub flex_vars_of : Class → ℕ
unfolding count_of
flex_vars_of c = elim c.cut [ true ↦ 0 | false ↦ count_of (λ f. f) c.flex ]

-- "`steps`, defined as the number of needed steps"; `ground_nodes` counts the pack's nodes, `pattern_nodes` the store's
unfoldable pub figures : Pack → Built → Figures
unfolding needed keyed total class_vars_of flex_vars_of in_slot
figures P b = record {
  steps = length (needed P);
  classes = length b.classes;
  ground_nodes = length P.nodes;
  pattern_nodes = length b.store;
  class_vars = total class_vars_of b.classes;
  flex_vars = total flex_vars_of b.classes;
  fixed_vars = total (λ (c : Class). c.fixed) b.classes;
  subst_entries = total (λ (c : Class). c.entries) b.classes;
  subst_renamings = total (λ (c : Class). c.renamings) b.classes;
  single = in_slot (keyed P).classes 0;
  few = in_slot (keyed P).classes 1;
  tens = in_slot (keyed P).classes 2;
  hundreds = in_slot (keyed P).classes 3;
}
