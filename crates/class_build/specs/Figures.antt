-- The figures as the definition has them.
use Rattle.std.specs.Prelude.{◌≡◌, List, ℕ, length}
use Rattle.std.proofs.Common.{sym, ap, ◌∙◌}
use Rattle.definition.specs.Pack.{Pack}
use Rattle.definition.specs.Keys.{keyed as keys_of}
use Rattle.definition.specs.Classes.{Built}
use Rattle.definition.specs.Figures.{figures}
use Rattle.definition.specs.declared.Figures.{Figures}
use Rattle.store.specs.Stored.{Stored, nodes, Counts as Holds}
use Rattle.store.specs.declared.nodes.Store.{Store}
use Rattle.class_keys.specs.Keyed.{KeyedIn}
use Rattle.class_keys.specs.declared.classes.Keying.{Keying}
use Rattle.class_keys.specs.declared.classes.Counts.{Counts}
use Rattle.class_build.specs.Slots.{CountsOf, Sorts}
use Rattle.class_build.specs.declared.histogram.Slots.{Slots}
use Rattle.class_premises.specs.declared.building.Counted.{Counted}
use Rattle.class_all.specs.Totals.{Sums}

-- all that is counted is of pack P and of what was built of it
pub record Measured (work class index words : List ℕ) (k : Keying) (r : Counts) (n : ℕ) (st : Store) (t : Counted) (P : Pack) (b : Built) : Type 0 where
  pub keyed : KeyedIn P work class k r
  pub classes : r.classes ≡ length b.classes
  pub closed : n ≡ length P.nodes
  pub stored : Stored index words st
  pub store : nodes words st ≡ b.store
  pub summed : Sums t b.classes

-- what `figures_of` answers
abbrev pub Figured : List ℕ → Keying → Counts → ℕ → Store → Counted → Figures → Type 0
Figured work k r n st t f = (class index words : List ℕ) (P : Pack) (b : Built) → Measured work class index words k r n st t P b → f ≡ figures P b

-- the keys' counts are those of the definition's classes
counts_of : (P : Pack) (work class : List ℕ) (k : Keying) (r : Counts) → KeyedIn P work class k r → CountsOf work k r.classes (keys_of P).classes
counts_of P work class k r K = record { many = K.classes; count = K.count }

-- the figures put together
pub figured : (work : List ℕ) (k : Keying) (r : Counts) (n m : ℕ) (st : Store) (t : Counted) (s : Slots) → Sorts work k r.classes s → Holds st m
    → Figured work k r n st t (record { steps = r.needed; classes = r.classes; ground_nodes = n; pattern_nodes = m; class_vars = t.vars; flex_vars = t.flex; fixed_vars = t.fixed; subst_entries = t.entries; subst_renamings = t.renamings; single = s.single; few = s.few; tens = s.tens; hundreds = s.hundreds })
unfolding figures
figured work k r n m st t s S H class index words P b C =
    let D = S (keys_of P).classes (counts_of P work class k r C.keyed) in
    let p : m ≡ length b.store = H index words C.stored ∙ ap length C.store in
    rw (C.keyed.needed, C.classes, C.closed, p, sym C.summed.vars, sym C.summed.flex, sym C.summed.fixed, sym C.summed.entries, sym C.summed.renamings, D.single, D.few, D.tens, D.hundreds)
