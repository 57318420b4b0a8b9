-- `Catalog::new` meets its contract: with each turn one region more is without records.
use Prim.Native.Nat.{ℕ, ◌≤◌}
use Rattle.pack_tables.specs.Catalog.{Clearing}
use Rattle.pack_tables.specs.declared.catalog.Catalog.{Catalog}
use Rattle.pack_tables.proofs.catalog.Catalog.new.Given as goal

abbrev made : ℕ → ℕ → Catalog
made at cap = record { at = at; cap = cap }

abbrev pub invariant-loop-k : goal.invariant-loop-k
invariant-loop-k l = (l.k ≤ 9) × Clearing l.initial.work l.work (made l.at l.cap) l.k
