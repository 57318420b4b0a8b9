-- A pack that was read: it is proper, its tables hold it, and what is said of what they hold is said of it.
use Rattle.std.specs.Prelude.{◌≡◌, List, ℕ, length}
use Rattle.std.proofs.Common.{sym, subst}
use Rattle.definition.specs.Pack.{Pack}
use Rattle.definition.specs.Frame.{fine}
use Rattle.definition.specs.Parse.{parse}
use Rattle.definition.proofs.Laws.Good.{parsed_good, parsed_once, parsed_few}
use Rattle.pack_tables.specs.Catalog.{records_of, Cataloged}
use Rattle.pack_tables.specs.declared.catalog.Catalog.{Catalog}
use Rattle.pack_read.specs.Reads.{Reads}
use Rattle.pack_read.specs.Held.{Proper, Held, OfHeld}
use Rattle.pack_reader.specs.Parsed.{tables_of, Represents}

pub parsed_proper : (bytes : List ℕ) (P : Pack) → parse bytes ≡ fine P → Proper P
parsed_proper bytes P f = record { good = parsed_good bytes P f; once = parsed_once bytes P f; few = parsed_few bytes P f }

module _ (bytes work : List ℕ) (c : Catalog) (e : c ≡ tables_of (length bytes)) where
  pub reads_there : (P : Pack) → Represents bytes work P → Reads bytes (records_of work c) P
  reads_there P R = subst (λ (x : Catalog). Reads bytes (records_of work x) P) (sym e) R.reads

  abbrev pub represents_held : (P : Pack) → parse bytes ≡ fine P → Represents bytes work P → Held bytes work c
  represents_held P f R = record { cataloged = subst (Cataloged bytes work) (sym e) R.reading.cataloged; pack = P; reads = reads_there P R; proper = parsed_proper bytes P f }

  pub represents_said : (F : Pack → Type 0) → OfHeld bytes work c F → (P : Pack) → parse bytes ≡ fine P → Represents bytes work P → F P
  represents_said F claim P f R = claim P (reads_there P R) (parsed_proper bytes P f)
