-- The pack that work holds, and what is said of it.
use Rattle.std.specs.Prelude.{◌≡◌, List, ℕ, ◌<◌}
use Rattle.std.proofs.Common.{sym, arith}
use Rattle.definition.specs.Pack.{Pack}
use Rattle.definition.specs.Good.{Good, Once, Few}
use Rattle.pack_tables.specs.Place.{Place}
use Rattle.pack_tables.specs.Catalog.{records_of, Cataloged}
use Rattle.pack_tables.specs.SameTables.{Same, same-records, same_cataloged}
use Rattle.pack_tables.specs.declared.catalog.Catalog.{Catalog}
use Rattle.pack_read.specs.Reads.{Reads}
use Rattle.pack_read.specs.Says.{Readable}

-- what every parsed pack is
pub record Proper (P : Pack) : Type 0 where
  pub good : Good P
  pub once : Once P
  pub few : Few P

-- the tables are of such a pack
pub record Held (bytes work : List ℕ) (c : Catalog) : Type 0 where
  pub cataloged : Cataloged bytes work c
  pub pack : Pack
  pub reads : Reads bytes (records_of work c) pack
  pub proper : Proper pack

abbrev pub readable : (bytes work : List ℕ) (c : Catalog) → Held bytes work c → Readable bytes work c
readable bytes work c H = record { cataloged = H.cataloged; pack = H.pack; reads = H.reads }

-- it holds of whatever such pack the tables are
abbrev pub OfHeld : List ℕ → List ℕ → Catalog → (Pack → Type 0) → Type 0
OfHeld bytes work c F = (P : Pack) → Reads bytes (records_of work c) P → Proper P → F P

-- the same records at other places of a list of lists are the same pack
reads_same : (bytes : List ℕ) (rs rs' : ℕ → List Place) (P : Pack) → ((k : ℕ) → k < 9 → rs' k ≡ rs k) → Reads bytes rs P → Reads bytes rs' P
reads_same bytes rs rs' P e R = record {
  sorts = rw (e 0 (omega arith)) R.sorts;
  symbols = rw (e 1 (omega arith)) R.symbols;
  rules = rw (e 2 (omega arith)) R.rules;
  nodes = rw (e 3 (omega arith)) R.nodes;
  steps = rw (e 4 (omega arith)) R.steps;
  goals = rw (e 5 (omega arith)) R.goals;
  results = rw (e 6 (omega arith)) R.results;
  cuts = rw (e 7 (omega arith)) R.cuts;
  abstracts = rw (e 8 (omega arith)) R.abstracts;
}

-- words written behind the tables leave the pack that they hold
module _ (bytes work work' : List ℕ) (c : Catalog) (S : Same work work' c) (C : Cataloged bytes work c) where
  pub reads_on : (P : Pack) → Reads bytes (records_of work c) P → Reads bytes (records_of work' c) P
  reads_on P R = reads_same bytes (records_of work c) (records_of work' c) P (λ k h. same-records work work' c S C.fits k h) R

  pub reads_back : (P : Pack) → Reads bytes (records_of work' c) P → Reads bytes (records_of work c) P
  reads_back P R = reads_same bytes (records_of work' c) (records_of work c) P (λ k h. sym (same-records work work' c S C.fits k h)) R

abbrev pub held_on : (bytes work work' : List ℕ) (c : Catalog) → Same work work' c → Held bytes work c → Held bytes work' c
held_on bytes work work' c S H = record {
  cataloged = same_cataloged bytes work work' c S H.cataloged;
  pack = H.pack;
  reads = reads_on bytes work work' c S H.cataloged H.pack H.reads;
  proper = H.proper;
}
