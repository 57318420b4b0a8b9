-- Whether what is asked for is there: the tests in code, and what they say.
use Rattle.std.specs.Prelude.{◌≡◌, true, false, List, ℕ, ◌≤◌, ◌<◌, leb, ltb}
use Rattle.std.proofs.Math.Path.{sym, ap}
use Rattle.std.proofs.Common.{◌∙◌, arith}
use borrow.Author.Tests.{le-leb, lt-leb, lt-ltb, le-ltb}
use Rattle.std.proofs.Math.Dec.{eqb}
use Rattle.std.proofs.Math.ListN.{length}
use Rattle.definition.specs.Test.{◌and◌, and_parts, tests}
use Rattle.definition.specs.Pack.{prop, Pack, node_of, sort_of}
use Rattle.pack_tables.specs.Catalog.{records_of}
use Rattle.pack_tables.specs.declared.catalog.Catalog.{Catalog}
use Rattle.pack_read.specs.Reads.{length-nodes}
use Rattle.pack_read.specs.Held.{Held, OfHeld, readable}
use Rattle.pack_read.specs.Says.{Readable, OfPack}
use Rattle.emit_state.specs.Holding.{levels}
use Rattle.host_search.specs.Searched.{is_asked}

-- what is asked for is there
pub record Given (P : Pack) (node depth : ℕ) : Type 0 where
  pub levels_few : depth ≤ levels
  pub given : node < length P.nodes
  pub judgment : sort_of P node ≡ prop

-- so the test says
pub asked-given : (P : Pack) (node depth : ℕ) → is_asked P node depth ≡ true → Given P node depth
unfolding is_asked
asked-given P node depth e =
    let a = and_parts (leb depth levels and ltb node (length P.nodes)) (eqb (sort_of P node) prop) e in
    let b = and_parts (leb depth levels) (ltb node (length P.nodes)) a.0 in
    record { levels_few = omega (tests, b.0); given = omega (tests, b.1); judgment = omega (tests, a.1) }

-- ---- what each test decides
module _ (bytes work : List ℕ) (c : Catalog) (H : Held bytes work c) (node depth : ℕ) where
  -- there is no such depth
  pub asked_deep : levels < depth → OfHeld bytes work c (λ P. false ≡ is_asked P node depth)
  unfolding is_asked
  asked_deep h P R Q = sym (rw (lt-leb _ _ h, ◌and◌))

  -- there is no such node
  pub asked-none : depth ≤ levels → length (records_of work c 3) ≤ node → OfHeld bytes work c (λ P. false ≡ is_asked P node depth)
  unfolding is_asked
  asked-none d h P R Q =
      let k : length P.nodes ≤ node = omega (arith, length-nodes bytes (records_of work c) P R) in
      sym (rw (le-leb _ _ d, le-ltb _ _ k, ◌and◌))

  module _ (h : node < length (records_of work c 3)) where
    -- its sort may be read
    pub asked_read : ((R : Readable bytes work c) × (node < length (records_of work c 3)) × ((node_of R.pack node).head < length R.pack.symbols))
    asked_read = (readable bytes work c H, h, (H.proper.good.nodes node (omega (arith, length-nodes bytes (records_of work c) H.pack H.reads))).head)

    -- and says whether it is a judgment
    pub asked-sort : depth ≤ levels → (s : ℕ) → OfPack bytes work c (λ P. sort_of P node) s → OfHeld bytes work c (λ P. eqb s prop ≡ is_asked P node depth)
    unfolding is_asked
    asked-sort d s e P R Q =
        let k : node < length P.nodes = omega (arith, length-nodes bytes (records_of work c) P R) in
        ap (λ (x : ℕ). eqb x prop) (e P R) ∙ sym (rw (le-leb _ _ d, lt-ltb _ _ k, ◌and◌))
