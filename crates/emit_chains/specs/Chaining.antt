-- The things of a kind chained so far by a key, in a walk from the last one down.
use Rattle.std.specs.Prelude.{◌≡◌, List, ℕ, suc, ◌+◌, ◌-◌, ◌≤◌, ◌<◌, length, replicate}
use Rattle.std.proofs.Common.{sym, ap, subst, arith}
use Rattle.definition.specs.Pack.{Pack}
use Rattle.base.specs.Outside.{Outside, outside_none, outside_then, outside_wider}
use Rattle.pack_tables.specs.Catalog.{records_of, records_few}
use Rattle.pack_tables.specs.SameTables.{same-records}
use Rattle.pack_tables.specs.declared.catalog.Catalog.{Catalog}
use Rattle.pack_read.specs.Reads.{Reads}
use Rattle.pack_read.specs.Held.{Held, OfHeld, held_on, reads_back}
use Rattle.emit_chains.specs.Chain.{Chained, Put, chained_none, chained_more}
use Rattle.emit_chains.specs.Places.{firsts, links, length-links, Laid, ChainedIn, laid_same, laid_on}
use Rattle.emit_chains.specs.declared.chain.Chains.{Chains}

-- ---- the pack is held, with a link behind its tables for each thing of kind k
pub record Ready (bytes work : List ℕ) (c : Catalog) (h : Chains) (k : ℕ) : Type 0 where
  pub held : Held bytes work c
  pub laid : Laid work c h
  pub kind : k < 9
  pub room : length (records_of work c k) ≤ h.items

module _ (bytes work : List ℕ) (c : Catalog) (h : Chains) (k : ℕ) (Y : Ready bytes work c h k) where
  -- the things are few
  pub ready_few : length (records_of work c k) < 1073741824
  ready_few = omega (arith, records_few bytes work c k Y.held.cataloged Y.kind, Y.held.cataloged.fits.small)

  module _ (work' : List ℕ) (e : ℕ) (O : Outside h.first e work work') where
    -- what was written behind the tables leaves as many
    pub ready_many : length (records_of work' c k) ≡ length (records_of work c k)
    ready_many = ap length (same-records work work' c (laid_same work work' c h Y.laid e O) Y.held.cataloged.fits k Y.kind)

    -- and the pack held
    pub ready_on : Ready bytes work' c h k
    ready_on = record {
      held = held_on bytes work work' c (laid_same work work' c h Y.laid e O) Y.held;
      laid = laid_on work work' c h Y.laid e O;
      kind = Y.kind;
      room = omega (arith, ready_many, Y.room);
    }

    -- which is the one that was
    pub ready_back : (P : Pack) → Reads bytes (records_of work' c) P → Reads bytes (records_of work c) P
    ready_back P R = reads_back bytes work work' c (laid_same work work' c h Y.laid e O) Y.held.cataloged P R

-- ---- things of kind k, `many` of them, each with a key
module _ (bytes : List ℕ) (c : Catalog) (h : Chains) (k : ℕ) (many : Pack → ℕ) (key : Pack → ℕ → ℕ) where
  -- those from j on are chained, and nothing else has changed
  pub record Chaining (work : List ℕ) (j : ℕ) (work' : List ℕ) : Type 0 where
    pub ready : Ready bytes work' c h k
    pub outside : Outside h.first (h.next + h.items) work work'
    pub left : j ≤ length (records_of work' c k)
    pub chained : OfHeld bytes work' c (λ P. Chained (firsts work' h) (links work' h) (key P) j (many P - j))

  module _ (counted : (work : List ℕ) (P : Pack) → Reads bytes (records_of work c) P → many P ≡ length (records_of work c k)) (work : List ℕ) where
    -- a pack that is held is ready once words behind its tables were cleared
    pub ready_cleared : (H : Held bytes work c) → Laid work c h → k < 9 → many H.pack ≤ h.items → (work' : List ℕ) (e : ℕ) → Outside h.first e work work' → Ready bytes work' c h k
    ready_cleared H L l m work' e O = ready_on bytes work c h k (record { held = H; laid = L; kind = l; room = omega (arith, counted work H.pack H.reads) }) work' e O

    -- none yet
    pub chaining_none : Ready bytes work c h k → firsts work h ≡ replicate h.keys 0 → (j : ℕ) → j ≡ length (records_of work c k) → Chaining work j work
    chaining_none Y z j e = record {
      ready = Y;
      outside = outside_none h.first (h.next + h.items) work;
      left = omega arith;
      chained = λ P R q.
          let d : 0 ≡ many P - j = omega (arith, counted work P R) in
          subst (λ (n : ℕ). Chained (firsts work h) (links work h) (key P) j n) d
          (subst (λ (xs : List ℕ). Chained xs (links work h) (key P) j 0) (sym z) (chained_none h.keys (links work h) (key P) j));
    }

    module _ (j : ℕ) (work' : List ℕ) (A : Chaining work j work') where
      -- one more
      pub chaining_more : (i : ℕ) → j ≡ suc i → (v : ℕ) → OfHeld bytes work' c (λ P. v ≡ key P i) → (work'' : List ℕ)
          → Put (firsts work' h) (links work' h) v i (firsts work'' h) (links work'' h) → Outside h.first (h.next + h.items) work' work'' → Chaining work i work''
      chaining_more i e v f work'' u O =
          let Y = A.ready in
          let m = ready_many bytes work' c h k Y work'' (h.next + h.items) O in
          record {
            ready = ready_on bytes work' c h k Y work'' (h.next + h.items) O;
            outside = outside_then h.first (h.next + h.items) work work' work'' A.outside O;
            left = omega (arith, A.left, m);
            chained = λ P R q.
                let R' = ready_back bytes work' c h k Y work'' (h.next + h.items) O P R in
                let d : suc (many P - j) ≡ many P - i = omega (arith, A.left, counted work' P R') in
                let l : i < length (links work' h) = omega (arith, A.left, Y.room, length-links work' h Y.laid.within) in
                let C : Chained (firsts work' h) (links work' h) (key P) (suc i) (many P - j) =
                subst (λ (x : ℕ). Chained (firsts work' h) (links work' h) (key P) x (many P - j)) e (A.chained P R' q) in
                let u' : Put (firsts work' h) (links work' h) (key P i) i (firsts work'' h) (links work'' h) =
                subst (λ (x : ℕ). Put (firsts work' h) (links work' h) x i (firsts work'' h) (links work'' h)) (f P R' q) u in
                subst (λ (n : ℕ). Chained (firsts work'' h) (links work'' h) (key P) i n) d
                (chained_more (firsts work' h) (links work' h) (key P) i (many P - j) C l (firsts work'' h) (links work'' h) u');
          }

      -- all of them
      pub chaining_all : j ≤ 0 → ChainedIn bytes work' c h many key
      chaining_all z =
          let e : j ≡ 0 = omega arith in
          record {
            held = A.ready.held;
            laid = A.ready.laid;
            chained = λ P R q.
                let d : many P - j ≡ many P = omega arith in
                subst (λ (i : ℕ). Chained (firsts work' h) (links work' h) (key P) i (many P)) e
                (subst (λ (n : ℕ). Chained (firsts work' h) (links work' h) (key P) j n) d (A.chained P R q));
          }

      -- nothing else has changed since ahead of the clearing either
      pub chaining_outside : (before : List ℕ) → Outside h.first (h.first + h.keys) before work → Outside h.first (h.next + h.items) before work'
      chaining_outside before O =
          outside_then h.first (h.next + h.items) before work work'
          (outside_wider h.first (h.first + h.keys) h.first (h.next + h.items) before work (omega arith) (omega (arith, A.ready.laid.within.apart)) O)
          A.outside
