-- Where the regions stand in work: behind the pack's tables lifting's words with the store's index, behind these the rest.
use Rattle.std.specs.Prelude.{◌≡◌, List, [], ℕ, ◌+◌, ◌*◌, ◌-◌, ◌/◌, ◌≤◌, ◌<◌, length, take, drop}
use Rattle.std.proofs.Common.{sym, ap, subst, ◌∙◌, arith}
use Rattle.std.proofs.Math.Option.{none}
use Rattle.definition.specs.Pack.{Pack}
use Rattle.definition.specs.Frame.{fine}
use Rattle.definition.specs.Parse.{parse}
use Rattle.definition.specs.Answer.{lengths}
use Rattle.definition.specs.Store.{nothing}
use Rattle.base.specs.Part.{part, put, length_part, length-put, put-before, part-put}
use Rattle.store.specs.Stored.{Stored, nodes}
use Rattle.store.specs.declared.nodes.Store.{Store}
use Rattle.pack_tables.specs.Catalog.{records_of, Fits}
use Rattle.pack_tables.specs.SameTables.{Same, end_of, same-records}
use Rattle.pack_tables.specs.declared.catalog.Catalog.{Catalog}
use Rattle.pack_read.specs.Held.{Held, held_on}
use Rattle.pack_reader.specs.Parsed.{tables_of, Represents}
use Rattle.pack_reader.specs.Said.{represents_held}
use Rattle.dock_call.specs.Lengths.{Fit, lengths_fit}
use Rattle.term_lift.specs.Lifts.{Laid, Lifts, Clears}
use Rattle.term_lift.specs.declared.lift.Lifted.{Lifted}
use Rattle.host_walk.specs.Came.{lent_to}

-- the lengths pass, and work holds the pack
pub record Opened (bytes work : List ℕ) (patterns cells : ℕ) : Type 0 where
  pub fit : Fit (lent_to (length bytes) patterns cells (length work))
  pub pack : Pack
  pub parsed : parse bytes ≡ fine pack
  pub represents : Represents bytes work pack

-- so it is when a pack is opened
pub opens : (bytes work : List ℕ) (patterns cells n : ℕ) → length work ≡ n → lengths (lent_to (length bytes) patterns cells n) ≡ none → (P : Pack) → parse bytes ≡ fine P → Represents bytes work P → Opened bytes work patterns cells
opens bytes work patterns cells n m e P p R = record { fit = subst (λ (k : ℕ). Fit (lent_to (length bytes) patterns cells k)) (sym m) (lengths_fit (lent_to (length bytes) patterns cells n) e); pack = P; parsed = p; represents = R }

-- the pack is held
abbrev pub held_there : (bytes work : List ℕ) (patterns cells : ℕ) → Opened bytes work patterns cells → (c : Catalog) → c ≡ tables_of (length bytes) → Held bytes work c
held_there bytes work patterns cells O c e = represents_held bytes work c e O.pack O.parsed O.represents

-- where lifting's words stand: behind the pack's tables and the marks of its cuts
pub record Lays (work : List ℕ) (patterns : ℕ) (c : Catalog) (l : Lifted) : Type 0 where
  pub at : l.at ≡ end_of c + c.cap
  pub many : l.nodes ≡ length (records_of work c 3)
  pub end : l.end ≡ l.at + 3 * l.nodes + (4 * (patterns / 2) + 1)

-- how far they go
pub lays_low : (bytes work : List ℕ) (patterns cells : ℕ) (c : Catalog) (l : Lifted) → Opened bytes work patterns cells → c ≡ tables_of (length bytes) → Lays work patterns c l → l.end ≤ 7 * length bytes + 2 * patterns + 100
lays_low bytes work patterns cells c l O e L =
    let few : 7 * length (records_of work c 3) ≤ length bytes = subst (λ (x : Catalog). 7 * length (records_of work x 3) ≤ length bytes) (sym e) (O.represents.reading.few 3 (omega arith)) in
    let a : c.at ≡ 0 = ap (λ (x : Catalog). x.at) e in
    let k : c.cap ≡ length bytes / 7 + 1 = ap (λ (x : Catalog). x.cap) e in
    omega (arith, L.at, L.many, L.end)

-- a new store, with nothing lifted
pub record Stores (bytes work work' words : List ℕ) (c : Catalog) (l : Lifted) (st : Store) : Type 0 where
  pub empty : nodes words st ≡ []
  pub lifts : Lifts bytes work' words c l st
  pub same : Same work work' c

module _ (bytes work words : List ℕ) (c : Catalog) (l : Lifted) (H : Held bytes work c) (L : Lays work (length words) c l) (inside : l.end ≤ length work) (small : length words < nothing) where
  module _ (index : List ℕ) (long : length index ≡ length (take (l.end - (l.at + 3 * l.nodes)) (drop (l.at + 3 * l.nodes) work))) (st : Store) (S : Stored index words st) where
    -- the words with the index
    abbrev indexed : List ℕ
    indexed = put (l.at + 3 * l.nodes) (l.end - (l.at + 3 * l.nodes)) index work

    -- it stands within
    fits : l.at + 3 * l.nodes + (l.end - (l.at + 3 * l.nodes)) ≤ length work
    fits = omega (arith, L.end)

    -- as long as it was
    many : length index ≡ l.end - (l.at + 3 * l.nodes)
    unfolding part
    many = long ∙ length_part (l.at + 3 * l.nodes) (l.end - (l.at + 3 * l.nodes)) work fits

    -- as long as before
    pub indexed_long : length indexed ≡ length work
    indexed_long = length-put (l.at + 3 * l.nodes) (l.end - (l.at + 3 * l.nodes)) work fits index many

    -- the pack's tables are as they were
    indexed-same : Same work indexed c
    indexed-same = record { long = indexed_long; words = λ i h. put-before (l.at + 3 * l.nodes) (l.end - (l.at + 3 * l.nodes)) work fits index many i (omega (arith, L.at)) }

    -- the regions stand there
    laid : Laid bytes indexed words c l st
    laid = record {
      held = held_on bytes work indexed c indexed-same H;
      behind = omega (arith, L.at);
      many = L.many ∙ ap length (sym (same-records work indexed c indexed-same H.cataloged.fits 3 (omega arith)));
      fits = omega (arith, L.end);
      inside = omega (arith, indexed_long);
      index = subst (λ (xs : List ℕ). Stored xs words st) (sym (part-put (l.at + 3 * l.nodes) (l.end - (l.at + 3 * l.nodes)) work fits index many)) S;
    }

    -- a store was made, and lifting's words cleared
    pub stores : nodes words st ≡ [] → (work' : List ℕ) → Clears indexed work' l → Stores bytes work work' words c l st
    stores e work' C = record {
      empty = e;
      lifts = C.lifts bytes words c st laid;
      same = record { long = C.frame.long ∙ indexed_long; words = λ i h. C.frame.ahead i (omega (arith, L.at)) ∙ indexed-same.words i h };
    }

-- the numbers of a pack that was opened
pub record Sized (work : List ℕ) (patterns : ℕ) (c : Catalog) : Type 0 where
  pub fits : Fits work c
  pub at : c.at ≡ 0
  pub cap : c.cap ≤ 3000000
  pub few : length (records_of work c 3) ≤ 3000000
  pub words : patterns ≤ 16777216

-- they are small
pub sized : (bytes work : List ℕ) (patterns n : ℕ) (c : Catalog) → Opened bytes work patterns n → c ≡ tables_of (length bytes) → Sized work patterns c
sized bytes work patterns n c O e =
    let few : 7 * length (records_of work c 3) ≤ length bytes = subst (λ (x : Catalog). 7 * length (records_of work x 3) ≤ length bytes) (sym e) (O.represents.reading.few 3 (omega arith)) in
    let k : c.cap ≡ length bytes / 7 + 1 = ap (λ (x : Catalog). x.cap) e in
    record {
      fits = subst (Fits work) (sym e) O.represents.reading.cataloged.fits;
      at = ap (λ (x : Catalog). x.at) e;
      cap = omega (arith, O.fit.pack);
      few = omega (arith, O.fit.pack);
      words = O.fit.pattern;
    }
