-- The buffers hold the state that a search begins with, when its words were made one part behind the other.
use Rattle.std.specs.Prelude.{◌≡◌, ℕ, ◌+◌, ◌/◌, ◌≤◌, length}
use Rattle.std.proofs.Math.Path.{refl, sym}
use Rattle.std.proofs.Common.{◌∙◌, arith}
use mathlib.Core.List.{List, []}
use Rattle.definition.specs.Pack.{symbol_of, rule_of}
use Rattle.definition.specs.Test.{never}
use Rattle.base.specs.Outside.{Outside, outside_then, outside_wider}
use Rattle.pack_tables.specs.Catalog.{records_of, Cataloged, records_few}
use Rattle.pack_tables.specs.SameTables.{same_then}
use Rattle.pack_read.specs.Reads.{length-sorts, length_symbols, length-rules}
use Rattle.pack_read.specs.Held.{Held, reads_on, held_on}
use Rattle.memo.specs.declared.memo.Memo.{Memo}
use Rattle.store.specs.Stored.{Stored}
use Rattle.store.specs.declared.nodes.Store.{Store}
use Rattle.text_write.specs.Written.{written_none}
use Rattle.emission.specs.Line.{tally}
use Rattle.emission.specs.Render.{proof_text}
use Rattle.emit_maps.specs.Asking.{counted_none}
use Rattle.emit_maps.specs.Trail.{trailed_none}
use Rattle.emit_chains.specs.Head.{top_of}
use Rattle.emit_chains.specs.Places.{ChainedIn, Laid as ChainsLaid}
use Rattle.emit_state.specs.Places.{maps_of, failed_at, replaced_at, walk_at, scratch_end, places_end, index_in, failed_in, rules_of, constructors_of, SameIn, Laid}
use Rattle.emit_state.specs.Holding.{most_cells}
use Rattle.emit_state.specs.Frame.{laid_on, tables_on, index_on, cataloged_on, pack_on, replaced_on, recall_on, maps_on, failed_on, chains_on}
use Rattle.emit_state.specs.Begin.{Emptied, ChainsMade, Begins}
use Rattle.emit_state.specs.declared.places.Places.{Places}
use Rattle.emit_state.specs.declared.standing.Standing.{Standing}

-- ---- the chains
-- there is a word for each record of a kind
module _ (bytes work : List ℕ) (l : Places) (H : Held bytes work l.hand.catalog) where
  -- sorts
  pub sorts_few : length H.pack.sorts ≤ l.hand.catalog.cap
  sorts_few = omega (arith, length-sorts bytes (records_of work l.hand.catalog) H.pack H.reads, records_few bytes work l.hand.catalog 0 H.cataloged (omega arith))

  -- symbols
  pub symbols_few : length H.pack.symbols ≤ l.hand.catalog.cap
  symbols_few = omega (arith, length_symbols bytes (records_of work l.hand.catalog) H.pack H.reads, records_few bytes work l.hand.catalog 1 H.cataloged (omega arith))

  -- rules
  pub rules_few : length H.pack.rules ≤ l.hand.catalog.cap
  rules_few = omega (arith, length-rules bytes (records_of work l.hand.catalog) H.pack H.reads, records_few bytes work l.hand.catalog 2 H.cataloged (omega arith))

-- the rules' chains stand behind the tables
pub rules_laid : (work : List ℕ) (l : Places) → Laid work l → ChainsLaid work l.hand.catalog (rules_of l)
rules_laid work l L = record { behind = omega (arith, L.tables, L.index); within = record { apart = omega arith; room = omega (arith, L.within) } }

-- and so do the constructors'
pub constructors_laid : (work : List ℕ) (l : Places) → Laid work l → ChainsLaid work l.hand.catalog (constructors_of l)
constructors_laid work l L = record { behind = omega (arith, L.tables, L.index); within = record { apart = omega arith; room = omega (arith, L.within) } }

-- of rules
abbrev pub RulesIn : List ℕ → List ℕ → Places → Type 0
RulesIn bytes work l = ChainedIn bytes work l.hand.catalog (rules_of l) (λ P. length P.rules) (λ P r. top_of (rule_of P r).conclusion)

-- of constructors
abbrev pub ConstructorsIn : List ℕ → List ℕ → Places → Type 0
ConstructorsIn bytes work l = ChainedIn bytes work l.hand.catalog (constructors_of l) (λ P. length P.symbols) (λ P h. (symbol_of P h).output)

-- one kind's made behind the other's
module _ (bytes work mid work' : List ℕ) (l : Places) (C : Cataloged bytes work l.hand.catalog) (L : Laid work l) where
  -- both are there, and nothing else has changed
  pub chains_made : RulesIn bytes mid l → Outside (rules_of l).first ((rules_of l).next + (rules_of l).items) work mid
      → ConstructorsIn bytes work' l → Outside (constructors_of l).first ((constructors_of l).next + (constructors_of l).items) mid work' → ChainsMade bytes work work' l
  chains_made R A K B =
      let M = laid_on l work mid L A.long in
      let first = tables_on l work mid L A.long (λ i _ h. A.ahead i (omega (arith, L.index))) in
      let second = tables_on l mid work' M B.long (λ i _ h. B.ahead i (omega (arith, L.index))) in
      record {
        outside = outside_then (scratch_end l) (places_end l) work mid work'
            (outside_wider (rules_of l).first ((rules_of l).next + (rules_of l).items) (scratch_end l) (places_end l) work mid (omega arith) (omega arith) A)
            (outside_wider (constructors_of l).first ((constructors_of l).next + (constructors_of l).items) (scratch_end l) (places_end l) mid work' (omega arith) (omega arith) B);
        rules = λ P reads proper.
            chains_on l mid work' M B.long (rules_of l) (omega (arith, M.within)) (omega (arith, M.within)) (λ i a h. B.ahead i (omega arith)) (λ i a h. B.ahead i (omega arith)) _ _
            (R.chained P (reads_on bytes work mid l.hand.catalog first C P reads) proper);
        constructors = λ P reads proper.
            K.chained P (reads_on bytes work work' l.hand.catalog (same_then work mid work' l.hand.catalog first second) C P reads) proper;
      }

-- ---- all together
-- the numbers that a search begins with
abbrev pub standing_at : Store → Memo → Standing
standing_at st failed = record { store = st; text = 0; steps = 0; definitions = 0; variables = 0; inductions = 0; trail = 0; failed = failed; hyps = 0 }

module _ (bytes work mid : List ℕ) (l : Places) (failed : Memo) (H : Held bytes work l.hand.catalog) (L : Laid work l) (E : Emptied work mid l failed) where
  -- as many words
  long : length mid ≡ length work
  long = E.outside.long

  -- the pack is held behind the first part
  pub emptied_held : Held bytes mid l.hand.catalog
  emptied_held = held_on bytes work mid l.hand.catalog (tables_on l work mid L long (λ i _ h. E.outside.ahead i (omega (arith, L.index)))) H

  -- and all stands where it did
  pub emptied_laid : Laid mid l
  emptied_laid = laid_on l work mid L long

  module _ (work' words : List ℕ) (st : Store) (S : Stored (index_in work l) words st) (room : l.room ≡ length words / 2) (few : length words ≤ most_cells) (C : ChainsMade bytes mid work' l) where
    -- only emission's words were written
    outside : Outside l.at (places_end l) work work'
    outside =
        outside_then l.at (places_end l) work mid work' (outside_wider l.at (walk_at l) l.at (places_end l) work mid (omega arith) (omega arith) E.outside)
        (outside_wider (scratch_end l) (places_end l) l.at (places_end l) mid work' (omega arith) (omega arith) C.outside)

    -- the chains are behind all else
    ahead : (a z : ℕ) → z ≤ scratch_end l → SameIn a z mid work'
    ahead a z k i _ h = C.outside.ahead i (omega arith)

    -- the tables are ahead
    before : SameIn 0 l.index work work'
    before i _ h = outside.ahead i (omega (arith, L.index))

    -- the failures are still none
    kept : failed_in work' l ≡ failed_in mid l
    kept = failed_on l mid work' emptied_laid C.outside.long (ahead (failed_at l) (replaced_at l) (omega arith))

    -- the buffers hold the state that a search begins with
    pub begins : Begins bytes work work' words l st (standing_at st failed)
    unfolding proof_text tally
    begins = record {
      outside = outside;
      same_store = refl;
      holding = λ proof lent T small p t reads proper named.
          let at_mid = pack_on l work mid L long (λ i _ h. E.outside.ahead i (omega (arith, L.index))) bytes H.cataloged T.pack reads in
          record {
            pattern_lent = p;
            text_lent = t;
            pattern_few = few;
            text_few = small;
            room_is = room;
            laid = laid_on l work work' L outside.long;
            beyond = record { long = refl; ahead = λ i a h. refl; between = λ i a h. refl; behind = λ i a h. refl };
            cataloged = cataloged_on l work work' L outside.long before bytes H.cataloged;
            reads = pack_on l work work' L outside.long before bytes H.cataloged T.pack reads;
            proper = proper;
            named = named;
            stored = rw (index_on l work work' L outside.long (λ i a h. outside.ahead i (omega (arith, L.index)))) S;
            nodes_are = refl;
            written = written_none proof;
            ends = omega arith;
            counts = refl;
            maps = maps_on l mid work' emptied_laid C.outside.long (ahead l.at (failed_at l) (omega arith)) [] [] [] [] [] E.maps;
            counted = counted_none work' (maps_of l);
            since = trailed_none work' (maps_of l) 0;
            supposed = refl;
            remembers = rw kept E.remembers;
            barren = λ j k z. let q = sym (E.nothing j) ∙ sym (recall_on (failed_at l) (replaced_at l) mid work' kept failed j) ∙ z in never (cc);
            replaced = replaced_on l mid work' emptied_laid C.outside.long (ahead (replaced_at l) (walk_at l) (omega arith)) E.replaced;
            rules = C.rules T.pack at_mid proper;
            constructors = C.constructors T.pack at_mid proper;
          };
    }
