-- A pack that was opened: where the search has its words, and what is asked for.
use Rattle.std.specs.Prelude.{◌≡◌, true, List, ℕ, ◌+◌, ◌*◌, ◌/◌, ◌≤◌, ◌<◌, length}
use Rattle.std.proofs.Math.Option.{none}
use Rattle.std.proofs.Common.{arith}
use Rattle.definition.specs.Pack.{Pack}
use Rattle.definition.specs.Frame.{fine}
use Rattle.definition.specs.Parse.{parse}
use Rattle.definition.specs.Store.{nothing}
use Rattle.definition.specs.Answer.{lengths}
use Rattle.pack_tables.specs.Catalog.{records_of}
use Rattle.pack_tables.specs.declared.catalog.Catalog.{Catalog}
use Rattle.pack_read.specs.Reads.{length-nodes}
use Rattle.pack_read.specs.Held.{Held, OfHeld}
use Rattle.pack_reader.specs.Parsed.{tables_of, Represents}
use Rattle.dock_call.specs.Lengths.{lengths_fit}
use Rattle.term_lift.specs.declared.lift.Lifted.{Lifted}
use Rattle.host_walk.specs.Places.{Opened as OpenedTo, held_there, Lays, lays_low, Sized, sized}
use Rattle.emit_state.specs.Holding.{most_cells}
use Rattle.emit_state.specs.declared.places.Places.{Places}
use Rattle.host_search.specs.declared.asked.Query.{Query}
use Rattle.host_search.specs.Came.{lent_to}
use Rattle.host_search.specs.Searched.{is_asked}
use Rattle.host_search.specs.Asked.{asked-given}

-- where the search has its words: behind those of lifting, whose index is the store's
abbrev pub places_for : ℕ → Catalog → Lifted → ℕ → Places
places_for patterns c l name = record { hand = record { catalog = c; name = name }; index = l.at + 3 * l.nodes; at = l.end; room = patterns / 2 }

-- lifting's words end far below what a number can say
pub record Low (l : Lifted) : Type 0 where
  pub start : l.at ≤ 1073741824
  pub nodes : l.nodes ≤ 1073741824

-- the lengths pass, and work holds the pack
pub record Opened (bytes work : List ℕ) (patterns text : ℕ) : Type 0 where
  pub there : OpenedTo bytes work patterns 0
  pub text_few : text ≤ most_cells

-- so it is when a pack is opened
pub opens : (bytes work : List ℕ) (patterns text n : ℕ) → length work ≡ n → lengths (lent_to (length bytes) n patterns text) ≡ none → (P : Pack) → parse bytes ≡ fine P → Represents bytes work P → Opened bytes work patterns text
opens bytes work patterns text n m e P p R =
    let F = lengths_fit (lent_to (length bytes) n patterns text) e in
    record {
      there = record {
        fit = record {
          pack = F.pack;
          class = F.class;
          pattern = F.pattern;
          graph = F.graph;
          work = omega (arith, F.work, m);
          text = omega arith;
          goals = F.goals;
          least = omega (arith, F.least, m);
        };
        pack = P;
        parsed = p;
        represents = R;
      };
      text_few = F.text;
    }

-- a pack that was opened, and what is asked for is there
pub record Asking (bytes work : List ℕ) (patterns text : ℕ) (c : Catalog) (q : Query) : Type 0 where
  pub opened : Opened bytes work patterns text
  pub tables : c ≡ tables_of (length bytes)
  pub asked : OfHeld bytes work c (λ P. is_asked P q.node q.depth ≡ true)

module _ (bytes work words : List ℕ) (text : ℕ) (c : Catalog) (q : Query) (K : Asking bytes work (length words) text c q) where
  -- the pack is held
  abbrev pub asking_held : Held bytes work c
  asking_held = held_there bytes work (length words) 0 K.opened.there c K.tables

  -- the numbers are small
  pub asking_sized : Sized work (length words) c
  asking_sized = sized bytes work (length words) 0 c K.opened.there K.tables

  module _ (l : Lifted) (L : Lays work (length words) c l) where
    -- how far lifting's words go
    pub asking_end : l.end ≤ 7 * length bytes + 2 * length words + 100
    asking_end = lays_low bytes work (length words) 0 c l K.opened.there K.tables L

    -- lifting's words are within
    pub asking_inside : (l.end ≤ length work) × (length words < nothing)
    asking_inside = let F = K.opened.there.fit in (omega (arith, asking_end, F.least), omega (arith, F.pattern))

    -- and their numbers small
    pub asking_low : Low l
    asking_low =
        let F = K.opened.there.fit in
        let e = L.end in
        record { start = omega (arith, asking_end, F.pack, F.pattern); nodes = omega (arith, asking_end, F.pack, F.pattern) }

    -- the node is one of those that are lifted
    pub asking_node : q.node < l.nodes
    asking_node =
        let H = asking_held in
        let G = asked-given H.pack q.node q.depth (K.asked H.pack H.reads H.proper) in
        omega (arith, G.given, L.many, length-nodes bytes (records_of work c) H.pack H.reads)
