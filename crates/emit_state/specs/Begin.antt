-- The state that a search begins with: no lines, empty maps, nothing remembered, rules and constructors chained.
use Rattle.std.specs.Prelude.{◌≡◌, List, [], ℕ, ◌+◌, ◌*◌, ◌≤◌, length, set}
use Rattle.std.proofs.Common.{◌∙◌, arith, get_or-set_same}
use Rattle.std.proofs.Math.Option.{none}
use Rattle.definition.specs.Pack.{symbol_of, rule_of}
use Rattle.definition.specs.Answer.{Lent}
use Rattle.base.specs.Outside.{Outside, outside_then, outside_wider, outside_set}
use Rattle.pack_tables.specs.Catalog.{records_of}
use Rattle.pack_read.specs.Reads.{Reads}
use Rattle.pack_read.specs.Held.{Proper, OfHeld}
use Rattle.memo.specs.Recall.{Remembers}
use Rattle.memo.specs.Lent.{recall_at, Clears, lent-before, recall-before}
use Rattle.memo.specs.declared.memo.Memo.{Memo}
use Rattle.store.specs.Stored.{nodes}
use Rattle.store.specs.declared.nodes.Store.{Store}
use Rattle.emission.specs.Name.{name_with}
use Rattle.emission.specs.State.{Setting}
use Rattle.emission.specs.Begin.{fresh}
use Rattle.emit_maps.specs.Holds.{Holds, Begins as MapsBegin, holds_begun, holds_on}
use Rattle.emit_chains.specs.Chain.{Chained}
use Rattle.emit_chains.specs.Head.{top_of}
use Rattle.emit_chains.specs.Places.{firsts, links}
use Rattle.emit_state.specs.Places.{maps_of, failed_at, replaced_at, stamp_at, walk_at, scratch_end, places_end, failed_in, replaced_in, replacing, rules_of, constructors_of, Laid}
use Rattle.emit_state.specs.Holding.{lends, World, most_cells, Holding}
use Rattle.emit_state.specs.declared.places.Places.{Places}
use Rattle.emit_state.specs.declared.standing.Standing.{Standing}

-- nothing was put for L
pub record Unput (work work' : List ℕ) (l : Places) : Type 0 where
  pub outside : Outside (replaced_at l) (walk_at l) work work'
  pub replaced : Remembers (replaced_in work' l) (replacing work' l)

-- nor is anything in the maps or among the failures
pub record Emptied (work work' : List ℕ) (l : Places) (failed : Memo) : Type 0 where
  pub outside : Outside l.at (walk_at l) work work'
  pub maps : Holds work' (maps_of l) [] [] [] [] []
  pub remembers : Remembers (failed_in work' l) failed
  pub nothing : (j : ℕ) → recall_at (failed_at l) (replaced_at l) work' failed j ≡ none
  pub replaced : Remembers (replaced_in work' l) (replacing work' l)

-- rules and constructors are chained
pub record ChainsMade (bytes work work' : List ℕ) (l : Places) : Type 0 where
  pub outside : Outside (scratch_end l) (places_end l) work work'
  pub rules : OfHeld bytes work l.hand.catalog (λ P. Chained (firsts work' (rules_of l)) (links work' (rules_of l)) (λ r. top_of (rule_of P r).conclusion) 0 (length P.rules))
  pub constructors : OfHeld bytes work l.hand.catalog (λ P. Chained (firsts work' (constructors_of l)) (links work' (constructors_of l)) (λ h. (symbol_of P h).output) 0 (length P.symbols))

-- what the search that begins goes by: no hypotheses
abbrev pub world_at : Lent → Setting → List ℕ → World
world_at lent S work = record { beyond = work; lent = lent; setting = S; hyps = []; before = work; from = 0 }

-- the buffers hold that state, in whatever lengths, for whatever setting goes by the pack and by L's name
pub record Begins (bytes work work' words : List ℕ) (l : Places) (st : Store) (m : Standing) : Type 0 where
  pub outside : Outside l.at (places_end l) work work'
  pub same_store : m.store ≡ st
  pub holding : (proof : List ℕ) (lent : Lent) (S : Setting) → length proof ≤ most_cells → lent.pattern ≡ length words → lent.text ≡ length proof
      → Reads bytes (records_of work l.hand.catalog) S.pack → Proper S.pack → S.name ≡ name_with l.hand.name
      → Holding (lends bytes work' words proof) l m (world_at lent S work') (fresh (nodes words st))

-- ---- what is put for L
-- a memo without entries, and its stamp in the word behind
pub unput : (work mid : List ℕ) (l : Places) (memo : Memo) → Laid work l → Clears work mid (replaced_at l) (stamp_at l) memo → Unput work (set mid (stamp_at l) memo.stamp) l
unput work mid l memo L C =
    let O = C.outside in
    let S : Outside (stamp_at l) (walk_at l) mid (set mid (stamp_at l) memo.stamp) = outside_set (stamp_at l) (walk_at l) mid (stamp_at l) memo.stamp (omega arith) (omega arith) in
    let f = lent-before (stamp_at l) (walk_at l) mid (set mid (stamp_at l) memo.stamp) S (replaced_at l) (stamp_at l) (omega arith) (omega arith) (omega (arith, L.within, O.long)) in
    let g = get_or-set_same mid (stamp_at l) memo.stamp 0 (omega (arith, L.within, O.long)) in
    record {
      outside = outside_then (replaced_at l) (walk_at l) work mid (set mid (stamp_at l) memo.stamp)
          (outside_wider (replaced_at l) (stamp_at l) (replaced_at l) (walk_at l) work mid (omega arith) (omega arith) O)
          (outside_wider (stamp_at l) (walk_at l) (replaced_at l) (walk_at l) mid (set mid (stamp_at l) memo.stamp) (omega arith) (omega arith) S);
      replaced = rw (f, g) C.remembers;
    }

-- ---- with the maps and the failures
module _ (work made mid work' : List ℕ) (l : Places) (failed : Memo) (L : Laid work l) (B : MapsBegin work made (maps_of l)) (C : Clears made mid (failed_at l) (replaced_at l) failed) (U : Unput mid work' l) where
  -- nothing is in any of them
  pub emptied : Emptied work work' l failed
  emptied =
      let O = B.outside in
      let F = C.outside in
      let R = U.outside in
      let within : replaced_at l ≤ length mid = omega (arith, L.within, O.long, F.long) in
      let f = lent-before (replaced_at l) (walk_at l) mid work' R (failed_at l) (replaced_at l) (omega arith) (omega arith) within in
      record {
        outside = outside_then l.at (walk_at l) work made work'
            (outside_wider l.at (l.at + 5 * l.room) l.at (walk_at l) work made (omega arith) (omega arith) O)
            (outside_then l.at (walk_at l) made mid work'
            (outside_wider (failed_at l) (replaced_at l) l.at (walk_at l) made mid (omega arith) (omega arith) F)
            (outside_wider (replaced_at l) (walk_at l) l.at (walk_at l) mid work' (omega arith) (omega arith) R));
        maps = holds_on made work' (maps_of l) (λ i a h. R.ahead i (omega arith) ∙ F.ahead i (omega arith)) [] [] [] [] [] (holds_begun work made (maps_of l) B);
        remembers = rw f C.remembers;
        nothing = λ j. recall-before (replaced_at l) (walk_at l) mid work' R (failed_at l) (replaced_at l) (omega arith) (omega arith) within failed j ∙ C.empty j;
        replaced = U.replaced;
      }
