-- The store as it begins, in its part of work.
use Rattle.std.specs.Prelude.{◌≡◌, List, [], ℕ, ◌+◌, ◌*◌, ◌-◌, ◌/◌, ◌≤◌, ◌<◌, length}
use Rattle.std.proofs.Common.{sym, ap, ◌∙◌, subst, arith}
use Rattle.base.specs.Part.{put, length_part, part-put}
use Rattle.base.specs.Outside.{Outside, outside_put}
use Rattle.store.specs.Stored.{Stored, nodes, Enough}
use Rattle.store.specs.declared.nodes.Store.{Store}
use Rattle.pack_tables.specs.Catalog.{records_of}
use Rattle.pack_tables.specs.SameTables.{Same, same-records, end_of as tablesEnd}
use Rattle.pack_tables.specs.declared.catalog.Catalog.{Catalog}
use Rattle.pack_read.specs.Held.{Held, held_on}
use Rattle.term_lift.specs.Lifts.{Lifts, Clears}
use Rattle.class_premises.specs.Layout.{index_in}
use Rattle.class_premises.specs.declared.layout.Layout.{Layout}
use Rattle.class_premises.specs.Standing.{lifted_of}
use Rattle.definition.specs.Store.{nothing}

-- ---- the store
-- there is an index for the words, behind lifting's
pub record Indexable (work words : List ℕ) (l : Layout) : Type 0 where
  pub small : length words < nothing
  pub index : l.lifted + 3 * l.nodes + (4 * (length words / 2) + 1) ≤ l.copied
  pub inside : l.copied ≤ length work

-- what `begin_store` answers: a store without nodes, and nothing is lifted
pub record StoreBegun (work work' words : List ℕ) (l : Layout) (st : Store) : Type 0 where
  pub frame : Outside l.lifted l.copied work work'
  pub none : nodes words st ≡ []
  pub lifts : (bytes : List ℕ) (c : Catalog) → Held bytes work c → tablesEnd c ≤ l.lifted → l.nodes ≡ length (records_of work c 3) → Lifts bytes work' words c (lifted_of l) st

module _ (work words : List ℕ) (l : Layout) (X : Indexable work words l) where
  abbrev at : ℕ
  at = l.lifted + 3 * l.nodes

  abbrev many : ℕ
  many = l.copied - at

  fit : at + many ≤ length work
  fit = omega (arith, X.index, X.inside)

  -- the index is long enough
  pub index_enough : Enough (index_in work l) words
  index_enough = record { small = X.small; wide = omega (arith, length_part at many work fit, X.index) }

  -- the index came back with a store, then lifting's words were cleared
  pub store_begun : (idx work' : List ℕ) (st : Store) → length idx ≡ length (index_in work l) → Stored idx words st → nodes words st ≡ [] → Clears (put at many idx work) work' (lifted_of l) → StoreBegun work work' words l st
  store_begun idx work' st e S n C =
      let long : length idx ≡ many = e ∙ length_part at many work fit in
      let back : Outside at (at + many) work (put at many idx work) = outside_put at many work idx fit long in
      record {
        frame = record {
          long = C.frame.long ∙ back.long;
          ahead = λ i h. C.frame.ahead i h ∙ back.ahead i (omega arith);
          behind = λ i h. C.frame.behind i (omega (arith, X.index)) ∙ back.behind i (omega (arith, X.index));
        };
        none = n;
        lifts = λ bytes c H b m.
            let s : Same work (put at many idx work) c = record { long = back.long; words = λ i h. back.ahead i (omega arith) } in
            C.lifts bytes words c st (record {
              held = held_on bytes work (put at many idx work) c s H;
              behind = b;
              many = m ∙ ap length (sym (same-records work (put at many idx work) c s H.cataloged.fits 3 (omega arith)));
              fits = omega (arith, X.index);
              inside = omega (arith, X.inside, back.long);
              index = subst (λ (xs : List ℕ). Stored xs words st) (sym (part-put at many work fit idx long)) S;
            });
      }
