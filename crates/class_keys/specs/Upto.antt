-- Where the words up to a place are as they were, the tables and the marks of cut predicates that stand there are too.
use Rattle.std.specs.Prelude.{◌≡◌, List, ℕ, ◌+◌, ◌≤◌, ◌<◌, length}
use Rattle.std.proofs.Common.{◌∙◌, arith}
use Rattle.base.specs.Upto.{Upto}
use Rattle.pack_tables.specs.Catalog.{records_of, Fits}
use Rattle.pack_tables.specs.SameTables.{end_of, Same, same-records}
use Rattle.pack_tables.specs.declared.catalog.Catalog.{Catalog}
use Rattle.pack_reader.specs.Marks.{marks_at, mark_of, predicate_at, Marks}

module _ (e : ℕ) (work work' : List ℕ) (c : Catalog) (U : Upto e work work') where
  -- the tables are as they were
  pub upto_same : end_of c ≤ e → Same work work' c
  upto_same h = record { long = U.long; words = λ i l. U.words i (omega arith) }

  -- and the marks
  pub upto_marks : (bytes : List ℕ) → marks_at c + c.cap ≤ e → Fits work c → Marks bytes work c → Marks bytes work' c
  upto_marks bytes h F M =
      let r : records_of work' c 7 ≡ records_of work c 7 = same-records work work' c (upto_same (omega arith)) F 7 (omega arith) in
      let m : (p : ℕ) → p < c.cap → mark_of work' c p ≡ mark_of work c p = λ p l. U.words (marks_at c + p) (omega arith) in
      record {
        room = omega (arith, M.room, U.long);
        found = λ p l k. rw (r, m p l) (M.found p l (rw (m p l) at k));
        marked = λ j l. marked-at j (rw r at l) r m;
      }
    where
      -- each cut has its mark
      marked-at : (j : ℕ) → j < length (records_of work c 7) → records_of work' c 7 ≡ records_of work c 7 → ((p : ℕ) → p < c.cap → mark_of work' c p ≡ mark_of work c p)
          → (predicate_at bytes (records_of work' c 7) j < c.cap) × (mark_of work' c (predicate_at bytes (records_of work' c 7) j) ≡ j + 1)
      marked-at j l r m = let a = M.marked j l in rw r (a.0, m (predicate_at bytes (records_of work c 7) j) a.0 ∙ a.1)
