-- What work holds while a rule is matched: the pack, the store's index, and behind them the values and the stack.
use Rattle.std.specs.Prelude.{◌≡◌, refl, List, ℕ, ◌+◌, ◌≤◌, ◌<◌, length, get_or}
use Rattle.std.proofs.Common.{sym, subst, ◌∙◌, arith}
use Rattle.definition.specs.Pack.{Pack}
use Rattle.definition.specs.Store.{nothing}
use Rattle.base.specs.Outside.{Outside}
use Rattle.pack_tables.specs.Catalog.{records_of}
use Rattle.pack_tables.specs.SameTables.{end_of, Same}
use Rattle.pack_read.specs.Reads.{Reads}
use Rattle.pack_read.specs.Held.{Held, held_on, reads_on}
use Rattle.store.specs.Stored.{Stored, nodes}
use Rattle.memo.specs.Lent.{lent, lent-before}
use Rattle.emit_theory.specs.Stores.{SortedStore}
use Rattle.emit_match.specs.declared.places.Matching.{Matching}

-- the values stand in work, 64 words, and behind them the stack, 256
pub record Laid (work : List ℕ) (m : Matching) : Type 0 where
  pub apart : m.values + 64 ≤ m.stack
  pub room : m.stack + 256 ≤ length work

-- all else is as it was: what stands ahead of the values, between them and the stack, and behind that
pub record Stays (m : Matching) (work work' : List ℕ) : Type 0 where
  pub long : length work' ≡ length work
  pub ahead : (i : ℕ) → i < m.values → get_or work' i 0 ≡ get_or work i 0
  pub between : (i : ℕ) → m.values + 64 ≤ i → i < m.stack → get_or work' i 0 ≡ get_or work i 0
  pub behind : (i : ℕ) → m.stack + 256 ≤ i → get_or work' i 0 ≡ get_or work i 0

-- nothing was written
pub stays_none : (m : Matching) (work : List ℕ) → Stays m work work
stays_none m work = record { long = refl; ahead = λ i h. refl; between = λ i h k. refl; behind = λ i h. refl }

-- one call after the other
pub stays_then : (m : Matching) (work work' work'' : List ℕ) → Stays m work work' → Stays m work' work'' → Stays m work work''
stays_then m work work' work'' A B = record {
  long = B.long ∙ A.long;
  ahead = λ i h. B.ahead i h ∙ A.ahead i h;
  between = λ i h k. B.between i h k ∙ A.between i h k;
  behind = λ i h. B.behind i h ∙ A.behind i h;
}

module _ (m : Matching) (work work' : List ℕ) where
  -- values were written
  pub stays_values : Laid work m → Outside m.values (m.values + 64) work work' → Stays m work work'
  stays_values L O = record {
    long = O.long;
    ahead = O.ahead;
    between = λ i h k. O.behind i h;
    behind = λ i h. O.behind i (omega (arith, L.apart));
  }

  -- words of the stack were
  pub stays_stack : Laid work m → (a e : ℕ) → m.stack ≤ a → e ≤ m.stack + 256 → Outside a e work work' → Stays m work work'
  stays_stack L a e low high O = record {
    long = O.long;
    ahead = λ i h. O.ahead i (omega (arith, L.apart));
    between = λ i h k. O.ahead i (omega arith);
    behind = λ i h. O.behind i (omega arith);
  }

  -- nothing but what stands from the values up to the stack's end has changed
  pub stays_outside : Stays m work work' → Outside m.values (m.stack + 256) work work'
  stays_outside A = record { long = A.long; ahead = A.ahead; behind = A.behind }

-- a proper pack and a store that is well sorted for it can be read, ahead of the values
pub record Given (bytes work words : List ℕ) (m : Matching) : Type 0 where
  pub held : Held bytes work m.catalog
  pub sorted : SortedStore held.pack (nodes words m.store)
  pub order : m.index ≤ m.end
  pub stored : Stored (lent m.index m.end work) words m.store
  pub tables : end_of m.catalog ≤ m.values
  pub behind : m.end ≤ m.values
  pub laid : Laid work m

module _ (bytes work words : List ℕ) (m : Matching) (G : Given bytes work words m) where
  -- a pattern and one is a word
  pub given_few : length (nodes words m.store) < nothing
  given_few = omega (arith, G.stored.ranged.half, G.stored.ranged.most, G.stored.placed.enough.small)

  module _ (work' : List ℕ) (O : Stays m work work') where
    pub given-same : Same work work' m.catalog
    given-same = record { long = O.long; words = λ i l. O.ahead i (omega (arith, G.tables)) }

    -- the same pack is read
    pub given_reads : (P : Pack) → Reads bytes (records_of work m.catalog) P → Reads bytes (records_of work' m.catalog) P
    given_reads P R = reads_on bytes work work' m.catalog given-same G.held.cataloged P R

    -- all of it stays
    abbrev pub given_on : Given bytes work' words m
    given_on = record {
      held = held_on bytes work work' m.catalog given-same G.held;
      sorted = G.sorted;
      order = G.order;
      stored = subst (λ (zs : List ℕ). Stored zs words m.store) (sym (lent-before m.values (m.stack + 256) work work' (stays_outside m work work' O) m.index m.end G.order G.behind (omega (arith, G.behind, G.laid.apart, G.laid.room)))) G.stored;
      tables = G.tables;
      behind = G.behind;
      laid = record { apart = G.laid.apart; room = omega (arith, G.laid.room, O.long) };
    }
