-- Arguments side by side are put on the worklist, the first ones on top.
use Rattle.std.specs.Prelude.{◌≡◌, refl, List, ◌∷◌, ℕ, suc, ◌+◌, ◌*◌, ◌-◌, ◌≤◌, ◌<◌, length, get_or, set, take}
use Rattle.std.proofs.Common.{sym, ap, ap₂, subst, ◌∙◌, arith}
use Rattle.std.proofs.Math.Option.{some}
use Rattle.definition.specs.Pack.{Pack, no_node, node_of}
use Rattle.definition.specs.Graph.{Pair}
use Rattle.base.specs.Outside.{Outside, outside_none, outside_then, outside_set}
use Rattle.pack_tables.specs.Catalog.{records_of}
use Rattle.pack_tables.specs.SameTables.{end_of, same-records}
use Rattle.pack_tables.specs.Place.{Place}
use Rattle.pack_tables.specs.declared.catalog.Catalog.{Catalog}
use Rattle.pack_read.specs.Reads.{Reads}
use Rattle.pack_read.specs.Says.{Readable, OfPack}
use Rattle.pack_read.specs.Held.{Held, held_on, reads_on}
use Rattle.theory.specs.Walks.Ahead.{beside, ahead, ahead-turn, ahead-all, ahead_none}
use Rattle.store.specs.Stored.{Stored, nodes}
use Rattle.store.specs.declared.nodes.Store.{Store}
use Rattle.memo.specs.Lent.{lent, lent-before}
use Rattle.term_instance.specs.declared.tables.Instance.{Instance}
use Rattle.base.specs.Pairs.{pairs_in, pairs_more}
use Rattle.term_instance.specs.Held.{outside_same}

-- the arguments of a pattern
abbrev pub args_of : List ℕ → Store → ℕ → List ℕ
args_of words st p = (get_or (nodes words st) p no_node).args

-- ---- `push_arguments`: what it asks, and promises
pub record Pushable (bytes work words : List ℕ) (c : Catalog) (l : Instance) (st : Store) (top p n k : ℕ) : Type 0 where
  pub held : Held bytes work c
  pub apart : end_of c ≤ l.pairs
  pub index : l.index ≤ l.pairs
  pub stored : Stored (lent l.index l.pairs work) words st
  pub pattern : p < length (nodes words st)
  pub closed : n < length (records_of work c 3)
  pub arity : k ≡ length (args_of words st p)
  pub many : OfPack bytes work c (λ P. length (node_of P n).args) k
  pub room : l.pairs + 2 * (top + k) ≤ l.seen
  pub fits : l.seen ≤ length work

-- the arguments of p and n stand ahead of the pairs
abbrev pub Pushes : (bytes work work' words : List ℕ) (c : Catalog) (l : Instance) (st : Store) (top p n m : ℕ) → Type 0
Pushes bytes work work' words c l st top p n m =
    Outside l.pairs l.seen work work'
    × ((P : Pack) → Reads bytes (records_of work c) P → ahead (args_of words st p) (node_of P n).args (pairs_in l.pairs work top) ≡ some (pairs_in l.pairs work' m))

-- with i arguments still to be put there, what is left gives the whole
pub record Pushing (bytes before work words : List ℕ) (c : Catalog) (l : Instance) (st : Store) (top p n k on i : ℕ) : Type 0 where
  pub low : i ≤ k
  pub count : on + i ≡ top + k
  pub outside : Outside l.pairs l.seen before work
  pub rest : (P : Pack) → Reads bytes (records_of before c) P
      → ahead (take i (args_of words st p)) (take i (node_of P n).args) (pairs_in l.pairs work on) ≡ ahead (args_of words st p) (node_of P n).args (pairs_in l.pairs before top)

module _ (bytes before words : List ℕ) (c : Catalog) (l : Instance) (st : Store) (top p n k : ℕ) (Q : Pushable bytes before words c l st top p n k) where
  -- none was put there
  pub pushing_none : Pushing bytes before before words c l st top p n k top k
  pushing_none = record {
    low = omega arith;
    count = refl;
    outside = outside_none l.pairs l.seen before;
    rest = λ P R. ahead-all (args_of words st p) (node_of P n).args k (pairs_in l.pairs before top) (sym Q.arity) (sym (Q.many P R));
  }

  module _ (work : List ℕ) (on i : ℕ) (K : Pushing bytes before work words c l st top p n k on i) where
    -- the index is as it was
    pub pushing_stored : Stored (lent l.index l.pairs work) words st
    pushing_stored = subst (λ (zs : List ℕ). Stored zs words st) (sym (lent-before l.pairs l.seen before work K.outside l.index l.pairs Q.index (omega arith) (omega (arith, Q.room, Q.fits)))) Q.stored

    -- the pack is held still
    abbrev pub pushing_held : Held bytes work c
    pushing_held = held_on bytes before work c (outside_same before work c l.pairs l.seen Q.apart K.outside) Q.held

    -- the same pack is read
    pub pushing_reads : (P : Pack) → Reads bytes (records_of before c) P → Reads bytes (records_of work c) P
    pushing_reads P R = reads_on bytes before work c (outside_same before work c l.pairs l.seen Q.apart K.outside) Q.held.cataloged P R

    -- as it is read
    abbrev pub pushing_readable : Readable bytes work c
    pushing_readable = record { cataloged = pushing_held.cataloged; pack = Q.held.pack; reads = pushing_reads Q.held.pack Q.held.reads }

    -- n is a ground node still
    pub pushing_ground : n < length (records_of work c 3)
    pushing_ground = omega (arith, Q.closed, ap (λ (ps : List Place). length ps) (same-records before work c (outside_same before work c l.pairs l.seen Q.apart K.outside) Q.held.cataloged.fits 3 (omega arith)))

    module _ (more : 0 < i) where
      -- the last argument that is left
      pub pushing_argument : i - 1 < length (args_of words st p)
      pushing_argument = omega (arith, Q.arity, K.low)

      -- of the ground node
      pub pushing_beside : i - 1 < length (node_of Q.held.pack n).args
      pushing_beside = omega (arith, Q.many Q.held.pack Q.held.reads, K.low)

      -- it has room
      pub pushing_room : l.pairs + 2 * on + 1 < length work
      pushing_room = omega (arith, K.count, Q.room, Q.fits, K.outside.long)

      -- it is put there
      pub pushing_more : (x m : ℕ) → x ≡ get_or (args_of words st p) (i - 1) 0 → OfPack bytes work c (λ P. get_or (node_of P n).args (i - 1) 0) m → (work' : List ℕ)
          → work' ≡ set (set work (l.pairs + 2 * on) x) (l.pairs + 2 * on + 1) m → Pushing bytes before work' words c l st top p n k (on + 1) (i - 1)
      pushing_more x m A B work' W =
          let at : ℕ = l.pairs + 2 * on in
          let first : List ℕ = set work at x in
          let written : Outside l.pairs l.seen work (set first (at + 1) m) =
          outside_then l.pairs l.seen work first (set first (at + 1) m)
          (outside_set l.pairs l.seen work at x (omega arith) (omega (arith, K.count, Q.room)))
          (outside_set l.pairs l.seen first (at + 1) m (omega arith) (omega (arith, K.count, Q.room))) in
          record {
            low = omega (arith, K.low);
            count = omega (arith, K.count);
            outside = outside_then l.pairs l.seen before work work' K.outside (rw W written);
            rest = λ P R.
                let xs : List ℕ = args_of words st p in
                let ns : List ℕ = (node_of P n).args in
                let w : List Pair = pairs_in l.pairs work on in
                let e : on + 1 ≡ suc on = omega arith in
                let f : suc (i - 1) ≡ i = omega arith in
                ap (λ (u : List ℕ). ahead (take (i - 1) xs) (take (i - 1) ns) (pairs_in l.pairs u (on + 1))) W
                ∙ ap (λ (v : List Pair). ahead (take (i - 1) xs) (take (i - 1) ns) v)
                (ap (pairs_in l.pairs (set first (at + 1) m)) e ∙ pairs_more l.pairs work on x m pushing_room ∙ ap₂ (λ (a b : ℕ). beside a b ∷ w) A (B P (pushing_reads P R)))
                ∙ ahead-turn xs ns (i - 1) w pushing_argument (omega (arith, Q.many P R, K.low))
                ∙ ap (λ (j : ℕ). ahead (take j xs) (take j ns) w) f
                ∙ K.rest P R;
          }

    -- all were put there
    pub pushing_all : i ≤ 0 → Pushes bytes before work words c l st top p n on
    pushing_all z = (
      K.outside,
      λ P R.
          let e : 0 ≡ i = omega arith in
          sym (K.rest P R) ∙ ap (λ (j : ℕ). ahead (take j (args_of words st p)) (take j (node_of P n).args) (pairs_in l.pairs work on)) (sym e) ∙ ahead_none (args_of words st p) (node_of P n).args (pairs_in l.pairs work on),
    )
