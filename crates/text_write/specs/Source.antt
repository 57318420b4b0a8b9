-- The nodes of terms: those of the pattern store, or those of the pack.
use Rattle.std.specs.Prelude.{◌≡◌, refl, ℕ, zero, suc, ◌+◌, ◌-◌, ◌≤◌, ◌<◌, get_or}
use Rattle.std.proofs.Common.{sym, ◌∙◌, arith}
use Rattle.std.proofs.Math.Path.{ap, subst}
use Rattle.std.proofs.Math.Bool.{true, false}
use mathlib.Core.List.{List, [], ◌∷◌}
use borrow.Author.Tests.{ne_eqb}
use Rattle.std.proofs.Math.ListN.{length}
use Rattle.definition.specs.Test.{is, see, never}
use Rattle.definition.specs.Pack.{Node, Pack, most_arity, no_node, no_such_symbol, node_of, symbol_of}
use Rattle.definition.specs.Good.{Below, Good, Few}
use Rattle.definition.specs.Store.{variable_head, is_variable}
use Rattle.definition.proofs.Laws.Tree.{args-below}
use Rattle.theory.specs.Copies.Terms.{Earlier, below-applied}
use Rattle.theory.specs.Making.Lifts.{ground_few}
use Rattle.base.specs.Part.{part, part_same}
use Rattle.base.specs.Upto.{Upto}
use Rattle.memo.specs.Lent.{lent}
use Rattle.store.specs.Stored.{Stored, nodes}
use Rattle.pack_tables.specs.Catalog.{records_of}
use Rattle.pack_tables.specs.SameTables.{end_of, Same, same-records}
use Rattle.pack_tables.specs.declared.catalog.Catalog.{Catalog}
use Rattle.pack_read.specs.Reads.{Reads, length-sorts, length_symbols, length-nodes}
use Rattle.pack_read.specs.Held.{Proper, Held, OfHeld, held_on, reads_on, reads_back}
use Rattle.text_write.specs.declared.source.Source.{Source}

-- behind a list there is nothing
beyond : {A : Type 0} (l : List A) (i : ℕ) (d : A) → length l ≤ i → get_or l i d ≡ d
beyond [] i d h = refl
beyond (x ∷ l) zero d h = absurd (omega arith)
beyond (x ∷ l) (suc i) d h = beyond l i d (omega arith)

-- so a number that is no symbol's has no name and is no predicate's
module _ (bytes work : List ℕ) (c : Catalog) (P : Pack) (R : Reads bytes (records_of work c) P) where
  pub no_symbol : (h : ℕ) → length (records_of work c 1) ≤ h → symbol_of P h ≡ no_such_symbol
  unfolding symbol_of
  no_symbol h l = beyond P.symbols h no_such_symbol (omega (arith, l, length_symbols bytes (records_of work c) P R))

  pub no_sort : (i : ℕ) → length (records_of work c 0) ≤ i → get_or P.sorts i [] ≡ []
  no_sort i l = beyond P.sorts i [] (omega (arith, l, length-sorts bytes (records_of work c) P R))

-- it holds of whatever pack the tables are
abbrev pub OfRead : List ℕ → List ℕ → Catalog → (Pack → Type 0) → Type 0
OfRead bytes work c F = (P : Pack) → Reads bytes (records_of work c) P → F P

-- the nodes that are meant
unfoldable pub nodes_of : Pack → List ℕ → Source → List Node
nodes_of P words s = elim s.is_ground [ true ↦ P.nodes | false ↦ nodes words s.store ]

-- one of them
abbrev pub node_in : Pack → List ℕ → Source → ℕ → Node
node_in P words s x = get_or (nodes_of P words s) x no_node

-- how many there are
unfoldable pub many_in : List ℕ → List ℕ → Source → ℕ
many_in work words s = elim s.is_ground [ true ↦ length (records_of work s.catalog 3) | false ↦ length (nodes words s.store) ]

-- the pack and the store's index can be read
pub record Sourced (bytes work words : List ℕ) (s : Source) : Type 0 where
  pub held : Held bytes work s.catalog
  pub order : s.index ≤ s.end
  pub fits : s.end ≤ length work
  pub stored : Stored (lent s.index s.end work) words s.store
  pub earlier : Earlier (nodes words s.store)
  pub twos : (q : ℕ) → q < length (nodes words s.store) → is_variable (get_or (nodes words s.store) q no_node) ≡ true → length (get_or (nodes words s.store) q no_node).args ≡ 2
  pub few : (q : ℕ) → q < length (nodes words s.store) → is_variable (get_or (nodes words s.store) q no_node) ≡ false → length (get_or (nodes words s.store) q no_node).args ≤ most_arity

-- it holds of whatever proper pack the tables are
abbrev pub OfSource : List ℕ → List ℕ → Source → (Pack → Type 0) → Type 0
OfSource bytes work s F = OfHeld bytes work s.catalog F

-- ---- what is meant, by cases
module _ (P : Pack) (work words : List ℕ) (s : Source) where
  pub nodes_ground : s.is_ground ≡ true → nodes_of P words s ≡ P.nodes
  unfolding nodes_of
  nodes_ground e = rw (e, nodes_of)

  pub nodes_pattern : s.is_ground ≡ false → nodes_of P words s ≡ nodes words s.store
  unfolding nodes_of
  nodes_pattern e = rw (e, nodes_of)

  pub many_ground : s.is_ground ≡ true → many_in work words s ≡ length (records_of work s.catalog 3)
  unfolding many_in
  many_ground e = rw (e, many_in)

  pub many_pattern : s.is_ground ≡ false → many_in work words s ≡ length (nodes words s.store)
  unfolding many_in
  many_pattern e = rw (e, many_in)

-- one node
pub ground_node : (P : Pack) (words : List ℕ) (s : Source) (x : ℕ) → s.is_ground ≡ true → node_of P x ≡ node_in P words s x
unfolding node_of
ground_node P words s x e = ap (λ (ns : List Node). get_or ns x no_node) (sym (nodes_ground P words words s e))

pub pattern_node : (P : Pack) (words : List ℕ) (s : Source) (x : ℕ) → s.is_ground ≡ false → get_or (nodes words s.store) x no_node ≡ node_in P words s x
pattern_node P words s x e = ap (λ (ns : List Node). get_or ns x no_node) (sym (nodes_pattern P words words s e))

-- there are as many nodes as that
pub many-nodes : (bytes work words : List ℕ) (s : Source) (P : Pack) → Reads bytes (records_of work s.catalog) P → length (nodes_of P words s) ≡ many_in work words s
many-nodes bytes work words s P R = elim (see s.is_ground) [
  | is true e ↦ ap length (nodes_ground P work words s e) ∙ length-nodes bytes (records_of work s.catalog) P R ∙ sym (many_ground P work words s e)
  | is false e ↦ ap length (nodes_pattern P work words s e) ∙ sym (many_pattern P work words s e)
]

-- the pack's nodes rest on earlier ones, and none is a variable
module _ (P : Pack) (G : Good P) (F : Few P) where
  ground_applied : (n : ℕ) → n < length P.nodes → is_variable (get_or P.nodes n no_node) ≡ false
  unfolding is_variable node_of
  ground_applied n h = ne_eqb (get_or P.nodes n no_node).head variable_head (λ e. omega (arith, e, (G.nodes n h).head, F.symbols))

  ground_earlier : Earlier P.nodes
  unfolding node_of
  ground_earlier n h = subst (Below n) (sym (below-applied (get_or P.nodes n no_node) (ground_applied n h))) (args-below P G n h)

module _ (bytes work words : List ℕ) (s : Source) (S : Sourced bytes work words s) (P : Pack) (R : Reads bytes (records_of work s.catalog) P) (Q : Proper P) where
  -- nodes rest on earlier ones
  pub source_earlier : Earlier (nodes_of P words s)
  source_earlier = elim (see s.is_ground) [
    | is true e ↦ subst Earlier (sym (nodes_ground P work words s e)) (ground_earlier P Q.good Q.few)
    | is false e ↦ subst Earlier (sym (nodes_pattern P work words s e)) S.earlier
  ]

  -- an application has few arguments
  pub source_few : (x : ℕ) → x < length (nodes_of P words s) → is_variable (node_in P words s x) ≡ false → length (node_in P words s x).args ≤ most_arity
  unfolding node_of
  source_few x h v = elim (see s.is_ground) [
    | is true e ↦
        let n = nodes_ground P work words s e in
        omega (arith, ap (λ (ns : List Node). length (get_or ns x no_node).args) n, ground_few P Q.good x (omega (arith, h, ap length n)))
    | is false e ↦
        let n = nodes_pattern P work words s e in
        omega (arith, ap (λ (ns : List Node). length (get_or ns x no_node).args) n, S.few x (omega (arith, h, ap length n)) (sym (ap (λ (ns : List Node). is_variable (get_or ns x no_node)) n) ∙ v))
  ]

  -- a variable has a number
  pub source_number : (x : ℕ) → x < many_in work words s → is_variable (node_in P words s x) ≡ true → 0 < length (node_in P words s x).args
  source_number x h v = elim (see s.is_ground) [
    | is true e ↦
        let n = nodes_ground P work words s e in
        let l : x < length P.nodes = omega (arith, h, many_ground P work words s e, length-nodes bytes (records_of work s.catalog) P R) in
        never (let a : true ≡ false = sym v ∙ ap (λ (ns : List Node). is_variable (get_or ns x no_node)) n ∙ ground_applied P Q.good Q.few x l in cc)
    | is false e ↦
        let n = nodes_pattern P work words s e in
        let a = S.twos x (omega (arith, h, many_pattern P work words s e)) (sym (ap (λ (ns : List Node). is_variable (get_or ns x no_node)) n) ∙ v) in
        omega (arith, a, ap (λ (ns : List Node). length (get_or ns x no_node).args) n)
  ]

-- a part of words that are as they were
pub lent_upto : (e : ℕ) (work work' : List ℕ) → Upto e work work' → (b f : ℕ) → b ≤ f → f ≤ e → f ≤ length work → lent b f work' ≡ lent b f work
unfolding part
lent_upto e work work' U b f h k m = part_same b (f - b) work' work (omega (arith, U.long)) (omega arith) (λ i l. U.words (b + i) (omega arith))

-- words written behind the index and the tables leave both
module _ (bytes work work' words : List ℕ) (s : Source) (e : ℕ) (U : Upto e work work') (tables : end_of s.catalog ≤ e) (index : s.end ≤ e) where
  same : Same work work' s.catalog
  same = record { long = U.long; words = λ i h. U.words i (omega arith) }

  pub source_on : Sourced bytes work words s → Sourced bytes work' words s
  source_on S = record {
    held = held_on bytes work work' s.catalog same S.held;
    order = S.order;
    fits = omega (arith, S.fits, U.long);
    stored = subst (λ (zs : List ℕ). Stored zs words s.store) (sym (lent_upto e work work' U s.index s.end S.order index S.fits)) S.stored;
    earlier = S.earlier;
    twos = S.twos;
    few = S.few;
  }

  pub source_reads : Sourced bytes work words s → (P : Pack) → Reads bytes (records_of work s.catalog) P → Reads bytes (records_of work' s.catalog) P
  source_reads S P R = reads_on bytes work work' s.catalog same S.held.cataloged P R

  pub source_back : Sourced bytes work words s → (P : Pack) → Reads bytes (records_of work' s.catalog) P → Reads bytes (records_of work s.catalog) P
  source_back S P R = reads_back bytes work work' s.catalog same S.held.cataloged P R

  pub source_many : Sourced bytes work words s → many_in work' words s ≡ many_in work words s
  unfolding many_in
  source_many S = ap (λ (n : ℕ). elim s.is_ground [ true ↦ n | false ↦ length (nodes words s.store) ]) (ap length (same-records work work' s.catalog same S.held.cataloged.fits 3 (omega arith)))
