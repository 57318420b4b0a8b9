-- A rule being matched: its next word, the patterns still to be matched, the values so far.
use Rattle.std.specs.Prelude.{◌≡◌, Bool, true, false, List, ℕ, suc, ◌+◌, ◌≤◌, ◌<◌, length, get_or, drop}
use Rattle.std.proofs.Math.Option.{Option, none, some}
use Rattle.definition.specs.Pack.{Node, no_node, Pack, rule_of}
use Rattle.definition.specs.Verdict.{Bound}
use Rattle.definition.specs.Good.{Below}
use Rattle.emission.specs.Patterns.{over}
use Rattle.base.specs.Stack.{stacked}
use Rattle.base.specs.declared.stack.Stack.{Stack}
use Rattle.pack_tables.specs.Catalog.{records_of}
use Rattle.pack_read.specs.Reads.{Reads, rule_words}
use Rattle.pack_read.specs.Held.{Proper}
use Rattle.store.specs.Words.{key_of}
use Rattle.store.specs.Stored.{Stored, nodes}
use Rattle.memo.specs.Lent.{lent}
use Rattle.check_steps.specs.Words.{match_words}
use Rattle.check_steps.specs.Pending.{Pending}
use Rattle.emit_theory.specs.Stores.{SortedStore}
use Rattle.emit_maps.specs.Map.{Mapped}
use Rattle.emit_match.specs.Places.{Stays, Given}
use Rattle.emit_match.specs.Pushed.{ArgumentsOn}
use Rattle.emit_match.specs.declared.places.Matching.{Matching}
use Rattle.check_steps.specs.declared.matching.Turn.{Turn}
use Rattle.check_steps.specs.declared.matching.Turn.TheVariants.{Next, Done, Fails}

-- rule r is matched up to word i
pub record Partly (P : Pack) (s : List Node) (m : Matching) (r : ℕ) (work : List ℕ) (t : Stack) (i : ℕ) (bs : List Bound) : Type 0 where
  pub base : t.at ≡ m.stack
  pub pending : Pending P (rule_of P r).vars (drop i (rule_words (rule_of P r))) t.len
  pub below : Below (length s) (stacked m.stack t.len work)
  pub values : Mapped work m.values 64 bs

-- what matching the rest comes to
abbrev pub rest : Pack → List Node → Matching → ℕ → List ℕ → Stack → ℕ → List Bound → Option (List Bound)
rest P s m r work t i bs = match_words (over P s) (drop i (rule_words (rule_of P r))) (stacked m.stack t.len work) bs

-- it holds of whatever proper pack the tables are that the store is well sorted for, and that has rule r
abbrev pub OfSorted : List ℕ → List ℕ → List ℕ → Matching → ℕ → (Pack → Type 0) → Type 0
OfSorted bytes work words m r F = (P : Pack) → Reads bytes (records_of work m.catalog) P → Proper P → SortedStore P (nodes words m.store) → r < length P.rules → F P

-- ---- a symbol against a pattern
-- the pattern that is meant
abbrev pub pattern_at : List ℕ → Matching → ℕ → Node
pattern_at words m p = get_or (nodes words m.store) p no_node

pub record SymbolAsked (work words : List ℕ) (m : Matching) (h p : ℕ) (t : Stack) : Type 0 where
  pub order : m.index ≤ m.end
  pub fits : m.end ≤ length work
  pub stored : Stored (lent m.index m.end work) words m.store
  pub pattern : p < length (nodes words m.store)
  pub room : (pattern_at words m p).head ≡ h → t.at + t.len + length (pattern_at words m p).args ≤ length work

-- it is on top of the pattern, whose arguments wait; or it isn't
abbrev pub SymbolTold : List ℕ → List ℕ → Node → ℕ → Stack → Turn → Type 0
SymbolTold work work' n h t (Next t') = (n.head ≡ h) × ArgumentsOn work work' (key_of n) t t'
SymbolTold work work' n h t Done = ⊥
SymbolTold work work' n h t Fails = (n.head ≡ h → ⊥) × (work' ≡ work)

-- ---- a turn
-- what it asks: some pack and some values
abbrev pub Asked : List ℕ → List ℕ → List ℕ → Matching → ℕ → ℕ → Stack → ℕ → Type 0
Asked bytes work words m r vars t i = (G : Given bytes work words m) × (bs : List Bound) × (r < length G.held.pack.rules) × (vars ≡ length (rule_of G.held.pack r).vars) × Partly G.held.pack (nodes words m.store) m r work t i bs

-- what it comes to: the next state, with as much to come as before; or the end, or that something differs
abbrev pub Goes : Pack → List Node → Matching → ℕ → List ℕ → List ℕ → Stack → ℕ → List Bound → Turn → Type 0
Goes P s m r work work' t i bs (Next t') = (cs : List Bound) × Partly P s m r work' t' (suc i) cs × (rest P s m r work t i bs ≡ rest P s m r work' t' (suc i) cs) × (i < 256)
Goes P s m r work work' t i bs Done = (rest P s m r work t i bs ≡ some bs) × Mapped work' m.values 64 bs
Goes P s m r work work' t i bs Fails = rest P s m r work t i bs ≡ none

abbrev pub Turned : List ℕ → List ℕ → List ℕ → List ℕ → Matching → ℕ → Stack → ℕ → Turn → Type 0
Turned bytes work work' words m r t i u = OfSorted bytes work words m r (λ P. (bs : List Bound) → Partly P (nodes words m.store) m r work t i bs → Goes P (nodes words m.store) m r work work' t i bs u)

-- ---- all turns
-- between two turns: with values so far, as much is to come as at first
abbrev pub Going : List ℕ → List ℕ → List ℕ → List ℕ → Matching → ℕ → Stack → ℕ → Stack → ℕ → Type 0
Going bytes work work' words m r t i t' i' =
    Stays m work work'
    × OfSorted bytes work words m r (λ P. (bs : List Bound) → Partly P (nodes words m.store) m r work t i bs
    → (cs : List Bound) × Partly P (nodes words m.store) m r work' t' i' cs × (rest P (nodes words m.store) m r work' t' i' cs ≡ rest P (nodes words m.store) m r work t i bs))

-- the values that are left, or that there are none
abbrev pub Ends : Option (List Bound) → List ℕ → Matching → Bool → Type 0
Ends o work' m true = (bs : List Bound) × (o ≡ some bs) × Mapped work' m.values 64 bs
Ends o work' m false = o ≡ none

abbrev pub Matched : List ℕ → List ℕ → List ℕ → List ℕ → Matching → ℕ → Stack → ℕ → Bool → Type 0
Matched bytes work work' words m r t i b = OfSorted bytes work words m r (λ P. (bs : List Bound) → Partly P (nodes words m.store) m r work t i bs → Ends (rest P (nodes words m.store) m r work t i bs) work' m b)
