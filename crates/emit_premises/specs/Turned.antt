-- A step of building: what it asks, and what it comes to.
use Rattle.std.specs.Prelude.{Option as Optional, Some, None}
use Rattle.std.specs.Prelude.{◌≡◌, List, ℕ, ◌+◌, ◌≤◌, ◌<◌, length, get_or, set}
use Rattle.std.proofs.Math.Option.{none, some}
use Rattle.definition.specs.Pack.{Pack, rule_of}
use Rattle.definition.specs.Verdict.{Bound}
use Rattle.definition.specs.Store.{Stored as Placing, intern, pattern_words}
use Rattle.base.specs.Outside.{Outside}
use Rattle.base.specs.Part.{part}
use Rattle.pack_tables.specs.Catalog.{records_of}
use Rattle.pack_tables.specs.SameTables.{end_of}
use Rattle.pack_tables.specs.declared.catalog.Catalog.{Catalog}
use Rattle.pack_read.specs.Reads.{Reads}
use Rattle.pack_read.specs.Held.{Proper, Held}
use Rattle.store.specs.Words.{node_with}
use Rattle.store.specs.Stored.{Stored, nodes}
use Rattle.store.specs.declared.nodes.Store.{Store}
use Rattle.memo.specs.Lent.{lent}
use Rattle.emit_maps.specs.Map.{Mapped}
use Rattle.emit_match.specs.declared.places.Matching.{Matching}
use Rattle.emit_premises.specs.Open.{Opened, built_all, whole}
use Rattle.emit_premises.specs.Frames.{given, stack_words}
use Rattle.emit_premises.specs.Amid.{Amid, to_come}
use Rattle.emit_premises.specs.declared.building.Building.{Building}
use Rattle.emit_premises.specs.declared.turn.Turn.{Turn}
use Rattle.emit_premises.specs.declared.turn.Turn.TheVariants.{Next, Full, Lacks}

-- ---- a variable's value: given, or there is none
abbrev pub Valued : List ℕ → List ℕ → List ℕ → ℕ → Building → ℕ → Optional Turn → Type 0
Valued work stack stack' at b k (Some (Next b')) = (p : ℕ) × (get_or work (at + k) 0 ≡ p + 1) × (stack' ≡ set stack b.top p) × (b' ≡ given b)
Valued work stack stack' at b k (Some Full) = ⊥
Valued work stack stack' at b k (Some Lacks) = get_or work (at + k) 0 ≡ 0
Valued work stack stack' at b k None = ⊥

-- ---- the rule's next word
abbrev pub ReadAsked : List ℕ → List ℕ → List ℕ → Catalog → ℕ → ℕ → ℕ → Building → Type 0
ReadAsked bytes work stack c at r vars b =
    (H : Held bytes work c) × (f : Opened) × (fs : List Opened) × (r < length H.pack.rules) × (vars ≡ length (rule_of H.pack r).vars) × Amid H.pack r stack b f fs
    × (length stack ≡ stack_words) × (at + 64 ≤ length work) × (get_or stack (b.base + 1) 0 ≡ b.top → ⊥)

-- what a step comes to: the next state, with as much to come as before; or the end, or that a variable has no value, or that there is no
-- room for the patterns
abbrev pub Goes : Pack → ℕ → List Bound → List ℕ → List ℕ → List ℕ → List ℕ → Building → Opened → List Opened → Optional Turn → Type 0
Goes P r bs words words' stack stack' b f fs (Some (Next b')) =
    (g : Opened) × (gs : List Opened) × Amid P r stack' b' g gs × (whole f fs bs (nodes words b.store) ≡ whole g gs bs (nodes words' b'.store)) × (to_come b' < to_come b)
Goes P r bs words words' stack stack' b f fs (Some Full) =
    (ps : List ℕ) × (whole f fs bs (nodes words b.store) ≡ built_all (some ps) (nodes words' b.store)) × (part 3 (length ps) stack' ≡ ps) × (3 + length ps ≤ length stack')
Goes P r bs words words' stack stack' b f fs (Some Lacks) = whole f fs bs (nodes words b.store) ≡ built_all none (nodes words' b.store)
Goes P r bs words words' stack stack' b f fs None = length words < length (pattern_words (whole f fs bs (nodes words b.store)).store)

-- it holds of whatever pack the tables are that has rule r, of whatever values there are, and whatever symbols are open
abbrev pub OfBuilding : List ℕ → List ℕ → List ℕ → Catalog → ℕ → ℕ → Building → (Pack → List Bound → Opened → List Opened → Type 0) → Type 0
OfBuilding bytes work stack c at r b F = (P : Pack) → Reads bytes (records_of work c) P → Proper P → r < length P.rules → (bs : List Bound) → Mapped work at 64 bs → (f : Opened) (fs : List Opened) → Amid P r stack b f fs → F P bs f fs

-- the patterns are no others
abbrev pub Keeps : Building → Optional Turn → Type 0
Keeps b (Some (Next b')) = b'.store ≡ b.store
Keeps b (Some Full) = ⊥
Keeps b (Some Lacks) = Unit {0}
Keeps b None = ⊥

-- whatever their words
pub record WordRead (bytes work stack stack' : List ℕ) (c : Catalog) (at r : ℕ) (b : Building) (t : Optional Turn) : Type 0 where
  pub goes : (words : List ℕ) → OfBuilding bytes work stack c at r b (λ P bs f fs. Goes P r bs words words stack stack' b f fs t)
  pub keeps : Keeps b t

-- ---- the innermost open symbol
pub record CloseAsked (work words stack : List ℕ) (m : Matching) (b : Building) : Type 0 where
  pub order : m.index ≤ m.end
  pub fits : m.end ≤ length work
  pub stored : Stored (lent m.index m.end work) words b.store
  pub ends : b.base + 3 ≤ b.top
  pub room : b.top ≤ length stack

-- its number, and the patterns with it
abbrev pub made_of : List ℕ → List ℕ → Building → Placing
made_of words stack b = intern (nodes words b.store) (node_with (lent (b.base + 2) b.top stack))

-- the patterns that a step leaves are in the store
abbrev pub StoredBy : List ℕ → List ℕ → Building → Optional Turn → Type 0
StoredBy index words b (Some (Next b')) = Stored index words b'.store
StoredBy index words b (Some Full) = Stored index words b.store
StoredBy index words b (Some Lacks) = Stored index words b.store
StoredBy index words b None = Unit {0}

-- and only the store's index is written in work
abbrev pub Leaves : List ℕ → List ℕ → List ℕ → Matching → Building → Optional Turn → Type 0
Leaves work work' words' m b t = Outside m.index m.end work work' × StoredBy (lent m.index m.end work') words' b t

-- it is given to the one around it; or there is no room for it
abbrev pub GivenOn : List ℕ → List ℕ → List ℕ → List ℕ → Building → Optional Turn → Type 0
GivenOn words words' stack stack' b (Some (Next b')) =
    (b' ≡ record { store = b'.store; base = get_or stack b.base 0; top = b.base + 1; next = b.next }) × (stack' ≡ set stack b.base (made_of words stack b).number) × (nodes words' b'.store ≡ (made_of words stack b).store)
GivenOn words words' stack stack' b (Some Full) = ⊥
GivenOn words words' stack stack' b (Some Lacks) = ⊥
GivenOn words words' stack stack' b None = length words < length (pattern_words (made_of words stack b).store)

-- what closing it comes to
abbrev pub Closed : List ℕ → List ℕ → List ℕ → List ℕ → List ℕ → List ℕ → Matching → Building → Optional Turn → Type 0
Closed work work' words words' stack stack' m b t = GivenOn words words' stack stack' b t × Leaves work work' words' m b t

-- ---- a step
-- the pack and the store's index, and behind them the values
pub record Site (bytes work words : List ℕ) (m : Matching) (st : Store) : Type 0 where
  pub held : Held bytes work m.catalog
  pub stored : Stored (lent m.index m.end work) words st
  pub tables : end_of m.catalog ≤ m.index
  pub order : m.index ≤ m.end
  pub behind : m.end ≤ m.values
  pub room : m.values + 64 ≤ length work

-- what a step asks: some pack, some values, and the open symbols
pub record Asked (bytes work words stack : List ℕ) (m : Matching) (r vars : ℕ) (b : Building) : Type 0 where
  pub site : Site bytes work words m b.store
  pub long : length stack ≡ stack_words
  pub rule : r < length site.held.pack.rules
  pub variables : vars ≡ length (rule_of site.held.pack r).vars
  pub inner : Opened
  pub outer : List Opened
  pub amid : Amid site.held.pack r stack b inner outer
  pub values : List Bound
  pub mapped : Mapped work m.values 64 values

-- what it comes to, whatever they are
abbrev pub Turned : List ℕ → List ℕ → List ℕ → List ℕ → List ℕ → List ℕ → Matching → ℕ → Building → Optional Turn → Type 0
Turned bytes work words words' stack stack' m r b t = OfBuilding bytes work stack m.catalog m.values r b (λ P bs f fs. Goes P r bs words words' stack stack' b f fs t)
