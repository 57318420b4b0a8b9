-- All steps of building, one after the other: what they ask and come to.
use Rattle.std.specs.Prelude.{Option as Optional, Some, None}
use Rattle.std.specs.Prelude.{◌≡◌, List, ℕ, ◌+◌, ◌≤◌, ◌<◌, length, get_or, take}
use Rattle.std.proofs.Math.Option.{none, some}
use Rattle.definition.specs.Pack.{Pack, rule_of}
use Rattle.definition.specs.Certificate.{count}
use Rattle.definition.specs.Verdict.{Bound}
use Rattle.definition.specs.Store.{pattern_words}
use Rattle.emission.specs.Patterns.{BuiltAll, build_all}
use Rattle.base.specs.Outside.{Outside}
use Rattle.base.specs.Part.{part}
use Rattle.pack_tables.specs.Catalog.{records_of}
use Rattle.pack_read.specs.Reads.{Reads}
use Rattle.pack_read.specs.Held.{Proper}
use Rattle.store.specs.Stored.{Stored, nodes}
use Rattle.store.specs.declared.nodes.Store.{Store}
use Rattle.memo.specs.Lent.{lent}
use Rattle.emit_maps.specs.Map.{Mapped}
use Rattle.emit_match.specs.declared.places.Matching.{Matching}
use Rattle.emit_premises.specs.Open.{built_all, whole}
use Rattle.emit_premises.specs.Turned.{OfBuilding, Site}
use Rattle.emit_premises.specs.declared.building.Building.{Building}
use Rattle.emit_premises.specs.declared.build.Built.{Built}
use Rattle.emit_premises.specs.declared.build.Built.TheVariants.{All, Lacks}

-- the premises' patterns, on the stack; or none; or that they have no room
abbrev pub Ends : BuiltAll → List ℕ → List ℕ → List ℕ → Optional Built → Type 0
Ends o words words' stack' (Some (All st)) = (ps : List ℕ) × (o ≡ built_all (some ps) (nodes words' st)) × (part 3 (length ps) stack' ≡ ps) × (3 + length ps ≤ length stack')
Ends o words words' stack' (Some (Lacks st)) = o ≡ built_all none (nodes words' st)
Ends o words words' stack' None = length words < length (pattern_words o.store)

-- whatever the pack, the values and the open symbols
abbrev pub Ended : List ℕ → List ℕ → List ℕ → List ℕ → List ℕ → List ℕ → Matching → ℕ → Building → Optional Built → Type 0
Ended bytes work words words' stack stack' m r b x = OfBuilding bytes work stack m.catalog m.values r b (λ P bs f fs. Ends (whole f fs bs (nodes words b.store)) words words' stack' x)

-- the patterns that are left are in the store
abbrev pub RestsIn : List ℕ → List ℕ → Optional Built → Type 0
RestsIn index words (Some (All st)) = Stored index words st
RestsIn index words (Some (Lacks st)) = Stored index words st
RestsIn index words None = Unit {0}

-- and only its index was written in work
abbrev pub Rests : List ℕ → List ℕ → List ℕ → Matching → Optional Built → Type 0
Rests work work' words' m x = Outside m.index m.end work work' × RestsIn (lent m.index m.end work') words' x

-- ---- all premises
-- nothing is built of so many premises
pub record Begins (stack : List ℕ) (store : Store) (premises : ℕ) (b : Building) : Type 0 where
  pub state : b ≡ record { store = store; base = 0; top = 3; next = 0 }
  pub end : get_or stack 1 0 ≡ 3 + premises
  pub head : get_or stack 2 0 ≡ 0

-- what building asks: the values, and how many premises there are
pub record BuildAsked (bytes work words : List ℕ) (m : Matching) (r premises : ℕ) : Type 0 where
  pub site : Site bytes work words m m.store
  pub rule : r < length site.held.pack.rules
  pub many : premises ≡ count (rule_of site.held.pack r).premises
  pub values : List Bound
  pub mapped : Mapped work m.values 64 values

-- the patterns are the first n of qs
abbrev pub Finishes : BuiltAll → List ℕ → List ℕ → List ℕ → ℕ → Optional Built → Type 0
Finishes o words words' qs n (Some (All st)) = o ≡ built_all (some (take n qs)) (nodes words' st)
Finishes o words words' qs n (Some (Lacks st)) = o ≡ built_all none (nodes words' st)
Finishes o words words' qs n None = length words < length (pattern_words o.store)

-- whatever the pack and the values
abbrev pub BuiltTo : List ℕ → List ℕ → List ℕ → List ℕ → List ℕ → Matching → ℕ → ℕ → Optional Built → Type 0
BuiltTo bytes work words words' qs m r n x =
    (P : Pack) → Reads bytes (records_of work m.catalog) P → Proper P → r < length P.rules → n ≡ count (rule_of P r).premises
    → (bs : List Bound) → Mapped work m.values 64 bs → Finishes (build_all (rule_of P r).premises bs (nodes words m.store)) words words' qs n x
