-- Chains in work: where they stand, what it holds with them, and what stores there leave.
use Rattle.std.specs.Prelude.{◌≡◌, List, ℕ, ◌+◌, ◌-◌, ◌≤◌, ◌<◌, length, get_or, set, take, drop, replicate}
use Rattle.std.proofs.Common.{sym, ap, ◌∙◌, arith}
use Rattle.std.proofs.lemmas.List.{length-replicate, get_or-replicate}
use Rattle.definition.specs.Pack.{Pack}
use Rattle.base.specs.Part.{part, put, part_at, length_part, part_is, part-set, part-set-before, part-set-behind}
use Rattle.base.specs.Outside.{Outside, outside_then, outside_set}
use Rattle.buffer.specs.Zero.{zeros_long, zeros_there, zeros-before, zeros-behind}
use Rattle.pack_tables.specs.SameTables.{end_of, Same}
use Rattle.pack_tables.specs.declared.catalog.Catalog.{Catalog}
use Rattle.pack_read.specs.Held.{Held, OfHeld}
use Rattle.emit_chains.specs.Chain.{Chained}
use Rattle.emit_chains.specs.declared.chain.Chains.{Chains}

-- a word for each key, the first of its chain
abbrev pub firsts : List ℕ → Chains → List ℕ
firsts work h = part h.first h.keys work

-- a word for each number, the one behind it
abbrev pub links : List ℕ → Chains → List ℕ
links work h = part h.next h.items work

-- both stand in work, the links behind the first words
pub record Within (work : List ℕ) (h : Chains) : Type 0 where
  pub apart : h.first + h.keys ≤ h.next
  pub room : h.next + h.items ≤ length work

-- and behind the tables
pub record Laid (work : List ℕ) (c : Catalog) (h : Chains) : Type 0 where
  pub behind : end_of c ≤ h.first
  pub within : Within work h

-- the pack is held, and each key's chain is those of its `many` things that have the key
pub record ChainedIn (bytes work : List ℕ) (c : Catalog) (h : Chains) (many : Pack → ℕ) (key : Pack → ℕ → ℕ) : Type 0 where
  pub held : Held bytes work c
  pub laid : Laid work c h
  pub chained : OfHeld bytes work c (λ P. Chained (firsts work h) (links work h) (key P) 0 (many P))

-- ---- how many words there are
pub length-firsts : (work : List ℕ) (h : Chains) → Within work h → length (firsts work h) ≡ h.keys
length-firsts work h W = length_part h.first h.keys work (omega (arith, W.apart, W.room))

pub length-links : (work : List ℕ) (h : Chains) → Within work h → length (links work h) ≡ h.items
length-links work h W = length_part h.next h.items work W.room

-- ---- what was written there leaves the tables, and the places in work
module _ (work work' : List ℕ) (c : Catalog) (h : Chains) (L : Laid work c h) (e : ℕ) (O : Outside h.first e work work') where
  pub laid_same : Same work work' c
  laid_same = record { long = O.long; words = λ i l. O.ahead i (omega (arith, L.behind)) }

  pub laid_on : Laid work' c h
  laid_on = record { behind = L.behind; within = record { apart = L.within.apart; room = omega (arith, L.within.room, O.long) } }

-- ---- the first words were lent and came back as zeros
module _ (work : List ℕ) (h : Chains) (W : Within work h) (zs : List ℕ) (z : zs ≡ replicate (length (take (h.first + h.keys - h.first) (drop h.first work))) 0) where
  abbrev cleared : List ℕ
  cleared = put h.first (h.first + h.keys - h.first) zs work

  fits : h.first + h.keys ≤ length work
  fits = omega (arith, W.apart, W.room)

  long : length cleared ≡ length work
  long = zeros_long h.first (h.first + h.keys) h.keys work zs (omega arith) fits z

  pub cleared-empty : firsts cleared h ≡ replicate h.keys 0
  cleared-empty =
      part_is h.first h.keys cleared (replicate h.keys 0) (omega (arith, fits, long)) (length-replicate h.keys 0)
      (λ i l. zeros_there h.first (h.first + h.keys) h.keys work zs (omega arith) fits z i l ∙ sym (get_or-replicate {A = ℕ} h.keys i 0 0 l))

  pub cleared_outside : Outside h.first (h.first + h.keys) work cleared
  cleared_outside = record {
    long = long;
    ahead = zeros-before h.first (h.first + h.keys) h.keys work zs (omega arith) fits z;
    behind = zeros-behind h.first (h.first + h.keys) h.keys work zs (omega arith) fits z;
  }

-- ---- the first word of key k was stored as the link of number i, and v in its stead
module _ (work : List ℕ) (h : Chains) (W : Within work h) (k i v : ℕ) (l : k < h.keys) (m : i < h.items) where
  abbrev old : ℕ
  old = get_or work (h.first + k) 0

  abbrev linked : List ℕ
  linked = set work (h.next + i) old

  abbrev stored : List ℕ
  stored = set linked (h.first + k) v

  pub stored-first : firsts stored h ≡ set (firsts work h) k v
  stored-first =
      part-set h.first h.keys linked k v l
      ∙ ap (λ (xs : List ℕ). set xs k v) (part-set-behind h.first h.keys work (h.next + i) old (omega (arith, W.apart)))

  pub stored-link : links stored h ≡ set (links work h) i (get_or (firsts work h) k 0)
  stored-link =
      part-set-before h.next h.items linked (h.first + k) v (omega (arith, W.apart))
      ∙ part-set h.next h.items work i old m
      ∙ ap (λ (x : ℕ). set (links work h) i x) (sym (part_at h.first h.keys work k l))

  pub stored_outside : Outside h.first (h.next + h.items) work stored
  stored_outside =
      outside_then h.first (h.next + h.items) work linked stored
      (outside_set h.first (h.next + h.items) work (h.next + i) old (omega (arith, W.apart)) (omega arith))
      (outside_set h.first (h.next + h.items) linked (h.first + k) v (omega arith) (omega (arith, W.apart)))
