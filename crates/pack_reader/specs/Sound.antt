-- Tables of a pack whose nodes have symbols for heads, in bytes.
use Rattle.std.specs.Prelude.{List, [], ◌∷◌, ℕ, suc, ◌+◌, ◌<◌, length, get_or, drop}
use Rattle.definition.specs.Little.{le}
use Rattle.definition.specs.Pack.{Pack, node_of}
use Rattle.definition.proofs.Laws.Put.{Bytes, bytes_take, bytes_drop}
use Rattle.base.specs.Part.{part}
use Rattle.pack_tables.specs.Place.{Place, body_at}
use Rattle.pack_tables.specs.Catalog.{records_of, Cataloged}
use Rattle.pack_tables.specs.declared.catalog.Catalog.{Catalog}
use Rattle.pack_read.specs.Reads.{Reads}
use Rattle.pack_read.specs.Says.{Readable}

-- some pack is read, the heads of its nodes are symbols, and there are only bytes
pub record Sound (bytes work : List ℕ) (c : Catalog) : Type 0 where
  pub pack : Pack
  pub reads : Reads bytes (records_of work c) pack
  pub headed : (P : Pack) → Reads bytes (records_of work c) P → (n : ℕ) → n < length P.nodes → (node_of P n).head < length P.symbols
  pub octets : (i : ℕ) → get_or bytes i 0 < 256

-- what reading in place asks for
abbrev pub readable : (bytes work : List ℕ) (c : Catalog) → Cataloged bytes work c → Sound bytes work c → Readable bytes work c
readable bytes work c C S = record { cataloged = C; pack = S.pack; reads = S.reads }

pub bytes-all : (s : List ℕ) → ((i : ℕ) → get_or s i 0 < 256) → Bytes s
bytes-all [] h = tt
bytes-all (x ∷ xs) h = (h 0, bytes-all xs (λ i. h (suc i)))

-- a body is of bytes
pub body_bytes : (bytes : List ℕ) (p : Place) → ((i : ℕ) → get_or bytes i 0 < 256) → Bytes (body_at bytes p)
unfolding body_at part
body_bytes bytes p h = bytes_take (le 4 bytes p.at) (drop (p.at + 6) bytes) (bytes_drop (p.at + 6) bytes (bytes-all bytes h))
