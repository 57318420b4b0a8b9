-- Where a record stands in the pack, and where its key starts: a name, or a node's head and arguments. A key ends with its record.
use Rattle.std.specs.Prelude.{List, ℕ, ◌+◌, ◌-◌, ◌≤◌, length}
use Rattle.definition.specs.Little.{le}
use Rattle.base.specs.Part.{part}

pub record Place : Type 0 where
  pub at : ℕ
  pub from : ℕ

abbrev pub no_place : Place
no_place = record { at = 0; from = 0 }

-- behind the record at `at`: six bytes of header, and its body
unfoldable pub end_of : List ℕ → ℕ → ℕ
end_of bytes at = at + 6 + le 4 bytes at

-- the record's body
unfoldable pub body_at : List ℕ → Place → List ℕ
body_at bytes p = part (p.at + 6) (le 4 bytes p.at) bytes

-- the bytes of a key
unfoldable pub key_at : List ℕ → Place → List ℕ
key_at bytes p = part p.from (end_of bytes p.at - p.from) bytes

-- the record is whole, and the key in its body
pub record Framed (bytes : List ℕ) (p : Place) : Type 0 where
  pub starts : p.at + 6 ≤ p.from
  pub ends : p.from ≤ end_of bytes p.at
  pub whole : end_of bytes p.at ≤ length bytes
