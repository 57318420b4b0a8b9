-- `put_bytes` meets its contract.
use native.Mathlib.Omega.{arith}
use mathlib.Core.Path.{refl}
use Prim.Native.Nat.{◌+◌}
use lib.ListN.{length}
use Rattle.base.specs.Part.{put-lent}
use Rattle.buffer.specs.Text.{over, write-fits, write_short}
use Rattle.list_records.proofs.put_bytes.Goals as goal

pub returns-then-text-at : goal.returns-then-text-at
returns-then-text-at c = let a = c.args in write_short a.text.now a.at a.bytes.now (omega arith)

pub returns-then-text-at-2 : goal.returns-then-text-at-2
returns-then-text-at-2 c = let a = c.args in write_short a.text.now a.at a.bytes.now (omega arith)

pub returns : goal.returns
unfolding over
returns c =
    let a = c.args in
    write-fits a.text.now a.at a.bytes.now _ _ refl (omega arith) (put-lent a.at (a.at + length a.bytes.now) (length a.bytes.now) a.text.now c.copy_from_slice.new.self a.bytes.now refl c.copy_from_slice.ensures.after)
