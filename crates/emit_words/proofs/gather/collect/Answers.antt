-- `collect` meets its contract.
use native.Mathlib.Omega.{arith}
use mathlib.Core.List.{List}
use mathlib.Core.Path.{ap}
use Prim.Native.Nat.{ℕ}
use lib.ListN.{length}
use Rattle.emit_words.specs.Putting.{placed_knows, placed-all, placed_few, collected}
use Rattle.emit_words.proofs.gather.collect.Goals as goal

pub key_of-key-requires : goal.key_of-key-requires
key_of-key-requires c =
    placed_knows _ _ _ _ _ _ _ c.requires.0.placed

pub gather-requires : goal.gather-requires
gather-requires c =
    let K = c.requires.0.placed in
    (placed-all _ _ _ _ _ _ _ K _ c.key_of-key.ensures, omega (arith, placed_few _ _ _ _ _ _ _ K _ c.key_of-key.ensures))

pub bounds-key-0 : goal.bounds-key-0
bounds-key-0 c =
    omega (arith, ap (λ (xs : List ℕ). length xs) c.key_of-key.ensures)

pub overflow_sub-result : goal.overflow_sub-result
overflow_sub-result c =
    omega (arith, ap (λ (xs : List ℕ). length xs) c.key_of-key.ensures)

pub returns : goal.returns
returns c =
    collected _ _ _ _ _ _ _ c.requires.0.placed c.key_of-key.result.now c.key_of-key.ensures c.gather.new.numbers c.gather.ensures (omega (arith, c.requires.1, c.gather.auto))
