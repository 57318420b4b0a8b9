-- `word_unnamed` meets its contract.
use native.Mathlib.Omega.{arith}
use lib.ListN.{length}
use mathlib.Core.Path.{ap}
use mathlib.Core.List.{List}
use Prim.Native.Nat.{ℕ}
use Rattle.emit_state.specs.Writes.{maps_laid}
use Rattle.emit_words.specs.Spelling.{pattern_room}
use Rattle.emit_words.specs.Telling.{def_fits, spelled_L, spelled_constant, spelled_defined, spelled-nothing}
use Rattle.emit_words.proofs.spell.word_unnamed.Goals as goal

pub key_of-key-requires : goal.key_of-key-requires
key_of-key-requires c =
    c.requires

pub bounds-key-0 : goal.bounds-key-0
bounds-key-0 c =
    omega (arith, ap (λ (xs : List ℕ). length xs) c.key_of-key.ensures)

pub returns-then-key : goal.returns-then-key
returns-then-key c =
    λ pack proof w e R u. spelled_L pack _ _ proof _ _ w e R _ c.requires.there _ c.key_of-key.ensures u c.if-key.true

pub bounds-key-0-then-key-eq1 : goal.bounds-key-0-then-key-eq1
bounds-key-0-then-key-eq1 c =
    omega (arith, ap (λ (xs : List ℕ). length xs) c.key_of-key.ensures)

pub returns-then-key-eq1 : goal.returns-then-key-eq1
returns-then-key-eq1 c =
    λ pack proof w e R u. spelled_constant pack _ _ proof _ _ w e R _ c.requires.there _ c.key_of-key.ensures u c.if-key.false c.if-key-eq1.true

pub look-requires : goal.look-requires
look-requires c =
    rw c.maps.ensures (maps_laid _ _ c.requires.ready.holding.laid, omega arith, omega (arith, c.requires.there, pattern_room _ _ _ _ _ _ _ _ c.requires.ready))

pub overflow_add-result : goal.overflow_add-result
overflow_add-result c =
    record { fits = omega (arith, def_fits _ _ _ _ _ _ _ _ c.requires.ready _ c.requires.there _ _ (rw c.maps.ensures at c.look.ensures) c.in_ok-n.was) }

pub returns : goal.returns
returns c =
    λ pack proof w e R u. spelled_defined pack _ _ proof _ _ w e R _ c.requires.there _ c.key_of-key.ensures u c.if-key.false c.if-key-eq1.false _ _ (rw c.maps.ensures at c.look.ensures) c.in_ok-n.was

pub returns-in_err-n : goal.returns-in_err-n
returns-in_err-n c =
    λ pack proof w e R u. rw c.from_residual.ensures (spelled-nothing pack _ _ proof _ _ w e R _ c.requires.there _ c.key_of-key.ensures u c.if-key.false c.if-key-eq1.false _ (rw c.maps.ensures at c.look.ensures) c.in_err-n.was)
