-- `word_of` meets its contract.
use native.Mathlib.Omega.{arith}
use Rattle.emit_state.specs.Writes.{maps_laid}
use Rattle.emit_words.specs.Spelling.{pattern_room}
use Rattle.emit_words.specs.Telling.{name-fits, no_name, spelled-name}
use Rattle.emit_words.proofs.spell.word_of.Goals as goal

pub look-requires : goal.look-requires
look-requires c =
    rw c.maps.ensures (maps_laid _ _ c.requires.ready.holding.laid, omega arith, omega (arith, c.requires.there, pattern_room _ _ _ _ _ _ _ _ c.requires.ready))

pub overflow_add-result-in-Some : goal.overflow_add-result-in-Some
overflow_add-result-in-Some c =
    record { fits = omega (arith, name-fits _ _ _ _ _ _ _ _ c.requires.ready _ c.requires.there _ _ (rw c.maps.ensures at c.look.ensures) c.in-Some.is) }

pub word_unnamed-requires : goal.word_unnamed-requires
word_unnamed-requires c =
    c.requires

pub returns-in-Some : goal.returns-in-Some
returns-in-Some c =
    λ pack proof w e R. spelled-name pack _ _ proof _ _ w e R _ c.requires.there _ _ (rw c.maps.ensures at c.look.ensures) c.in-Some.is

pub returns-in-None : goal.returns-in-None
returns-in-None c =
    λ pack proof w e R. c.word_unnamed.ensures pack proof w e R (no_name pack _ _ proof _ _ w e R _ c.requires.there _ (rw c.maps.ensures at c.look.ensures) c.in-None.is)
