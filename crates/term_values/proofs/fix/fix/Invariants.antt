-- `fix` meets its contract: with each turn what is left of the definition gives the whole, and less is left.
use Prim.Native.Nat.{◌+◌}
use Rattle.term_values.specs.Words.{table_in}
use Rattle.term_values.specs.Turns.{left_in_lent}
use Rattle.term_values.specs.Fixes.{Going}
use Rattle.term_values.proofs.fix.fix.Given as goal

abbrev pub invariant-loop-top : goal.invariant-loop-top
invariant-loop-top l = Going l.pack l.initial.work l.work l.cells l.c l.l l.g l.top

abbrev pub decreases-loop-top : goal.decreases-loop-top
decreases-loop-top l = l.top + left_in_lent l.cells (table_in l.l l.work) l.g
