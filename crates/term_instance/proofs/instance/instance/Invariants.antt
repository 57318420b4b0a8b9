-- `instance` meets its contract: with each turn what is left gives the whole, and less is left.
use Prim.Native.Nat.{◌+◌}
use Rattle.term_instance.specs.Matches.{left_in_lent, Going}
use Rattle.term_instance.proofs.instance.instance.Given as goal

abbrev pub invariant-loop-top : goal.invariant-loop-top
invariant-loop-top l = Going l.pack l.initial.work l.work l.words l.s.catalog l.s.tables l.s.store l.s.seen l.s.values l.top

abbrev pub decreases-loop-top : goal.decreases-loop-top
decreases-loop-top l = l.top + left_in_lent l.words l.work l.s.tables l.s.store l.s.seen
