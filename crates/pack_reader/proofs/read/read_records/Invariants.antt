-- What is unread is the bytes' last part, and what is ahead of it is in the tables; less is left with each turn.
use Rattle.std.proofs.Common.{length}
use Rattle.pack_reader.specs.Ahead.{Ahead}
use Rattle.pack_reader.proofs.read.read_records.Given as goal

abbrev pub invariant-loop-unread : goal.invariant-loop-unread
invariant-loop-unread l = Ahead l.pack l.unread.tail.now l.initial.work l.work l.c l.unread.last

abbrev pub decreases-loop-unread : goal.decreases-loop-unread
decreases-loop-unread l = length l.unread.tail.now
