-- `read_terms` meets its contract.
use Prim.Native.Nat.{◌-◌}
use Rattle.pack_tables.specs.Catalog.{records_of}
use Rattle.pack_reader.specs.TermsRun.{Running}
use Rattle.pack_reader.proofs.terms.read_terms.Given as goal

abbrev pub invariant-loop-q : goal.invariant-loop-q
invariant-loop-q l = Running l.pack (records_of l.work l.c) l.body l.vars l.premises l.frames l.p

abbrev pub decreases-loop-q : goal.decreases-loop-q
decreases-loop-q l = 257 - l.p.read
