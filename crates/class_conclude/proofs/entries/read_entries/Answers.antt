-- `read_entries` meets its contract.
use native.Mathlib.Omega.{arith}
use Rattle.class_conclude.specs.Entries.{going_none, going_asked, going_on, going_short, going_done}
use Rattle.class_conclude.proofs.entries.read_entries.Goals as goal

pub loop-i-init : goal.loop-i-init
loop-i-init c = going_none _ _ _ _ _ _ _ _ _ _ c.requires

pub read_entry-requires : goal.read_entry-requires
read_entry-requires c = going_asked _ _ _ _ _ _ _ _ _ _ c.requires _ _ _ _ _ _ c.loop-i.invariant c.loop-i-test.true

pub loop-i-preserved : goal.loop-i-preserved
loop-i-preserved c = going_on _ _ _ _ _ _ _ _ _ _ c.requires _ _ _ _ _ _ c.loop-i.invariant c.loop-i-test.true _ _ _ _ _ c.read_entry.auto.words c.in_ok-more.ensures

pub returns-in_err-more : goal.returns-in_err-more
returns-in_err-more c = rw c.from_residual.ensures (going_short _ _ _ _ _ _ _ _ _ _ c.requires _ _ _ _ _ _ c.loop-i.invariant c.loop-i-test.true c.read_entry.new.work c.read_entry.new.words c.in_err-more.ensures)

pub returns : goal.returns
returns c = going_done _ _ _ _ _ _ _ _ _ _ c.requires _ _ _ _ _ _ c.loop-i.invariant (omega (arith, c.loop-i-test.false))
