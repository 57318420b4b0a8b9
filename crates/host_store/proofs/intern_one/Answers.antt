-- `intern_one` meets its contract.
use native.Mathlib.Omega.{arith}
use Rattle.host_store.specs.Turns.{some_key, over_read, turned, full}
use Rattle.host_store.proofs.intern_one.Goals as goal

pub returns-then-from-at : goal.returns-then-from-at
returns-then-from-at c = (c.requires.0, over_read _ _ _ _ _ c.requires.1 (omega arith))

pub intern-requires : goal.intern-requires
intern-requires c = (c.requires.0, some_key c.args.from.now c.args.at _ (omega arith) c.node_end-end.ensures)

pub returns-in-Some : goal.returns-in-Some
returns-in-Some c =
    let A = c.in-Some.ensures in
    (A.3, turned _ _ _ _ _ c.requires.1 c.requires.2 (omega arith) _ _ _ c.node_end-end.ensures A.0 A.1)

pub returns-in-None : goal.returns-in-None
returns-in-None c =
    let A = c.in-None.ensures in
    rw A.2 (full _ _ _ _ _ c.requires.1 c.requires.2 (omega arith) _ _ c.node_end-end.ensures A.0)
