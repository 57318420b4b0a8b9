-- `note_failed` meets its contract.
use native.Mathlib.Omega.{arith}
use Rattle.emit_search.specs.Failed.{failed_many, noted-none, noted-put}
use Rattle.emit_search.proofs.failed.note_failed.Goals as goal

pub returns-then-m-text : goal.returns-then-m-text
returns-then-m-text c = noted-none _ _ _ _ _ _

pub put-requires : goal.put-requires
put-requires c =
    let f = c.failed-from.ensures in
    let t = c.replaced-to.ensures in
    let many = failed_many _ _ c.args.m.failed c.requires.laid in
    (omega (arith, f, t), omega (arith, t, c.requires.laid.within), rw (f, t) c.requires.remembers, rw (f, t) (omega (arith, many, c.requires.below)))

pub returns : goal.returns
returns c =
    let f = c.failed-from.ensures in
    let t = c.replaced-to.ensures in
    noted-put _ _ _ _ _ _ _ (omega arith) (rw (f, t) at c.put.ensures)
