-- `gives_up` meets its contract.
use mathlib.Core.Path.{sym}
use native.Mathlib.Omega.{arith}
use Rattle.emit_search.specs.Failed.{deep, failed_many, given-up}
use Rattle.emit_search.proofs.failed.gives_up.Goals as goal

pub returns-then-depth-gt-MOST : goal.returns-then-depth-gt-MOST
returns-then-depth-gt-MOST c = deep c.if-depth-gt-MOST.true

pub get-requires : goal.get-requires
get-requires c =
    let f = c.failed-from.ensures in
    let t = c.replaced-to.ensures in
    let many = failed_many _ _ c.args.failed c.requires.laid in
    (omega (arith, f, t), omega (arith, t, c.requires.laid.within), rw (f, t) (omega (arith, many, c.requires.below)))

pub returns-in-Some : goal.returns-in-Some
returns-in-Some c =
    let f = c.failed-from.ensures in
    let t = c.replaced-to.ensures in
    given-up _ _ _ _ _ _ (omega arith) (sym (rw (f, t, c.in-Some.is) at c.get.ensures))
