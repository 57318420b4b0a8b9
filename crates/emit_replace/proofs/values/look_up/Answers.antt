-- `look_up` meets its contract.
use native.Mathlib.Omega.{arith}
use Rattle.emit_replace.specs.Reading.{values-many}
use Rattle.emit_replace.proofs.values.look_up.Goals as goal

pub get-requires : goal.get-requires
get-requires c =
    let f = c.replaced-from.ensures in
    let t = c.stamp-to.ensures in
    let many = values-many _ _ c.args.memo c.requires.0 in
    (omega (arith, f, t), omega (arith, t, c.requires.0.within), rw (f, t) (omega (arith, many, c.requires.1)))

pub returns : goal.returns
returns c =
    let f = c.replaced-from.ensures in
    let t = c.stamp-to.ensures in
    rw (f, t) at c.get.ensures
