-- `fix` meets its contract: with each turn what is left of the definition gives the whole, and less is left.
use native.Mathlib.Omega.{arith}
use mathlib.Core.Path.{◌≡◌}
use Rattle.term_values.specs.Fixes.{going_at, going_ready, going_on, going_less, first_ready, fixes_done, fixes_differs}
use Rattle.term_values.proofs.fix.fix.Goals as goal

pub take_value-requires : goal.take_value-requires
take_value-requires c =
    let p = c.requires in
    let B = first_ready _ _ _ _ _ _ _ _ p.0 p.1 p.2 _ c.put_pair.ensures in
    let G = going_at _ _ _ _ _ _ _ _ c.loop-top-test.true c.loop-top.invariant in
    going_ready _ _ _ _ _ _ _ _ B G

pub loop-top-smaller : goal.loop-top-smaller
loop-top-smaller c =
    let p = c.requires in
    let B = first_ready _ _ _ _ _ _ _ _ p.0 p.1 p.2 _ c.put_pair.ensures in
    let G = going_at _ _ _ _ _ _ _ _ c.loop-top-test.true c.loop-top.invariant in
    omega (arith, c.loop-top-test.true, going_less _ _ _ _ _ _ _ _ B G _ _ c.in-Some.ensures)

pub loop-top-preserved : goal.loop-top-preserved
loop-top-preserved c =
    let p = c.requires in
    let B = first_ready _ _ _ _ _ _ _ _ p.0 p.1 p.2 _ c.put_pair.ensures in
    let G = going_at _ _ _ _ _ _ _ _ c.loop-top-test.true c.loop-top.invariant in
    going_on _ _ _ _ _ _ _ _ B G _ _ c.in-Some.ensures

pub returns-in_default : goal.returns-in_default
returns-in_default c =
    let p = c.requires in
    let G = going_at _ _ _ _ _ _ _ _ c.loop-top-test.true c.loop-top.invariant in
    fixes_differs _ _ _ _ _ _ _ _ p.0 p.1 p.2 _ c.put_pair.ensures _ _ _ G c.in_default.ensures

pub returns : goal.returns
returns c =
    let p = c.requires in
    let z : c.loop-top.top ≡ 0 = omega (arith, c.loop-top-test.false) in
    fixes_done _ _ _ _ _ _ _ _ p.0 p.1 p.2 _ c.put_pair.ensures _ (rw z at c.loop-top.invariant)
