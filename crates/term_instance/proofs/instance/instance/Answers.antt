-- `instance` meets its contract: with each turn what is left gives the whole, and less is left.
use native.Mathlib.Omega.{arith}
use mathlib.Core.Path.{◌≡◌}
use Rattle.term_instance.specs.Matches.{going_none, going_at, going_ready, going_on, going_less}
use Rattle.term_instance.specs.Begins.{first_ready, first_stays, matches_done, matches_differs}
use Rattle.term_instance.proofs.instance.instance.Goals as goal

pub loop-top-init : goal.loop-top-init
loop-top-init c = going_none _ _ _ _ _ _ _ _ (first_stays _ _ _ _ _ _ _ _ c.requires.0 c.args.p.0 c.args.n.0 c.requires.1 c.requires.2 _ _ c.clear-fresh.ensures _ _ c.clear-bare.ensures _ c.put_pair.ensures)

pub take_pair-requires : goal.take_pair-requires
take_pair-requires c =
    let B = first_ready _ _ _ _ _ _ _ _ c.requires.0 c.args.p.0 c.args.n.0 c.requires.1 c.requires.2 _ _ c.clear-fresh.ensures _ _ c.clear-bare.ensures _ c.put_pair.ensures in
    let G = going_at _ _ _ _ _ _ _ _ _ _ c.loop-top-test.true c.loop-top.invariant in
    going_ready _ _ _ _ _ _ _ _ _ _ B G

pub loop-top-smaller : goal.loop-top-smaller
loop-top-smaller c =
    let B = first_ready _ _ _ _ _ _ _ _ c.requires.0 c.args.p.0 c.args.n.0 c.requires.1 c.requires.2 _ _ c.clear-fresh.ensures _ _ c.clear-bare.ensures _ c.put_pair.ensures in
    let G = going_at _ _ _ _ _ _ _ _ _ _ c.loop-top-test.true c.loop-top.invariant in
    omega (arith, c.loop-top-test.true, going_less _ _ _ _ _ _ _ _ _ _ B G _ _ c.in_ok-top.ensures)

pub loop-top-preserved : goal.loop-top-preserved
loop-top-preserved c =
    let B = first_ready _ _ _ _ _ _ _ _ c.requires.0 c.args.p.0 c.args.n.0 c.requires.1 c.requires.2 _ _ c.clear-fresh.ensures _ _ c.clear-bare.ensures _ c.put_pair.ensures in
    let G = going_at _ _ _ _ _ _ _ _ _ _ c.loop-top-test.true c.loop-top.invariant in
    going_on _ _ _ _ _ _ _ _ _ _ B G _ _ c.in_ok-top.ensures

pub returns-in_err-top : goal.returns-in_err-top
returns-in_err-top c =
    let G = going_at _ _ _ _ _ _ _ _ _ _ c.loop-top-test.true c.loop-top.invariant in
    rw c.from_residual.ensures (matches_differs _ _ _ _ _ _ _ _ c.requires.0 c.args.p.0 c.args.n.0 c.requires.1 c.requires.2 _ _ c.clear-fresh.ensures _ _ c.clear-bare.ensures _ c.put_pair.ensures _ _ _ G c.in_err-top.ensures)

pub returns : goal.returns
returns c =
    let z : c.loop-top.top ≡ 0 = omega (arith, c.loop-top-test.false) in
    matches_done _ _ _ _ _ _ _ _ c.requires.0 c.args.p.0 c.args.n.0 c.requires.1 c.requires.2 _ _ c.clear-fresh.ensures _ _ c.clear-bare.ensures _ c.put_pair.ensures _ (rw z at c.loop-top.invariant)
