-- `solve` meets its contract.
use native.Mathlib.Omega.{arith}
use Rattle.host_unify.specs.Tells.{solves_none, solves_joined, solves_clash}
use Rattle.host_unify.proofs.solve.Goals as goal

pub shape_of-work-then-stage-eq0 : goal.shape_of-work-then-stage-eq0
shape_of-work-then-stage-eq0 c = search

pub shape_of-roots-then-stage-eq0 : goal.shape_of-roots-then-stage-eq0
shape_of-roots-then-stage-eq0 c = search

pub returns-then-stage-eq0 : goal.returns-then-stage-eq0
returns-then-stage-eq0 c = solves_none _ _ _ _ _ _ _ _ c.if-stage-eq0.true c.tell_joined.ensures

pub unify-requires : goal.unify-requires
unify-requires c = let p = c.requires in (p.0, p.3, p.4, omega (arith, p.2))

pub tell_joined-requires-in-Ok : goal.tell_joined-requires-in-Ok
tell_joined-requires-in-Ok c =
    let p = c.requires in
    let U = c.in-Ok.ensures in
    let u = U.0 p.0.0 p.0.1 p.0.2 in
    ((u.0, u.2, u.3), p.1, omega (arith, p.2, U.1.long))

pub shape_of-work-in-Ok : goal.shape_of-work-in-Ok
shape_of-work-in-Ok c = search

pub shape_of-roots : goal.shape_of-roots
shape_of-roots c = search

pub returns-in-Ok : goal.returns-in-Ok
returns-in-Ok c =
    let U = c.in-Ok.ensures in
    solves_joined _ _ _ _ _ _ _ _ _ _ c.if-stage-eq0.false U c.tell_joined-in-Ok.ensures

pub shape_of-work-in-Err : goal.shape_of-work-in-Err
shape_of-work-in-Err c = search

pub returns-in-Err : goal.returns-in-Err
returns-in-Err c =
    let U = c.in-Err.ensures in
    solves_clash _ _ _ c.args.roots.now _ _ _ _ _ c.if-stage-eq0.false U c.requires.1.zeros
