-- `suppose_each` meets its contract.
use Rattle.std.proofs.lemmas.Result.{err_from_is_err_and}
use Rattle.emit_state.specs.Holding.{lends}
use Rattle.emit_case.specs.EachGoes.{each_goes, each_end, each_place, each_short, each_more, next-asked, few_bytes}
use Rattle.emit_case.proofs.suppose.suppose_each.Goals as goal

pub loop-i-init : goal.loop-i-init
loop-i-init c = each_goes (lends _ _ _ _) _ _ _ _ _ c.requires.1

pub suppose_one-requires : goal.suppose_one-requires
suppose_one-requires c = next-asked _ _ _ _ _ _ _ _ _ c.loop-i.invariant c.loop-i-test.true c.requires.0 c.requires.2

pub offset_bounds-hs-i : goal.offset_bounds-hs-i
offset_bounds-hs-i c = record { fits = few_bytes _ _ _ _ _ _ _ _ _ c.loop-i.invariant c.loop-i-test.true c.requires.0 c.requires.2 }

pub bounds-hs-i : goal.bounds-hs-i
bounds-hs-i c = each_place _ _ _ _ _ _ _ _ _ c.loop-i.invariant c.loop-i-test.true

pub returns-in_err-u : goal.returns-in_err-u
returns-in_err-u c =
    let E = c.in_err-u.ensures in
    let p = err_from_is_err_and c.from_residual.result c.from_residual.ensures.1 in
    rw (p.1, p.2) (each_short _ _ _ _ _ _ _ _ _ c.loop-i.invariant c.loop-i-test.true (lends _ _ _ _) _ _ E)

pub loop-i-preserved : goal.loop-i-preserved
loop-i-preserved c =
    let g = c.loop-i.invariant in
    let E = c.in_ok-u.ensures in
    each_more _ _ _ _ _ _ _ _ _ g c.loop-i-test.true (lends _ _ _ _) _ _ E

pub returns : goal.returns
returns c = each_end _ _ _ _ _ _ _ _ _ c.loop-i.invariant c.loop-i-test.false
