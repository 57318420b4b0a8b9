-- `solve_list` meets its contract.
use mathlib.Core.Path.{sym, ◌∙◌}
use native.Mathlib.Omega.{arith}
use Rattle.host_unify.specs.Tells.{fit, refusal-told, solved-unfit, solved_broken, solved-full, solved-whole}
use Rattle.host_unify.proofs.solve_list.Goals as goal

pub shape_of-cells-then-lengths_unfit : goal.shape_of-cells-then-lengths_unfit
shape_of-cells-then-lengths_unfit c = search

pub returns-then-lengths_unfit : goal.returns-then-lengths_unfit
returns-then-lengths_unfit c = let s = c.args in solved-unfit s.terms.now _ _ _ _ _ _ _ (sym c.lengths_unfit.ensures ∙ c.if-lengths_unfit.true) (refusal-told 3 _ s.roots.now c.refusal.ensures c.requires)

pub read_nodes-requires : goal.read_nodes-requires
read_nodes-requires c = let a = c.args in fit a.cells.now a.work.now (sym c.lengths_unfit.ensures ∙ c.if-lengths_unfit.false)

pub ask-requires : goal.ask-requires
ask-requires c =
    let s = c.args in
    let R = c.in-Ok.ensures in
    let k = c.read_nodes.auto in
    let f = fit s.cells.now s.work.now (sym c.lengths_unfit.ensures ∙ c.if-lengths_unfit.false) in
    ((R.0, R.1, R.2), omega (arith, f.0, k.cells, k.work), c.requires)

pub shape_of-roots : goal.shape_of-roots
shape_of-roots c = search

pub shape_of-cells-in-Ok : goal.shape_of-cells-in-Ok
shape_of-cells-in-Ok c = search

pub returns-in-Ok : goal.returns-in-Ok
returns-in-Ok c =
    let s = c.args in
    let R = c.in-Ok.ensures in
    solved-whole s.terms.now _ _ _ _ _ _ _ (sym c.lengths_unfit.ensures ∙ c.if-lengths_unfit.false) _ _ c.read_nodes.auto.cells _ R c.ask.ensures

pub shape_of-cells-in-Err-Broken : goal.shape_of-cells-in-Err-Broken
shape_of-cells-in-Err-Broken c = search

pub shape_of-work-in-Err-Broken : goal.shape_of-work-in-Err-Broken
shape_of-work-in-Err-Broken c = search

pub returns-in-Err-Broken : goal.returns-in-Err-Broken
returns-in-Err-Broken c =
    let s = c.args in
    let R = rw c.in-Err-Broken.field-0-is at c.in-Err-Broken.ensures in
    let l = c.read_nodes.new in
    solved_broken s.terms.now _ _ _ _ _ _ _ (sym c.lengths_unfit.ensures ∙ c.if-lengths_unfit.false) l.cells l.work c.read_nodes.auto.cells R (refusal-told 2 _ s.roots.now c.refusal-in-Err-Broken.ensures c.requires)

pub shape_of-cells-in-Err-Full : goal.shape_of-cells-in-Err-Full
shape_of-cells-in-Err-Full c = search

pub shape_of-work-in-Err-Full : goal.shape_of-work-in-Err-Full
shape_of-work-in-Err-Full c = search

pub returns-in-Err-Full : goal.returns-in-Err-Full
returns-in-Err-Full c =
    let s = c.args in
    let R = rw c.in-Err-Full.field-0-is at c.in-Err-Full.ensures in
    let l = c.read_nodes.new in
    solved-full s.terms.now _ _ _ _ _ _ _ (sym c.lengths_unfit.ensures ∙ c.if-lengths_unfit.false) l.cells l.work c.read_nodes.auto.cells R (refusal-told 3 _ s.roots.now c.refusal-in-Err-Full.ensures c.requires)
