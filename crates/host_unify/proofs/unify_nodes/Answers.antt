-- `unify_nodes` meets its contract.
use lib.ListN.{length}
use Rattle.host_unify.specs.Tells.{zeros-all, all_left}
use Rattle.host_unify.proofs.unify_nodes.Goals as goal

pub solve_list-answer-requires : goal.solve_list-answer-requires
solve_list-answer-requires c = zeros-all (length c.args.roots.now) c.fill.new.self (c.fill.ensures.after (λ y e. e))

pub shape_of-work : goal.shape_of-work
shape_of-work c = search

pub returns : goal.returns
returns c =
    let a = c.args in
    let k = c.solve_list-answer.auto in
    let l = c.solve_list-answer.new in
    all_left a.terms.now a.x a.y a.stage _ _ _ a.cells.now a.work.now l.roots l.cells l.work _ _ c.fill.auto.self k.cells k.work c.solve_list-answer.ensures (c.fill-2.ensures.after (λ y e. e)) (c.fill-3.ensures.after (λ y e. e))
