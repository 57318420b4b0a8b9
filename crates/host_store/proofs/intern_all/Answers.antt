-- `intern_all` meets its contract.
use mathlib.Core.Path.{sym, ◌∙◌}
use Rattle.host_store.specs.Turns.{fit, tried-unfit, tried_short, tried-done}
use Rattle.host_store.proofs.intern_all.Goals as goal

pub returns-then-lengths_unfit : goal.returns-then-lengths_unfit
returns-then-lengths_unfit c =
    let a = c.args in
    c.refuse.ensures ∙ tried-unfit a.from.now _ _ _ (sym c.lengths_unfit.ensures ∙ c.if-lengths_unfit.true)

pub intern_nodes-requires : goal.intern_nodes-requires
intern_nodes-requires c = fit _ _ (sym c.lengths_unfit.ensures ∙ c.if-lengths_unfit.false)

pub finish-requires : goal.finish-requires
finish-requires c = let R = c.in-Some.ensures in (R.0, R.1.filled)

pub returns-in-Some : goal.returns-in-Some
returns-in-Some c =
    let a = c.args in
    let k = c.intern_nodes.auto in
    let R = c.in-Some.ensures in
    c.finish.ensures ∙ tried-done a.from.now _ _ _ (sym c.lengths_unfit.ensures ∙ c.if-lengths_unfit.false) _ _ _ k.index k.words k.numbers _ _ R

pub returns-in-None : goal.returns-in-None
returns-in-None c =
    let a = c.args in
    let k = c.intern_nodes.auto in
    let l = c.intern_nodes.new in
    let R = c.in-None.ensures in
    c.refuse-in-None.ensures ∙ tried_short a.from.now _ _ _ (sym c.lengths_unfit.ensures ∙ c.if-lengths_unfit.false) l.index l.words l.numbers k.index k.words k.numbers R
