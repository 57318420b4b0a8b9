-- `all_below` meets its contract: with each turn the words left give the same answer.
use mathlib.Core.Path.{sym, ◌∙◌}
use native.Mathlib.Omega.{arith}
use Rattle.pack_tables.specs.Row.{below-start, below-turn, below_stop, below_end}
use Rattle.pack_tables.proofs.row.all_below.Goals as goal

pub loop-i-init : goal.loop-i-init
loop-i-init c = let a = c.args in below-start a.n a.at a.bound a.body.now

pub returns-then-bound-word : goal.returns-then-bound-word
returns-then-bound-word c =
    let g = c.loop-i in
    let a = c.args in
    sym (sym g.invariant ∙ below_stop a.n g.i a.at a.bound a.body.now (omega arith) (omega arith))

pub loop-i-preserved : goal.loop-i-preserved
loop-i-preserved c =
    let g = c.loop-i in
    let a = c.args in
    below-turn a.n g.i a.at a.bound a.body.now (omega arith) (omega arith) ∙ g.invariant

pub returns : goal.returns
returns c =
    let g = c.loop-i in
    let a = c.args in
    sym (sym g.invariant ∙ below_end a.n g.i a.at a.bound a.body.now (omega arith))
