-- `same_words` meets its contract: with each turn what is left to compare gives the same answer.
use mathlib.Core.Path.{refl, sym, ap, ◌∙◌}
use native.Mathlib.Omega.{arith}
use lib.ListN.{length}
use Rattle.base.specs.Same.{same_not, same_turn, same_stop, same_end}
use Rattle.base.proofs.same.same_words.Goals as goal

pub returns-then-a-b : goal.returns-then-a-b
returns-then-a-b c =
    let s = c.args in
    sym (same_not s.a.now s.b.now (λ e. c.if-a-b.true (ap length e)))

pub loop-i-init : goal.loop-i-init
loop-i-init c = (c.if-a-b.false, refl)

pub returns-then-a-i : goal.returns-then-a-i
returns-then-a-i c =
    let g = c.loop-i in
    let s = c.args in
    sym (sym g.invariant.1 ∙ same_stop g.i s.a.now s.b.now (omega arith) (omega arith) c.if-a-i.true)

pub loop-i-preserved : goal.loop-i-preserved
loop-i-preserved c =
    let g = c.loop-i in
    let s = c.args in
    (g.invariant.0, same_turn g.i s.a.now s.b.now (omega arith) (omega arith) c.if-a-i.false ∙ g.invariant.1)

pub returns : goal.returns
returns c =
    let g = c.loop-i in
    let s = c.args in
    sym (sym g.invariant.1 ∙ same_end g.i s.a.now s.b.now (omega arith) (omega arith))
