-- `intern_nodes` meets its contract: with each turn the rest of the run gives the same whole.
use mathlib.Core.Path.{refl, sym, ◌∙◌, subst}
use mathlib.Core.List.{List}
use native.Mathlib.Omega.{arith}
use Rattle.definition.specs.Pack.{Node}
use Rattle.host_store.specs.Turns.{Halfway, begun, over-filled}
use Rattle.host_store.proofs.intern_nodes.Goals as goal

pub loop-i-init : goal.loop-i-init
loop-i-init c =
    let a = c.args in
    let N = c.new-st.ensures in
    (refl, refl, refl, N.0, subst (λ (s : List Node). Halfway a.from.now a.numbers.now s 0 0) (sym N.1) (begun a.from.now a.numbers.now))

pub intern_one-requires : goal.intern_one-requires
intern_one-requires c = let g = c.loop-i in (g.invariant.3, g.invariant.4, omega arith)

pub overflow_add-i : goal.overflow_add-i
overflow_add-i c = record { fits = omega (arith, c.loop-i.invariant.2) }

pub loop-i-preserved : goal.loop-i-preserved
loop-i-preserved c =
    let g = c.loop-i in
    let k = c.intern_one.auto in
    let T = c.in-Next.ensures in
    (k.index ∙ g.invariant.0, k.words ∙ g.invariant.1, k.numbers ∙ g.invariant.2, T.0, T.1)

pub returns-in-End : goal.returns-in-End
returns-in-End c = c.in-End.ensures

pub returns-in-Full : goal.returns-in-Full
returns-in-Full c = c.in-Full.ensures

pub returns : goal.returns
returns c = let g = c.loop-i in (g.invariant.3, over-filled _ _ _ _ _ g.invariant.4 (omega arith))
