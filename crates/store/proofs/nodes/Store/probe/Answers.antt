-- `Store::probe` meets its contract: what the search has passed is taken, and not by the key.
use Prim.Native.Nat.{◌-◌}
use native.Mathlib.Omega.{arith}
use lib.ListN.{get_or}
use Rattle.base.specs.Probe.{passed_none, passed_more}
use Rattle.store.specs.Words.{node_with}
use Rattle.store.specs.Stored.{nodes, node_at}
use Rattle.store.specs.Table.{search_ends, unlike, alike}
use Rattle.store.proofs.nodes.Store.probe.Goals as goal

pub loop-self-init : goal.loop-self-init
loop-self-init c =
    let a = c.args in
    let S = c.requires in
    let P = passed_none a.slots.now (node_at (nodes a.words.now a.self)) (node_with a.key.now) a.h (search_ends _ _ _ _ _ _ S) in
    (P, P.ran.inside)

pub loop-self-preserved : goal.loop-self-preserved
loop-self-preserved c =
    let a = c.args in
    let S = c.requires in
    let g = c.loop-self in
    let P = passed_more a.slots.now (node_at (nodes a.words.now a.self)) (node_with a.key.now) a.h (search_ends _ _ _ _ _ _ S) g.s g.invariant.0 (omega arith)
    (unlike _ _ _ _ _ _ S (node_at (nodes a.words.now a.self) (get_or a.slots.now g.s 0 - 1)) _ c.has.ensures c.if-has.false) in
    (P, P.ran.inside)

pub returns-then-has : goal.returns-then-has
returns-then-has c =
    let a = c.args in
    let g = c.loop-self in
    (g.invariant.1, omega arith, alike _ _ _ _ _ _ c.requires (node_at (nodes a.words.now a.self) (get_or a.slots.now g.s 0 - 1)) _ c.has.ensures c.if-has.true)
