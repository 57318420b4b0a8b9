-- `Graph::find` meets its contract: with each turn the walk that is left is shorter, and no root has changed.
use mathlib.Core.Path.{◌≡◌, sym, ◌∙◌}
use Prim.Native.Nat.{suc, ◌+◌, ◌*◌, ◌-◌}
use native.Mathlib.Omega.{arith}
use lib.ListN.{length-set}
use Rattle.graph.specs.Cells.{link_word}
use Rattle.graph.specs.Links.{found_at, next_there, found_next, seeking_on, seeking_less}
use Rattle.graph.proofs.graph.Graph.find.Goals as goal

pub returns-then-up-eq0 : goal.returns-then-up-eq0
returns-then-up-eq0 c = found_at _ _ _ _ _ _ c.loop-self.invariant.1 c.requires.0 (sym c.link-up.ensures ∙ c.if-up-eq0.true)

pub link-upper-requires : goal.link-upper-requires
link-upper-requires c =
    let K = c.loop-self.invariant.1 in
    let H = c.requires.0 in
    let u = c.link-up.result in
    let e : link_word c.loop-self.table c.loop-self.at ≡ suc (u - 1) = omega (arith, c.link-up.ensures, c.if-up-eq0.false) in
    ((K.same H.0 H.1).0.laid, next_there _ _ _ _ _ _ K H (u - 1) e)

pub returns-then-upper-eq0 : goal.returns-then-upper-eq0
returns-then-upper-eq0 c =
    let u = c.link-up.result in
    let e : link_word c.loop-self.table c.loop-self.at ≡ suc (u - 1) = omega (arith, c.link-up.ensures, c.if-up-eq0.false) in
    found_next _ _ _ _ _ _ c.loop-self.invariant.1 c.requires.0 (u - 1) e (sym c.link-upper.ensures ∙ c.if-upper-eq0.true)

pub loop-self-smaller : goal.loop-self-smaller
loop-self-smaller c =
    let u = c.link-up.result in
    let w = c.link-upper.result in
    let e : link_word c.loop-self.table c.loop-self.at ≡ suc (u - 1) = omega (arith, c.link-up.ensures, c.if-up-eq0.false) in
    let f : link_word c.loop-self.table (u - 1) ≡ suc (w - 1) = omega (arith, c.link-upper.ensures, c.if-upper-eq0.false) in
    let s : suc (w - 1) ≡ w = omega (arith, c.if-upper-eq0.false) in
    let d = seeking_less _ _ _ _ _ _ c.loop-self.invariant.1 c.requires.0 (u - 1) e (w - 1) f in
    rw s at d

pub loop-self-preserved : goal.loop-self-preserved
loop-self-preserved c =
    let u = c.link-up.result in
    let w = c.link-upper.result in
    let e : link_word c.loop-self.table c.loop-self.at ≡ suc (u - 1) = omega (arith, c.link-up.ensures, c.if-up-eq0.false) in
    let f : link_word c.loop-self.table (u - 1) ≡ suc (w - 1) = omega (arith, c.link-upper.ensures, c.if-upper-eq0.false) in
    let s : suc (w - 1) ≡ w = omega (arith, c.if-upper-eq0.false) in
    (length-set c.loop-self.table (2 * c.loop-self.at + 1) w ∙ c.loop-self.invariant.0, rw s at (seeking_on _ _ _ _ _ _ c.loop-self.invariant.1 c.requires.0 (u - 1) e (w - 1) f))
