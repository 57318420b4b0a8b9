-- `drop_hyps` meets its contract: with each turn one key more is taken away.
use mathlib.Core.Path.{◌≡◌, sym, ap, subst, ◌∙◌}
use mathlib.Core.List.{List}
use Prim.Native.Nat.{ℕ, ◌+◌, ◌<◌, ◌≤◌}
use native.Mathlib.Omega.{arith}
use lib.ListN.{get_or, length, set, take}
use Rattle.std.proofs.Common.{length-take-le, get_or-take}
use Rattle.emit_maps.specs.Map.{start}
use Rattle.emit_maps.specs.Dropping.{Dropping, dropping_none, dropping_more, dropping_all}
use Rattle.emit_maps.proofs.hyps.drop_hyps.Goals as goal

-- a key among the first n, of which the loop has as many
early : (n : ℕ) (keys : List ℕ) (i : ℕ) → n ≤ length keys → i < length (take n keys) → (i < n) × (get_or (take n keys) i 0 ≡ get_or keys i 0)
early n keys i few l =
    let h : i < n = omega (arith, length-take-le n keys few) in
    (h, get_or-take n keys i 0 h)

pub loop-key-init : goal.loop-key-init
loop-key-init c = dropping_none _ _ _ _

pub place-at-requires : goal.place-at-requires
place-at-requires c =
    let k = early _ _ _ c.requires.1 c.loop-key-test.true in
    (omega arith, omega (arith, k.1, c.requires.2 _ k.0), c.requires.0.small)

pub offset_bounds-work-at : goal.offset_bounds-work-at
offset_bounds-work-at c =
    let k = early _ _ _ c.requires.1 c.loop-key-test.true in
    omega (arith, k.1, c.requires.2 _ k.0, c.place-at.ensures, c.requires.0.small)

pub bounds-work-at : goal.bounds-work-at
bounds-work-at c =
    let k = early _ _ _ c.requires.1 c.loop-key-test.true in
    omega (arith, k.1, c.requires.2 _ k.0, c.place-at.ensures, c.requires.0.within, c.loop-key.invariant.outside.long)

pub loop-key-preserved : goal.loop-key-preserved
loop-key-preserved c =
    let g = c.loop-key in
    let a = c.args in
    let k = early _ _ _ c.requires.1 c.loop-key-test.true in
    subst (λ (i : ℕ). Dropping a.work.now a.m a.keys.now a.n (g.key-index + 1) (set g.work i 0)) (sym (c.place-at.ensures ∙ ap (λ (p : ℕ). start a.m 4 + p) k.1))
    (dropping_more _ _ c.requires.0 _ _ _ _ g.invariant k.0 (c.requires.2 _ k.0))

pub returns : goal.returns
returns c =
    let a = c.args in
    dropping_all _ _ c.requires.0 _ _ _ _ c.loop-key.invariant (omega (arith, c.loop-key-test.false, length-take-le a.n a.keys.now c.requires.1))
