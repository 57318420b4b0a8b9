-- `Store::key_at` meets its contract: what stands where the index says.
use mathlib.Core.Path.{◌∙◌}
use Prim.Native.Nat.{ℕ, ◌+◌}
use native.Mathlib.Omega.{arith}
use lib.ListN.{get_or}
use Rattle.base.specs.Part.{part-lent}
use Rattle.store.specs.Table.{located}
use Rattle.store.proofs.nodes.Store.key_at.Goals as goal

pub offset_bounds-index-i : goal.offset_bounds-index-i
offset_bounds-index-i c = let L = located _ _ _ _ c.requires.0 c.args.i c.requires.1 in omega (arith, L.inside)

pub bounds-index-i : goal.bounds-index-i
bounds-index-i c = (located _ _ _ _ c.requires.0 c.args.i c.requires.1).inside

pub bounds-words-at : goal.bounds-words-at
bounds-words-at c = let L = located _ _ _ _ c.requires.0 c.args.i c.requires.1 in omega (arith, L.ends)

pub slice_bounds-result-end : goal.slice_bounds-result-end
slice_bounds-result-end c = let L = located _ _ _ _ c.requires.0 c.args.i c.requires.1 in omega (arith, L.ends)

pub returns : goal.returns
returns c =
    let a = c.args in
    let at : ℕ = get_or a.index.now a.i 0 in
    let k : ℕ = get_or a.words.now at 0 in
    part-lent (at + 1) (at + 2 + k) (k + 1) a.words.now (omega arith) ∙ (located _ _ _ _ c.requires.0 a.i c.requires.1).key
