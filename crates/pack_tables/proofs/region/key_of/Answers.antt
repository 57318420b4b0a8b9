-- `key_of` meets its contract.
use mathlib.Core.Path.{ap}
use Prim.Native.Nat.{ℕ, ◌+◌, ◌*◌, ◌-◌}
use native.Mathlib.Omega.{arith}
use lib.ListN.{get_or, take, drop}
use Rattle.base.specs.Part.{part}
use Rattle.pack_tables.specs.Place.{key_at}
use Rattle.pack_tables.proofs.region.key_of.Goals as goal

pub overflow_cast-at : goal.overflow_cast-at
overflow_cast-at c = omega (arith, c.type_inv.region (2 * c.args.i + 1))

pub overflow_cast-from : goal.overflow_cast-from
overflow_cast-from c = omega (arith, c.type_inv.region (2 * c.args.i + 2))

pub end_of-end-requires : goal.end_of-end-requires
end_of-end-requires c = let F = c.requires.0.framed c.args.i c.requires.1 in omega (arith, F.starts, F.ends, F.whole)

pub slice_bounds-result-count : goal.slice_bounds-result-count
slice_bounds-result-count c = let F = c.requires.0.framed c.args.i c.requires.1 in omega (arith, F.ends, c.end_of-end.ensures)

pub slice_bounds-result-start : goal.slice_bounds-result-start
slice_bounds-result-start c = let F = c.requires.0.framed c.args.i c.requires.1 in omega (arith, F.ends, c.end_of-end.ensures)

pub slice_bounds-result-end : goal.slice_bounds-result-end
slice_bounds-result-end c = let F = c.requires.0.framed c.args.i c.requires.1 in omega (arith, F.whole, c.end_of-end.ensures)

pub returns : goal.returns
unfolding key_at part
returns c =
    let a = c.args in
    let from : ℕ = get_or a.region.now (2 * a.i + 2) 0 in
    ap (λ (e : ℕ). take (e - from) (drop from a.pack.now)) c.end_of-end.ensures
