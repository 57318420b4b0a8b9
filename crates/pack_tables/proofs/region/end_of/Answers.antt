-- `end_of` meets its contract.
use mathlib.Core.Path.{ap}
use Prim.Native.Nat.{ℕ, ◌+◌}
use Rattle.pack_tables.specs.Place.{end_of}
use Rattle.pack_tables.proofs.region.end_of.Goals as goal

pub returns : goal.returns
unfolding end_of
returns c = ap (λ (n : ℕ). c.args.at + 6 + n) c.u32_at-n.ensures
