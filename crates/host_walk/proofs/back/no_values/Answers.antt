-- `no_values` meets its contract.
use Prim.Native.Nat.{◌+◌}
use mathlib.Core.Path.{refl}
use native.Mathlib.Omega.{arith}
use Rattle.host_walk.specs.Back.{blank}
use Rattle.host_walk.proofs.back.no_values.Goals as goal

pub shape_of-work : goal.shape_of-work
shape_of-work c = search

pub returns : goal.returns
returns c = let a = c.args in let p = c.requires in let from = a.t.at + c.values_at.result in blank a.work.now a.cells.now a.t a.g p.0 p.1 p.2 from (from + a.g.nodes) (omega (arith, c.values_at.ensures)) refl c.fill.new.self (c.fill.ensures.after (λ y e. e))
