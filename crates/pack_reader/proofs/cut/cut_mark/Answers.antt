-- `cut_mark` meets its contract.
use mathlib.Core.Path.{ap}
use Prim.Native.Nat.{ℕ}
use native.Mathlib.Omega.{arith}
use lib.ListN.{get_or}
use Rattle.pack_reader.proofs.cut.cut_mark.Goals as goal

pub overflow_cast-result : goal.overflow_cast-result
overflow_cast-result c = omega (arith, c.shared_slice_known-3-1.given c.mark_place-m.result)

pub returns : goal.returns
returns c = ap (λ (i : ℕ). get_or c.args.work.now i 0) c.mark_place-m.ensures
