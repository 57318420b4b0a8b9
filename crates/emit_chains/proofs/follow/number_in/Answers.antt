-- `number_in` meets its contract.
use mathlib.Core.Path.{sym}
use Prim.Native.Nat.{◌-◌}
use native.Mathlib.Omega.{arith}
use Rattle.emit_chains.specs.Follow.{number_in_law, no_number_in}
use Rattle.emit_chains.proofs.follow.number_in.Goals as goal

pub returns-then-word-eq0 : goal.returns-then-word-eq0
returns-then-word-eq0 c = sym (no_number_in c.args.word (omega arith))

pub returns : goal.returns
returns c = sym (number_in_law c.args.word (c.args.word - 1) (omega arith))
