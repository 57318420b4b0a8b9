-- `place` meets its contract.
use native.Mathlib.Omega.{arith}
use Rattle.emit_maps.specs.Map.{word-within}
use Rattle.emit_maps.proofs.maps.place.Goals as goal

pub overflow_mul-result : goal.overflow_mul-result
overflow_mul-result c =
    omega (arith, c.requires.2, word-within c.args.m 5 c.args.map c.args.p c.requires.0 c.requires.1)

pub overflow_add-result : goal.overflow_add-result
overflow_add-result c =
    omega (arith, c.requires.2, word-within c.args.m 5 c.args.map c.args.p c.requires.0 c.requires.1)

pub overflow_add-result-2 : goal.overflow_add-result-2
overflow_add-result-2 c =
    omega (arith, c.requires.2, word-within c.args.m 5 c.args.map c.args.p c.requires.0 c.requires.1)
