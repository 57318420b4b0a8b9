-- `argument` meets its contract.
use mathlib.Core.Path.{sym, ap, ◌∙◌}
use mathlib.Core.List.{List}
use Prim.Native.Nat.{ℕ}
use native.Mathlib.Omega.{arith}
use lib.ListN.{length, get_or}
use Rattle.emit_replace.specs.Reading.{some_below}
use Rattle.emit_replace.proofs.values.argument.Goals as goal

pub argument-requires : goal.argument-requires
argument-requires c =
    let e = some_below _ _ c.requires.2 in
    (rw c.index_end-to.ensures c.requires.0.stored, c.requires.1, omega (arith, c.requires.2, ap length e))

pub returns : goal.returns
returns c =
    c.argument.ensures ∙ ap (λ (xs : List ℕ). get_or xs c.args.i 0) (sym (some_below _ _ c.requires.2))
