-- `arguments` meets its contract.
use mathlib.Core.Path.{sym, ap, ◌∙◌}
use native.Mathlib.Omega.{arith}
use lib.ListN.{length}
use Rattle.emit_replace.specs.Reading.{none_below, all-below}
use Rattle.emit_replace.proofs.values.arguments.Goals as goal

pub head-requires : goal.head-requires
head-requires c =
    (rw c.index_end-to.ensures c.requires.0.stored, c.requires.1)

pub returns-then-head : goal.returns-then-head
returns-then-head c = sym (ap length (none_below _ (sym c.head.ensures ∙ omega arith)))

pub arity-requires : goal.arity-requires
arity-requires c =
    (rw c.index_end-to.ensures c.requires.0.stored, c.requires.1)

pub returns : goal.returns
returns c = c.arity.ensures ∙ sym (ap length (all-below _ (λ e. omega (arith, c.head.ensures))))
