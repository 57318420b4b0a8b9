-- `is_left` meets its contract.
use borrow.Author.Tests.{le-ltb}
use mathlib.Core.Path.{sym, ap}
use Prim.Native.Nat.{◌+◌}
use native.Mathlib.Omega.{arith}
use lib.Dec.{ltb}
use lib.ListN.{length, get_or}
use Rattle.definition.specs.Store.{below}
use Rattle.store.specs.Words.{node_with}
use Rattle.term_copy.specs.Passes.{kids-variable, kids-applied}
use Rattle.term_copy.proofs.copy.is_left.Goals as goal

pub returns-then-key : goal.returns-then-key
returns-then-key c = let a = c.args in sym (le-ltb (get_or a.work.now (a.at + 1) 0) (length (below (node_with a.key.now))) (omega (arith, kids-variable a.key.now c.if-key.true)))

pub returns : goal.returns
returns c = let a = c.args in ap (ltb (get_or a.work.now (a.at + 1) 0)) (kids-applied a.key.now c.if-key.false)
