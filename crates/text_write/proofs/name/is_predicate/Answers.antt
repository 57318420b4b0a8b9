-- `is_predicate` meets its contract.
use mathlib.Core.Path.{sym, ap}
use Prim.Native.Nat.{ℕ}
use native.Mathlib.Omega.{arith}
use lib.Dec.{eqb}
use Rattle.definition.specs.Pack.{prop, Symbol}
use Rattle.text_write.specs.Source.{no_symbol}
use Rattle.text_write.proofs.name.is_predicate.Goals as goal

pub count-requires : goal.count-requires
count-requires c = (c.requires.cataloged.fits, omega arith)

pub returns-then-count-i : goal.returns-then-count-i
returns-then-count-i c = λ P R. ap (λ (x : Symbol). eqb x.output prop) (sym (no_symbol _ _ _ P R _ (omega (arith, c.if-count-i.true, c.count.ensures))))

pub symbol_output-requires : goal.symbol_output-requires
symbol_output-requires c = (c.requires, omega (arith, c.if-count-i.false, c.count.ensures))

pub returns : goal.returns
returns c = λ P R. ap (λ (n : ℕ). eqb n prop) (c.symbol_output.ensures P R)
