-- `terms_behind` meets its contract.
use native.Mathlib.Omega.{arith}
use Rattle.pack_read.specs.Reads.{length_symbols}
use Rattle.pack_read.specs.Held.{readable}
use Rattle.pack_read.specs.Clause.{follows, alone}
use Rattle.pack_read.proofs.rule.terms_behind.Goals as goal

pub symbol_arity-requires : goal.symbol_arity-requires
symbol_arity-requires c =
    let p = c.requires in
    (readable _ _ _ p.0, omega (arith, p.1 c.if-w-lt-VAR.true, length_symbols _ _ p.0.pack p.0.reads))

pub returns-then-w-lt-VAR : goal.returns-then-w-lt-VAR
returns-then-w-lt-VAR c = λ P R Q. follows c.if-w-lt-VAR.true (c.symbol_arity.ensures P R)

pub returns-else-w-lt-VAR : goal.returns-else-w-lt-VAR
returns-else-w-lt-VAR c = λ P R Q. alone (omega (arith, c.if-w-lt-VAR.false)) (omega arith)
