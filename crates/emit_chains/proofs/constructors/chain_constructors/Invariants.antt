-- `chain_constructors` meets its contract: with each turn one symbol more is chained.
use Prim.Native.Nat.{ℕ}
use lib.ListN.{length}
use Rattle.definition.specs.Pack.{Pack, symbol_of}
use Rattle.emit_chains.specs.Chaining.{Chaining}
use Rattle.emit_chains.proofs.constructors.chain_constructors.Given as goal

abbrev many : Pack → ℕ
many P = length P.symbols

abbrev key : Pack → ℕ → ℕ
key P h = (symbol_of P h).output

abbrev pub invariant-loop-h : goal.invariant-loop-h
invariant-loop-h l = Chaining l.pack l.c l.chains 1 many key l.initial.work l.h l.work
