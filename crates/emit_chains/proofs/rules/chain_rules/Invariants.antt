-- `chain_rules` meets its contract: with each turn one rule more is chained.
use Prim.Native.Nat.{ℕ}
use lib.ListN.{length}
use Rattle.definition.specs.Pack.{Pack, rule_of}
use Rattle.emit_chains.specs.Head.{top_of}
use Rattle.emit_chains.specs.Chaining.{Chaining}
use Rattle.emit_chains.proofs.rules.chain_rules.Given as goal

abbrev many : Pack → ℕ
many P = length P.rules

abbrev key : Pack → ℕ → ℕ
key P r = top_of (rule_of P r).conclusion

abbrev pub invariant-loop-r : goal.invariant-loop-r
invariant-loop-r l = Chaining l.pack l.c l.chains 2 many key l.initial.work l.r l.work
