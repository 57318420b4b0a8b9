-- `write_rule_key` meets its contract: with each turn one word more of the key stands there.
use Rattle.class_keys.specs.Writing.{Writing}
use Rattle.class_keys.proofs.key.write_rule_key.Given as goal

abbrev pub invariant-loop-i : goal.invariant-loop-i
invariant-loop-i l = Writing l.pack l.work l.class l.c l.s l.n l.i l.key
