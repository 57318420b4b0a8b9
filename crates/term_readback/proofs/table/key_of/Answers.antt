-- `key_of` meets its contract: with each turn one word more of the key stands there.
use Rattle.term_readback.specs.Keys.{keying_first, keying_arguing, keying_there, keying_fits, keying_said, keying_more, keying_all}
use native.Mathlib.Omega.{arith}
use Rattle.term_readback.proofs.table.key_of.Goals as goal

pub loop-i-init : goal.loop-i-init
loop-i-init c = let p = c.requires in keying_first _ _ _ _ _ p.0 _ c.arity-k.ensures c.args.key.now p.1 _ c.head.ensures

pub argument_root-r-requires : goal.argument_root-r-requires
argument_root-r-requires c = keying_arguing _ _ _ _ _ c.requires.0 _ _ _ _ c.loop-i.invariant c.loop-i-test.true

pub word_at-requires : goal.word_at-requires
word_at-requires c = rw c.patterns_at-patterns.ensures (keying_there _ _ _ _ _ c.requires.0 _ _ _ _ c.loop-i.invariant c.loop-i-test.true _ _ c.argument_root-r.ensures, keying_fits _ _ _ _ _ c.requires.0 _ _ _ _ c.loop-i.invariant c.loop-i-test.true _ _ c.argument_root-r.ensures)

pub overflow_sub-key : goal.overflow_sub-key
overflow_sub-key c = keying_said _ _ _ _ _ c.requires.0 _ _ _ _ c.loop-i.invariant c.loop-i-test.true _ _ c.argument_root-r.ensures _ (rw c.patterns_at-patterns.ensures at c.word_at.ensures)

pub loop-i-preserved : goal.loop-i-preserved
loop-i-preserved c = keying_more _ _ _ _ _ c.requires.0 _ _ _ _ c.loop-i.invariant c.loop-i-test.true _ _ c.argument_root-r.ensures _ (rw c.patterns_at-patterns.ensures at c.word_at.ensures)

pub returns : goal.returns
returns c = keying_all _ _ _ _ _ c.requires.0 _ _ _ _ c.loop-i.invariant (omega arith)
