-- `take_word` meets its contract.
use native.Mathlib.Omega.{arith}
use Rattle.base.specs.Outside.{outside_none}
use Rattle.base.specs.Part.{part}
use Rattle.pack_read.specs.Held.{readable}
use Rattle.term_instantiate.specs.Building.{asked-word}
use Rattle.term_instantiate.specs.Turns.{lent_outside, taking_variable, taking_symbol, taking_over, variable-room, built-variable, built-symbol, full-symbol}
use Rattle.term_instantiate.proofs.terms.take_word.Goals as goal

pub rule_word-w-requires : goal.rule_word-w-requires
rule_word-w-requires c =
    let T = c.requires in
    (readable _ _ _ T.held, omega (arith, T.spells.rule, T.held.reads.rules.many), T.spells.many, asked-word _ _ _ _ _ _ _ _ _ _ T)

pub bounds-env-k : goal.bounds-env-k
bounds-env-k c = omega (arith, taking_variable _ _ _ _ _ _ _ _ _ _ _ c.requires c.rule_word-w.ensures c.if-w-ge-VAR.true)

pub overflow_sub-stack : goal.overflow_sub-stack
overflow_sub-stack c = omega (arith, taking_variable _ _ _ _ _ _ _ _ _ _ _ c.requires c.rule_word-w.ensures c.if-w-ge-VAR.true)

pub overflow_sub-result : goal.overflow_sub-result
overflow_sub-result c = omega (arith, taking_variable _ _ _ _ _ _ _ _ _ _ _ c.requires c.rule_word-w.ensures c.if-w-ge-VAR.true)

pub returns-then-w-ge-VAR : goal.returns-then-w-ge-VAR
returns-then-w-ge-VAR c =
    let T = c.requires in (
      outside_none _ _ _,
      λ P R Q t from to j Sp e lj h B.
          let word = c.rule_word-w.ensures P R (omega (arith, e, lj, Sp.long, Sp.within)) in
          let room = variable-room P Q.few _ _ from to _ j _ t Sp e lj word _ h _ _ _ _ _ _ T.stack_long B c.if-w-ge-VAR.true in
          built-variable P Q.few _ _ from to _ j _ t Sp e lj word _ h _ _ _ _ _ _ T.stack_long B c.if-w-ge-VAR.true (omega (arith, room.2, Sp.many, T.env_long)),
    )

pub symbol_arity-n-requires : goal.symbol_arity-n-requires
symbol_arity-n-requires c = (readable _ _ _ c.requires.held, taking_symbol _ _ _ _ _ _ _ _ _ _ _ c.requires c.rule_word-w.ensures c.if-w-ge-VAR.false)

pub overflow_add-last : goal.overflow_add-last
overflow_add-last c = omega (arith, taking_over _ _ _ _ _ _ _ _ _ _ _ c.requires c.rule_word-w.ensures c.if-w-ge-VAR.false _ c.symbol_arity-n.ensures)

pub slice_bounds-push-end-2 : goal.slice_bounds-push-end-2
slice_bounds-push-end-2 c = omega (arith, taking_over _ _ _ _ _ _ _ _ _ _ _ c.requires c.rule_word-w.ensures c.if-w-ge-VAR.false _ c.symbol_arity-n.ensures, c.requires.stack_long)

pub push-requires : goal.push-requires
unfolding part
push-requires c = c.requires.built.shows.laid

pub overflow_sub-stack-2 : goal.overflow_sub-stack-2
overflow_sub-stack-2 c = omega (arith, taking_over _ _ _ _ _ _ _ _ _ _ _ c.requires c.rule_word-w.ensures c.if-w-ge-VAR.false _ c.symbol_arity-n.ensures)

pub overflow_sub-result-2 : goal.overflow_sub-result-2
overflow_sub-result-2 c = omega (arith, taking_over _ _ _ _ _ _ _ _ _ _ _ c.requires c.rule_word-w.ensures c.if-w-ge-VAR.false _ c.symbol_arity-n.ensures)

pub returns : goal.returns
unfolding part
returns c =
    let T = c.requires in
    let M = c.in_ok-x.ensures in (
      lent_outside _ _ _ _ _ T.room M.1,
      λ P R Q t from to j Sp e lj h B.
          let word = c.rule_word-w.ensures P R (omega (arith, e, lj, Sp.long, Sp.within)) in
          built-symbol P Q.few _ _ from to _ j _ t Sp e lj word _ h _ _ _ _ _ _ T.stack_long B c.if-w-ge-VAR.false _ (c.symbol_arity-n.ensures P R) _ _ _ T.room _ _ M,
    )

pub returns-in_err-x : goal.returns-in_err-x
unfolding part
returns-in_err-x c =
    let T = c.requires in
    let M = c.in_err-x.ensures in
    rw c.from_residual.ensures (λ P R Q t from to j Sp e lj h B.
    let word = c.rule_word-w.ensures P R (omega (arith, e, lj, Sp.long, Sp.within)) in
    full-symbol P Q.few _ _ from to _ j _ t Sp e lj word _ h _ _ _ _ _ _ T.stack_long B c.if-w-ge-VAR.false _ (c.symbol_arity-n.ensures P R) c.push.new.cells c.push.new.table M)
