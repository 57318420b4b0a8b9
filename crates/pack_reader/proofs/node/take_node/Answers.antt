-- `take_node` meets its contract.
use native.Mathlib.Omega.{arith}
use Rattle.pack_reader.specs.Taking.{nodes-keyed}
use Rattle.pack_reader.specs.Sound.{readable}
use Rattle.pack_reader.specs.Node.{bad_short, bad_head, few_inputs, bad_length, asks, bad_arguments, enter_node, new-node, old-node}
use mathlib.Core.Bool.{not}
use Rattle.std.proofs.Common.{ap}
use Rattle.pack_reader.proofs.node.take_node.Goals as goal

pub returns-then-body-lt-NODE_ARGUMENTS : goal.returns-then-body-lt-NODE_ARGUMENTS
returns-then-body-lt-NODE_ARGUMENTS c = bad_short _ _ _ _ _ c.requires.0 c.requires.1 c.requires.2 (omega arith)

pub returns-then-count-head : goal.returns-then-count-head
returns-then-count-head c = bad_head _ _ _ _ _ c.requires.0 c.requires.1 c.requires.2 (omega arith) _ c.u32_at-head.ensures (omega (arith, c.count.ensures))

pub symbol_arity-arity-requires : goal.symbol_arity-arity-requires
symbol_arity-arity-requires c = (readable _ _ _ c.requires.0.cataloged c.requires.2, omega (arith, c.count.ensures))

pub overflow_mul-arity : goal.overflow_mul-arity
overflow_mul-arity c = omega (arith, few_inputs _ _ _ _ _ c.requires.0 c.requires.1 c.requires.2 (omega arith) _ c.u32_at-head.ensures (omega (arith, c.count.ensures)) _ c.symbol_arity-arity.ensures)

pub overflow_add-arity : goal.overflow_add-arity
overflow_add-arity c = omega (arith, few_inputs _ _ _ _ _ c.requires.0 c.requires.1 c.requires.2 (omega arith) _ c.u32_at-head.ensures (omega (arith, c.count.ensures)) _ c.symbol_arity-arity.ensures)

pub returns-then-body-arity : goal.returns-then-body-arity
returns-then-body-arity c = bad_length _ _ _ _ _ c.requires.0 c.requires.1 c.requires.2 (omega arith) _ c.u32_at-head.ensures (omega (arith, c.count.ensures)) _ c.symbol_arity-arity.ensures c.if-body-arity.true

pub arguments_fit-requires : goal.arguments_fit-requires
arguments_fit-requires c = asks _ _ _ _ _ c.requires.0 c.requires.1 c.requires.2 (omega arith) _ c.u32_at-head.ensures (omega (arith, c.count.ensures)) _ c.symbol_arity-arity.ensures c.if-body-arity.false

pub returns-then-not-arguments_fit : goal.returns-then-not-arguments_fit
returns-then-not-arguments_fit c = bad_arguments _ _ _ _ _ c.requires.0 c.requires.1 c.requires.2 (omega arith) _ c.u32_at-head.ensures (omega (arith, c.count.ensures)) _ c.symbol_arity-arity.ensures c.if-body-arity.false c.arguments_fit.result c.arguments_fit.ensures (ap not c.if-not-arguments_fit.true)

pub enter-requires : goal.enter-requires
enter-requires c = (enter_node _ _ _ _ _ c.requires.0 c.requires.1 c.requires.2 (omega arith) _ c.u32_at-head.ensures (omega (arith, c.count.ensures)) _ c.symbol_arity-arity.ensures c.if-body-arity.false c.arguments_fit.result c.arguments_fit.ensures (ap not c.if-not-arguments_fit.false), nodes-keyed)

pub returns-in-New : goal.returns-in-New
returns-in-New c = new-node _ _ _ _ _ c.requires.0 c.requires.1 c.requires.2 (omega arith) _ c.u32_at-head.ensures (omega (arith, c.count.ensures)) _ c.symbol_arity-arity.ensures c.if-body-arity.false c.arguments_fit.result c.arguments_fit.ensures (ap not c.if-not-arguments_fit.false) _ c.in-New.ensures

pub returns-in-Old : goal.returns-in-Old
returns-in-Old c = old-node _ _ _ _ _ c.requires.0 c.requires.1 c.requires.2 (omega arith) _ c.u32_at-head.ensures (omega (arith, c.count.ensures)) _ c.symbol_arity-arity.ensures c.if-body-arity.false c.arguments_fit.result c.arguments_fit.ensures (ap not c.if-not-arguments_fit.false) _ c.in-Old.ensures
