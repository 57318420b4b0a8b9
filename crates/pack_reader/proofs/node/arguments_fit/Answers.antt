-- `arguments_fit` meets its contract: with each turn the arguments left give the same answer.
use native.Mathlib.Omega.{arith}
use Rattle.pack_reader.specs.Sound.{readable}
use Rattle.pack_reader.specs.Node.{fit_start, argument_headed, input_there, fit_outside, fit_unsorted, fit_turn, fit_end}
use Rattle.pack_reader.proofs.node.arguments_fit.Goals as goal

pub count-nodes-requires : goal.count-nodes-requires
count-nodes-requires c = (c.requires.cataloged.fits, omega arith)

pub loop-i-init : goal.loop-i-init
loop-i-init c = fit_start _ _ _ _ _ _ c.requires

pub word-requires : goal.word-requires
word-requires c = omega (arith, c.requires.room)

pub returns-then-nodes-n : goal.returns-then-nodes-n
returns-then-nodes-n c = fit_outside _ _ _ _ _ _ c.requires c.loop-i.i _ (omega arith) c.word.ensures c.loop-i.invariant (omega (arith, c.count-nodes.ensures))

pub node_sort-requires : goal.node_sort-requires
node_sort-requires c =
    let A = c.requires in
    (readable _ _ _ A.cataloged A.sound, omega (arith, c.count-nodes.ensures), argument_headed _ _ _ _ _ _ A _ (omega (arith, c.count-nodes.ensures)))

pub symbol_input-requires : goal.symbol_input-requires
symbol_input-requires c =
    let A = c.requires in
    (readable _ _ _ A.cataloged A.sound, A.symbol, input_there _ _ _ _ _ _ A _ (omega arith))

pub returns-then-node_sort-symbol_input : goal.returns-then-node_sort-symbol_input
returns-then-node_sort-symbol_input c = fit_unsorted _ _ _ _ _ _ c.requires c.loop-i.i _ (omega arith) c.word.ensures c.loop-i.invariant _ _ c.node_sort.ensures c.symbol_input.ensures c.if-node_sort-symbol_input.true

pub loop-i-preserved : goal.loop-i-preserved
loop-i-preserved c = fit_turn _ _ _ _ _ _ c.requires c.loop-i.i _ (omega arith) c.word.ensures c.loop-i.invariant _ _ c.node_sort.ensures c.symbol_input.ensures (omega (arith, c.count-nodes.ensures)) c.if-node_sort-symbol_input.false

pub returns : goal.returns
returns c = fit_end _ _ _ _ _ _ c.requires c.loop-i.i (omega arith) c.loop-i.invariant
