-- `is_bare` meets its contract.
use Rattle.pack_read.specs.Held.{readable}
use Rattle.text_write.specs.Source.{nodes_of}
use Rattle.text_write.specs.Nodes.{bare-over, bare-none}
use Rattle.text_write.proofs.node.is_bare.Goals as goal

pub returns-then-arity_of-ne0 : goal.returns-then-arity_of-ne0
returns-then-arity_of-ne0 c = let a = c.args in λ P R Q. bare-over P (nodes_of P a.words.now a.s) a.x a.h _ (c.arity_of.ensures P R Q) c.if-arity_of-ne0.true

pub is_predicate-requires : goal.is_predicate-requires
is_predicate-requires c = readable _ _ _ c.requires.0.held

pub returns : goal.returns
returns c = let a = c.args in λ P R Q. bare-none P (nodes_of P a.words.now a.s) a.x a.h _ (c.arity_of.ensures P R Q) c.if-arity_of-ne0.false _ (c.is_predicate.ensures P R)
