-- `head_of` meets its contract.
use mathlib.Core.Path.{ap, ◌∙◌}
use native.Mathlib.Omega.{arith}
use Rattle.definition.specs.Pack.{Node}
use Rattle.pack_read.specs.Held.{readable}
use Rattle.text_write.specs.Source.{many_ground, many_pattern, ground_node, pattern_node}
use Rattle.text_write.proofs.source.head_of.Goals as goal

pub node_head-requires : goal.node_head-requires
node_head-requires c = let p = c.requires in (readable _ _ _ p.0.held, omega (arith, p.1, many_ground p.0.held.pack c.args.work.now c.args.words.now c.args.s c.if-s.true))

pub returns-then-s : goal.returns-then-s
returns-then-s c = λ P R Q. c.node_head.ensures P R ∙ ap (λ (n : Node). n.head) (ground_node P _ _ _ c.if-s.true)

pub head-requires : goal.head-requires
head-requires c = let p = c.requires in (p.0.stored, omega (arith, p.1, many_pattern p.0.held.pack c.args.work.now c.args.words.now c.args.s c.if-s.false))

pub returns : goal.returns
returns c = λ P R Q. c.head.ensures ∙ ap (λ (n : Node). n.head) (pattern_node P _ _ _ c.if-s.false)
