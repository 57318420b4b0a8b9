-- `argument_of` meets its contract.
use mathlib.Core.Path.{ap, ◌∙◌}
use native.Mathlib.Omega.{arith}
use lib.ListN.{length, get_or}
use Rattle.definition.specs.Pack.{Node}
use Rattle.pack_read.specs.Held.{readable}
use Rattle.text_write.specs.Source.{many_ground, many_pattern, ground_node, pattern_node}
use Rattle.text_write.proofs.source.argument_of.Goals as goal

pub node_argument-requires : goal.node_argument-requires
node_argument-requires c =
    let p = c.requires in
    let a = c.args in
    (readable _ _ _ p.0.held, omega (arith, p.1, many_ground p.0.held.pack a.work.now a.words.now a.s c.if-s.true), omega (arith, p.2, ap (λ (n : Node). length n.args) (ground_node p.0.held.pack a.words.now a.s a.x c.if-s.true)))

pub returns-then-s : goal.returns-then-s
returns-then-s c = let a = c.args in λ P R Q. c.node_argument.ensures P R ∙ ap (λ (n : Node). get_or n.args a.i 0) (ground_node P _ _ _ c.if-s.true)

pub argument-requires : goal.argument-requires
argument-requires c =
    let p = c.requires in
    let a = c.args in
    (p.0.stored, omega (arith, p.1, many_pattern p.0.held.pack a.work.now a.words.now a.s c.if-s.false), omega (arith, p.2, ap (λ (n : Node). length n.args) (pattern_node p.0.held.pack a.words.now a.s a.x c.if-s.false)))

pub returns : goal.returns
returns c = let a = c.args in λ P R Q. c.argument.ensures ∙ ap (λ (n : Node). get_or n.args a.i 0) (pattern_node P _ _ _ c.if-s.false)
