-- `step_predicate` meets its contract.
use mathlib.Core.Path.{ap, ◌∙◌}
use Prim.Native.Nat.{ℕ}
use Rattle.definition.specs.Pack.{node_of}
use Rattle.definition.specs.Keys.{predicate_of}
use Rattle.pack_read.specs.Held.{readable}
use Rattle.class_keys.specs.Firsts.{judgment_inside}
use Rattle.class_keys.proofs.cut.step_predicate.Goals as goal

pub step_judgment-n-requires : goal.step_judgment-n-requires
step_judgment-n-requires c = (readable _ _ _ c.requires.0, c.requires.1)

pub node_head-requires : goal.node_head-requires
node_head-requires c = let p = c.requires in (readable _ _ _ p.0, judgment_inside _ _ _ p.0 _ p.1 _ c.step_judgment-n.ensures)

pub returns : goal.returns
unfolding predicate_of
returns c = λ P R Q. c.node_head.ensures P R ∙ ap (λ (n : ℕ). (node_of P n).head) (c.step_judgment-n.ensures P R)
