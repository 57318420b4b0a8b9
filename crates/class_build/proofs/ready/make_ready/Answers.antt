-- `make_ready` meets its contract.
use native.Mathlib.Omega.{arith}
use Rattle.class_build.specs.Ready.{ready_short, ready_roomy, ready_keyable, ready_indexable, ready_on}
use Rattle.class_build.proofs.ready.make_ready.Goals as goal

pub returns-then-class-count : goal.returns-then-class-count
returns-then-class-count c = ready_short _ _ _ _ _ _ c.requires (omega (arith, c.count.ensures, c.if-class-count.true))

pub layout-l-requires : goal.layout-l-requires
layout-l-requires c = ready_roomy _ _ c.args.class.now _ _ _ c.requires _ _ c.keying-k.ensures c.count-nodes.ensures

pub key_steps-counts-requires : goal.key_steps-counts-requires
key_steps-counts-requires c = ready_keyable _ _ _ _ _ _ c.requires _ _ _ c.keying-k.ensures c.count-nodes.ensures c.layout-l.ensures (omega (arith, c.count.ensures, c.if-class-count.false))

pub begin_store-store-requires : goal.begin_store-store-requires
begin_store-store-requires c = ready_indexable _ _ c.args.class.now _ _ _ c.requires _ _ _ c.keying-k.ensures c.count-nodes.ensures c.layout-l.ensures (omega (arith, c.count.ensures, c.if-class-count.false)) _ c.key_steps-counts.auto.work

pub returns : goal.returns
returns c = let keyed = c.key_steps-counts in ready_on _ _ _ _ _ _ c.requires _ _ _ c.keying-k.ensures c.count-nodes.ensures c.layout-l.ensures (omega (arith, c.count.ensures, c.if-class-count.false)) _ _ _ _ _ _ _ keyed.ensures.keyed keyed.ensures.frame keyed.ensures.classes c.begin_store-store.ensures c.begin-memo.ensures
