-- `chain_rules` meets its contract: with each turn one rule more is chained.
use Prim.Native.Nat.{ℕ, ◌-◌}
use native.Mathlib.Omega.{arith}
use lib.ListN.{length}
use Rattle.definition.specs.Pack.{Pack, rule_of}
use Rattle.pack_read.specs.Reads.{length-rules}
use Rattle.emit_chains.specs.Head.{top_of}
use Rattle.emit_chains.specs.Chaining.{ready_few, ready_cleared, chaining_none, chaining_more, chaining_all, chaining_outside}
use Rattle.emit_chains.proofs.rules.chain_rules.Goals as goal

abbrev key : Pack → ℕ → ℕ
key P r = top_of (rule_of P r).conclusion

abbrev many : Pack → ℕ
many P = length P.rules

pub clear_chains-requires : goal.clear_chains-requires
clear_chains-requires c = c.requires.1.within

pub count-many-requires : goal.count-many-requires
count-many-requires c =
    let p = c.requires in
    ((ready_cleared _ _ _ 2 many key (λ w. length-rules _ _) _ p.0 p.1 (omega arith) p.3 _ _ c.clear_chains.ensures.frame).held.cataloged.fits, omega arith)

pub loop-r-init : goal.loop-r-init
loop-r-init c =
    let p = c.requires in
    let u = c.clear_chains.ensures in
    chaining_none _ _ _ 2 many key (λ w. length-rules _ _) _ (ready_cleared _ _ _ 2 many key (λ w. length-rules _ _) _ p.0 p.1 (omega arith) p.3 _ _ u.frame) u.empty _ c.count-many.ensures

pub rule_head-head-requires : goal.rule_head-head-requires
rule_head-head-requires c =
    let v = c.loop-r.invariant in
    let H = v.ready.held in
    (H, omega (arith, v.left, length-rules _ _ H.pack H.reads, c.loop-r-test.true))

pub put_keyed-requires : goal.put_keyed-requires
put_keyed-requires c =
    let v = c.loop-r.invariant in (
      v.ready.laid.within,
      omega (arith, v.left, v.ready.room, c.loop-r-test.true),
      omega (arith, v.left, ready_few _ _ _ _ _ v.ready, c.loop-r-test.true),
    )

pub loop-r-preserved : goal.loop-r-preserved
loop-r-preserved c =
    let g = c.loop-r in
    let o = c.rule_head-head in
    let u = c.put_keyed in
    chaining_more _ _ _ 2 many key (λ w. length-rules _ _) _ _ _ g.invariant (g.r - 1) (omega (arith, c.loop-r-test.true)) o.result o.ensures u.new.work u.ensures.put u.ensures.frame

pub returns : goal.returns
returns c = let v = c.loop-r.invariant in record { chained = chaining_all _ _ _ 2 many key (λ w. length-rules _ _) _ _ _ v (omega (arith, c.loop-r-test.false)); frame = chaining_outside _ _ _ 2 many key (λ w. length-rules _ _) _ _ _ v _ c.clear_chains.ensures.frame }
