-- `chain_constructors` meets its contract: with each turn one symbol more is chained.
use Prim.Native.Nat.{ℕ, ◌-◌}
use native.Mathlib.Omega.{arith}
use lib.ListN.{length}
use Rattle.definition.specs.Pack.{Pack, symbol_of}
use Rattle.pack_read.specs.Held.{readable}
use Rattle.pack_read.specs.Reads.{length_symbols}
use Rattle.emit_chains.specs.Chaining.{ready_few, ready_cleared, chaining_none, chaining_more, chaining_all, chaining_outside}
use Rattle.emit_chains.proofs.constructors.chain_constructors.Goals as goal

abbrev key : Pack → ℕ → ℕ
key P h = (symbol_of P h).output

abbrev many : Pack → ℕ
many P = length P.symbols

pub clear_chains-requires : goal.clear_chains-requires
clear_chains-requires c = c.requires.1.within

pub count-many-requires : goal.count-many-requires
count-many-requires c =
    let p = c.requires in
    ((ready_cleared _ _ _ 1 many key (λ w. length_symbols _ _) _ p.0 p.1 (omega arith) p.3 _ _ c.clear_chains.ensures.frame).held.cataloged.fits, omega arith)

pub loop-h-init : goal.loop-h-init
loop-h-init c =
    let p = c.requires in
    let u = c.clear_chains.ensures in
    chaining_none _ _ _ 1 many key (λ w. length_symbols _ _) _ (ready_cleared _ _ _ 1 many key (λ w. length_symbols _ _) _ p.0 p.1 (omega arith) p.3 _ _ u.frame) u.empty _ c.count-many.ensures

pub symbol_output-output-requires : goal.symbol_output-output-requires
symbol_output-output-requires c =
    let v = c.loop-h.invariant in
    let H = v.ready.held in
    (readable _ _ _ H, omega (arith, v.left, c.loop-h-test.true))

pub put_keyed-requires : goal.put_keyed-requires
put_keyed-requires c =
    let v = c.loop-h.invariant in (
      v.ready.laid.within,
      omega (arith, v.left, v.ready.room, c.loop-h-test.true),
      omega (arith, v.left, ready_few _ _ _ _ _ v.ready, c.loop-h-test.true),
    )

pub loop-h-preserved : goal.loop-h-preserved
loop-h-preserved c =
    let g = c.loop-h in
    let o = c.symbol_output-output in
    let u = c.put_keyed in
    chaining_more _ _ _ 1 many key (λ w. length_symbols _ _) _ _ _ g.invariant (g.h - 1) (omega (arith, c.loop-h-test.true)) o.result (λ P R q. o.ensures P R) u.new.work u.ensures.put u.ensures.frame

pub returns : goal.returns
returns c = let v = c.loop-h.invariant in record { chained = chaining_all _ _ _ 1 many key (λ w. length_symbols _ _) _ _ _ v (omega (arith, c.loop-h-test.false)); frame = chaining_outside _ _ _ 1 many key (λ w. length_symbols _ _) _ _ _ v _ c.clear_chains.ensures.frame }
