-- `key_of` meets its contract: with each turn one word more of the key stands there.
use mathlib.Core.Path.{◌≡◌, sym, ap, ◌∙◌}
use Prim.Native.Nat.{ℕ, ◌+◌}
use native.Mathlib.Omega.{arith}
use lib.ListN.{take}
use Rattle.emit_replace.specs.Keys.{keying_first, keying_more, keying_all}
use Rattle.emit_replace.specs.Reading.{args-room}
use Rattle.emit_replace.proofs.put.key_of.Goals as goal

pub arguments-n-requires : goal.arguments-n-requires
arguments-n-requires c = let P = c.requires.0 in (P.readable, P.inside)

pub head-requires : goal.head-requires
head-requires c = let P = c.requires.0 in (rw c.index_end-to.ensures P.readable.stored, P.inside)

pub loop-i-init : goal.loop-i-init
loop-i-init c = keying_first _ _ _ c.args.key.now _ c.requires.2 c.head.ensures

pub argument-a-requires : goal.argument-a-requires
argument-a-requires c = let P = c.requires.0 in (P.readable, P.inside, omega (arith, c.arguments-n.ensures, c.loop-i-test.true))

pub value_of-requires : goal.value_of-requires
value_of-requires c =
    let P = c.requires.0 in
    let h = args-room _ _ _ _ _ P c.loop-i.i (omega (arith, c.arguments-n.ensures, c.loop-i-test.true)) in
    (P.readable.laid, omega (arith, c.argument-a.ensures))

pub bounds-key-i : goal.bounds-key-i
bounds-key-i c = omega (arith, c.loop-i.invariant.long, c.loop-i-test.true, c.arguments-n.ensures, c.requires.1)

pub loop-i-preserved : goal.loop-i-preserved
loop-i-preserved c =
    let g = c.loop-i in
    let e = rw c.argument-a.ensures at c.value_of.ensures in
    keying_more _ _ _ g.i _ _ g.invariant (omega (arith, c.loop-i-test.true, c.arguments-n.ensures, c.requires.1)) e

pub overflow_add-result : goal.overflow_add-result
overflow_add-result c = omega (arith, c.arguments-n.ensures, c.requires.1)

pub returns : goal.returns
returns c =
    let g = c.loop-i in
    let n = c.arguments-n.ensures in
    let i : g.i ≡ c.arguments-n.result = omega (arith, c.loop-i-test.false) in
    record {
      is_key = ap (λ (k : ℕ). take (k + 1) g.key) (sym i) ∙ keying_all _ _ _ g.i g.key g.invariant (i ∙ n) (omega (arith, n, c.requires.1));
      some_words = omega arith;
      few = omega (arith, n, c.requires.1);
    }
