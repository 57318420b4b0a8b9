-- `next_sort` meets its contract.
use mathlib.Core.Path.{◌≡◌, refl}
use Prim.Native.Nat.{ℕ, ◌+◌, ◌*◌, ◌-◌}
use native.Mathlib.Omega.{arith}
use Rattle.pack_read.specs.Says.{arity_read}
use Rattle.pack_reader.specs.Reading.{no_more, a_judgment, last_argument, an_argument}
use Rattle.pack_reader.proofs.terms.next_sort.Goals as goal

pub returns-then-left-eq0 : goal.returns-then-left-eq0
returns-then-left-eq0 c = no_more _ _ _ c.args.p c.requires.1 c.if-n-eq0.true c.if-left-eq0.true

pub returns-then-n-eq0 : goal.returns-then-n-eq0
returns-then-n-eq0 c = a_judgment _ _ _ _ c.requires.1 _ refl refl refl c.if-n-eq0.true (omega arith)

pub overflow_cast-h : goal.overflow_cast-h
overflow_cast-h c = omega (arith, c.slice_known-2-1.given (2 * (c.args.p.frames - 1)))

pub overflow_cast-i : goal.overflow_cast-i
overflow_cast-i c = omega (arith, c.slice_known-3-1.given (2 * (c.args.p.frames - 1) + 1))

pub symbol_input-s-requires : goal.symbol_input-s-requires
symbol_input-s-requires c =
    let R = c.requires.0 in
    let S = c.requires.1 in
    let n : ℕ = c.args.p.frames - 1 in
    let l = S.symbol n (omega arith) in
    (R, l, omega (arith, S.next n (omega arith), arity_read _ _ R.pack R.reads _ l))

pub symbol_arity-arity-requires : goal.symbol_arity-arity-requires
symbol_arity-arity-requires c = (c.requires.0, c.requires.1.symbol (c.args.p.frames - 1) (omega arith))

pub overflow_add-i-2 : goal.overflow_add-i-2
overflow_add-i-2 c = omega (arith, c.slice_known-3-1.given (2 * (c.args.p.frames - 1) + 1))

pub returns-then-arity-i : goal.returns-then-arity-i
returns-then-arity-i c =
    let n : ℕ = c.args.p.frames - 1 in
    let e : c.args.p.frames ≡ n + 1 = omega arith in
    last_argument _ _ _ _ c.requires.1 n e _ _ c.symbol_arity-arity.result refl refl refl refl c.symbol_input-s.ensures c.symbol_arity-arity.ensures (omega arith)

pub overflow_cast-frames : goal.overflow_cast-frames
overflow_cast-frames c =
    let R = c.requires.0 in
    let n : ℕ = c.args.p.frames - 1 in
    let l = c.requires.1.symbol n (omega arith) in
    omega (arith, c.symbol_arity-arity.ensures R.pack R.reads, arity_read _ _ R.pack R.reads _ l, (R.reads.symbols.form _ l).2)

pub overflow_add-frames : goal.overflow_add-frames
overflow_add-frames c =
    let R = c.requires.0 in
    let n : ℕ = c.args.p.frames - 1 in
    let l = c.requires.1.symbol n (omega arith) in
    omega (arith, c.symbol_arity-arity.ensures R.pack R.reads, arity_read _ _ R.pack R.reads _ l, (R.reads.symbols.form _ l).2)

pub returns : goal.returns
returns c =
    let n : ℕ = c.args.p.frames - 1 in
    let e : c.args.p.frames ≡ n + 1 = omega arith in
    an_argument _ _ _ _ c.requires.1 n e _ c.symbol_arity-arity.result c.symbol_input-s.ensures c.symbol_arity-arity.ensures c.requires.0.pack c.requires.0.reads (omega arith)
