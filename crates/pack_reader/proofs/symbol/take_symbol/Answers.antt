-- `take_symbol` meets its contract.
use Rattle.std.proofs.lemmas.Result.{err_from_is_err_and}
use native.Mathlib.Omega.{arith}
use Rattle.pack_reader.specs.Taking.{symbols-keyed}
use Rattle.pack_reader.specs.Symbol.{many-symbols, faulty-symbol, name_inside, enter_symbol, new-symbol, old-symbol}
use Rattle.pack_reader.proofs.symbol.take_symbol.Goals as goal

pub count-requires : goal.count-requires
count-requires c = (c.requires.0.cataloged.fits, omega arith)

pub returns-then-count-ge-SYMBOLS : goal.returns-then-count-ge-SYMBOLS
returns-then-count-ge-SYMBOLS c = many-symbols _ _ _ _ _ c.requires.0 c.requires.1 (omega (arith, c.if-count-ge-SYMBOLS.true, c.count.ensures))

pub count-sorts-requires : goal.count-sorts-requires
count-sorts-requires c = (c.requires.0.cataloged.fits, omega arith)

pub overflow_add-at : goal.overflow_add-at
overflow_add-at c =
    let l = name_inside _ _ _ _ _ c.requires.0 c.requires.1 (omega (arith, c.if-count-ge-SYMBOLS.false, c.count.ensures)) c.count-sorts.result c.count-sorts.ensures _ c.in_ok-n.ensures in
    omega (arith, l)

pub enter-requires : goal.enter-requires
enter-requires c =
    (enter_symbol _ _ _ _ _ c.requires.0 c.requires.1 (omega (arith, c.if-count-ge-SYMBOLS.false, c.count.ensures)) c.count-sorts.result c.count-sorts.ensures _ c.in_ok-n.ensures, symbols-keyed)

pub returns-in-New : goal.returns-in-New
returns-in-New c =
    new-symbol _ _ _ _ _ c.requires.0 c.requires.1 (omega (arith, c.if-count-ge-SYMBOLS.false, c.count.ensures)) c.count-sorts.result c.count-sorts.ensures _ c.in_ok-n.ensures _
    c.in-New.ensures

pub returns-in-Old : goal.returns-in-Old
returns-in-Old c =
    old-symbol _ _ _ _ _ c.requires.0 c.requires.1 (omega (arith, c.if-count-ge-SYMBOLS.false, c.count.ensures)) c.count-sorts.result c.count-sorts.ensures _ c.in_ok-n.ensures _
    c.in-Old.ensures

pub returns-in_err-n : goal.returns-in_err-n
returns-in_err-n c =
    let p = err_from_is_err_and c.from_residual.result c.from_residual.ensures.1 in
    rw (p.1, p.2) (faulty-symbol _ _ _ _ _ c.requires.0 c.requires.1 (omega (arith, c.if-count-ge-SYMBOLS.false, c.count.ensures)) c.count-sorts.result c.count-sorts.ensures _ c.in_err-n.ensures)
