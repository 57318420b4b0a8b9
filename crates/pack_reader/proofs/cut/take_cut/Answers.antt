-- `take_cut` meets its contract.
use native.Mathlib.Omega.{arith}
use Rattle.pack_reader.specs.Taking.{cuts_unkeyed}
use Rattle.pack_reader.specs.Sound.{readable}
use Rattle.pack_tables.specs.Catalog.{records_few}
use Rattle.pack_reader.specs.Cut.{count_small, short_cut, symbolless_cut, constructor_cut, broken_cut, outside_cut, second-cut, push-cut, place_there, new-cut}
use mathlib.Core.Bool.{not}
use Rattle.std.proofs.Common.{ap}
use Rattle.pack_reader.proofs.cut.take_cut.Goals as goal

pub returns-then-body-lt-CUT_OUTPUTS : goal.returns-then-body-lt-CUT_OUTPUTS
returns-then-body-lt-CUT_OUTPUTS c =
    short_cut _ _ _ _ _ c.requires.0 c.requires.1 c.requires.3 c.if-body-lt-CUT_OUTPUTS.true

pub returns-then-count-predicate : goal.returns-then-count-predicate
returns-then-count-predicate c =
    symbolless_cut _ _ _ _ _ c.requires.0 c.requires.1 c.requires.3 (omega (arith, c.if-body-lt-CUT_OUTPUTS.false)) _ c.u32_at-predicate.ensures (omega (arith, c.if-count-predicate.true, c.count.ensures))

pub symbol_output-requires : goal.symbol_output-requires
symbol_output-requires c =
    (readable _ _ _ c.requires.0.cataloged c.requires.2, omega (arith, c.if-count-predicate.false, c.count.ensures))

pub returns-then-symbol_output : goal.returns-then-symbol_output
returns-then-symbol_output c =
    constructor_cut _ _ _ _ _ c.requires.0 c.requires.1 c.requires.3 (omega (arith, c.if-body-lt-CUT_OUTPUTS.false)) _ c.u32_at-predicate.ensures (omega (arith, c.if-count-predicate.false, c.count.ensures)) _ c.symbol_output.ensures c.if-symbol_output.true

pub returns-then-body-positions : goal.returns-then-body-positions
returns-then-body-positions c =
    broken_cut _ _ _ _ _ c.requires.0 c.requires.1 c.requires.3 (omega (arith, c.if-body-lt-CUT_OUTPUTS.false)) _ c.u32_at-predicate.ensures (omega (arith, c.if-count-predicate.false, c.count.ensures)) _ c.symbol_output.ensures c.if-symbol_output.false c.if-body-positions.true

pub symbol_arity-arity-requires : goal.symbol_arity-arity-requires
symbol_arity-arity-requires c =
    (readable _ _ _ c.requires.0.cataloged c.requires.2, omega (arith, c.if-count-predicate.false, c.count.ensures))

pub returns-then-not-all_below : goal.returns-then-not-all_below
returns-then-not-all_below c =
    outside_cut _ _ _ _ _ c.requires.0 c.requires.1 c.requires.3 (omega (arith, c.if-body-lt-CUT_OUTPUTS.false)) _ c.u32_at-predicate.ensures (omega (arith, c.if-count-predicate.false, c.count.ensures)) _ c.symbol_output.ensures c.if-symbol_output.false c.if-body-positions.false _ c.symbol_arity-arity.ensures c.all_below.result c.all_below.ensures (ap not c.if-not-all_below.true)

pub cut_mark-requires : goal.cut_mark-requires
cut_mark-requires c =
    (c.requires.0.cataloged, c.requires.3, omega (arith, c.if-count-predicate.false, c.count.ensures, records_few _ _ _ 1 c.requires.0.cataloged (omega arith)))

pub returns-then-cut_mark-ne0 : goal.returns-then-cut_mark-ne0
returns-then-cut_mark-ne0 c =
    second-cut _ _ _ _ _ c.requires.0 c.requires.1 c.requires.3 (omega (arith, c.if-body-lt-CUT_OUTPUTS.false)) _ c.u32_at-predicate.ensures (omega (arith, c.if-count-predicate.false, c.count.ensures)) _ c.symbol_output.ensures c.if-symbol_output.false c.if-body-positions.false _ c.symbol_arity-arity.ensures c.all_below.result c.all_below.ensures (ap not c.if-not-all_below.false) _ c.cut_mark.ensures c.if-cut_mark-ne0.true

pub push-requires : goal.push-requires
push-requires c =
    (push-cut _ _ _ _ _ c.requires.0 c.requires.1 c.requires.3 (omega (arith, c.if-body-lt-CUT_OUTPUTS.false)) _ c.u32_at-predicate.ensures (omega (arith, c.if-count-predicate.false, c.count.ensures)) _ c.symbol_output.ensures c.if-symbol_output.false c.if-body-positions.false _ c.symbol_arity-arity.ensures c.all_below.result c.all_below.ensures (ap not c.if-not-all_below.false) _ c.cut_mark.ensures c.if-cut_mark-ne0.false, cuts_unkeyed)

pub mark_place-m-requires : goal.mark_place-m-requires
mark_place-m-requires c =
    place_there _ _ _ _ _ c.requires.0 c.requires.1 c.requires.3 (omega (arith, c.if-body-lt-CUT_OUTPUTS.false)) _ c.u32_at-predicate.ensures (omega (arith, c.if-count-predicate.false, c.count.ensures)) _ c.symbol_output.ensures c.if-symbol_output.false c.if-body-positions.false _ c.symbol_arity-arity.ensures c.all_below.result c.all_below.ensures (ap not c.if-not-all_below.false) _ c.cut_mark.ensures c.if-cut_mark-ne0.false _ c.push.ensures

pub overflow_cast-work : goal.overflow_cast-work
overflow_cast-work c = omega (arith, count_small _ _ _ _ _ c.push.ensures.cataloged c.count-2.ensures (omega arith))

pub offset_bounds-work-m : goal.offset_bounds-work-m
offset_bounds-work-m c =
    let p = place_there _ _ _ _ _ c.requires.0 c.requires.1 c.requires.3 (omega (arith, c.if-body-lt-CUT_OUTPUTS.false)) _ c.u32_at-predicate.ensures (omega (arith, c.if-count-predicate.false, c.count.ensures)) _ c.symbol_output.ensures c.if-symbol_output.false c.if-body-positions.false _ c.symbol_arity-arity.ensures c.all_below.result c.all_below.ensures (ap not c.if-not-all_below.false) _ c.cut_mark.ensures c.if-cut_mark-ne0.false _ c.push.ensures in
    omega (arith, c.mark_place-m.ensures, p.1, p.2)

pub bounds-work-m : goal.bounds-work-m
bounds-work-m c =
    let p = place_there _ _ _ _ _ c.requires.0 c.requires.1 c.requires.3 (omega (arith, c.if-body-lt-CUT_OUTPUTS.false)) _ c.u32_at-predicate.ensures (omega (arith, c.if-count-predicate.false, c.count.ensures)) _ c.symbol_output.ensures c.if-symbol_output.false c.if-body-positions.false _ c.symbol_arity-arity.ensures c.all_below.result c.all_below.ensures (ap not c.if-not-all_below.false) _ c.cut_mark.ensures c.if-cut_mark-ne0.false _ c.push.ensures in
    omega (arith, c.mark_place-m.ensures, p.1, p.2)

pub returns : goal.returns
returns c =
    new-cut _ _ _ _ _ c.requires.0 c.requires.1 c.requires.3 (omega (arith, c.if-body-lt-CUT_OUTPUTS.false)) _ c.u32_at-predicate.ensures (omega (arith, c.if-count-predicate.false, c.count.ensures)) _ c.symbol_output.ensures c.if-symbol_output.false c.if-body-positions.false _ c.symbol_arity-arity.ensures c.all_below.result c.all_below.ensures (ap not c.if-not-all_below.false) _ c.cut_mark.ensures c.if-cut_mark-ne0.false _ c.push.ensures _ c.mark_place-m.ensures _ c.count-2.ensures
