-- `name_of` meets its contract.
use native.Mathlib.Omega.{arith}
use Rattle.pack_tables.specs.Catalog.{record_framed}
use Rattle.pack_read.specs.Laws.{record_end, record_key}
use Rattle.pack_read.proofs.name.name_of.Goals as goal

pub end_of-end-requires : goal.end_of-end-requires
end_of-end-requires c =
    let a = c.args in
    let F = record_framed a.pack.now a.work.now a.c a.kind a.i c.requires.0 c.requires.1 c.requires.2 in
    omega (arith, F.starts, F.ends, F.whole, c.place-at.ensures)

pub slice_bounds-result-count : goal.slice_bounds-result-count
slice_bounds-result-count c =
    let a = c.args in
    let F = record_framed a.pack.now a.work.now a.c a.kind a.i c.requires.0 c.requires.1 c.requires.2 in
    omega (arith, F.ends, c.key_place-from.ensures, record_end a.pack.now a.work.now a.c a.kind a.i c.requires.0 c.requires.1 c.requires.2 c.place-at.result c.end_of-end.result c.place-at.ensures c.end_of-end.ensures)

pub slice_bounds-result-start : goal.slice_bounds-result-start
slice_bounds-result-start c =
    let a = c.args in
    let F = record_framed a.pack.now a.work.now a.c a.kind a.i c.requires.0 c.requires.1 c.requires.2 in
    omega (arith, F.ends, c.key_place-from.ensures, record_end a.pack.now a.work.now a.c a.kind a.i c.requires.0 c.requires.1 c.requires.2 c.place-at.result c.end_of-end.result c.place-at.ensures c.end_of-end.ensures)

pub slice_bounds-result-end : goal.slice_bounds-result-end
slice_bounds-result-end c =
    let a = c.args in
    let F = record_framed a.pack.now a.work.now a.c a.kind a.i c.requires.0 c.requires.1 c.requires.2 in
    omega (arith, F.whole, c.key_place-from.ensures, record_end a.pack.now a.work.now a.c a.kind a.i c.requires.0 c.requires.1 c.requires.2 c.place-at.result c.end_of-end.result c.place-at.ensures c.end_of-end.ensures)

pub returns : goal.returns
returns c =
    let a = c.args in
    let e = record_end a.pack.now a.work.now a.c a.kind a.i c.requires.0 c.requires.1 c.requires.2 c.place-at.result c.end_of-end.result c.place-at.ensures c.end_of-end.ensures in
    record_key a.pack.now a.work.now a.c a.kind a.i c.requires.0 c.requires.1 c.requires.2 c.key_place-from.result c.end_of-end.result c.key_place-from.ensures e
