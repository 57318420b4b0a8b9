-- `copy_listed` meets its contract.
use Rattle.host_walk.specs.CopyCalls.{marked-held, marked_sized, marked_inside, list_broken, list_full, list_stocked, list_copied}
use Rattle.host_walk.proofs.copies.copy_listed.Goals as goal

pub lifting-l-requires : goal.lifting-l-requires
lifting-l-requires c = marked_sized c.args.pack.now c.args.from.now c.args.work.now c.args.words.now c.args.cells.now c.args.flex.now c.args.c c.requires

pub open_store-empty-requires : goal.open_store-empty-requires
open_store-empty-requires c = let L = c.lifting-l.ensures in let I = marked_inside c.args.pack.now c.args.from.now c.args.work.now c.args.words.now c.args.cells.now c.args.flex.now c.args.c c.requires _ L in (marked-held c.args.pack.now c.args.from.now c.args.work.now c.args.words.now c.args.cells.now c.args.flex.now c.args.c c.requires, L, I.0, I.1)

pub read_list-requires : goal.read_list-requires
read_list-requires c = let T = c.open_store-empty.ensures in (T.lifts, T.empty)

pub copy_from-requires : goal.copy_from-requires
copy_from-requires c = let E = c.in-Ok.ensures in list_stocked c.args.pack.now c.args.from.now c.args.work.now c.args.words.now c.args.cells.now c.args.flex.now c.args.c c.requires _ c.lifting-l.ensures _ _ c.open_store-empty.ensures c.read_list.new.work c.read_list.new.words c.read_list.auto.words _ E

pub returns-in-Ok : goal.returns-in-Ok
returns-in-Ok c = let E = c.in-Ok.ensures in list_copied c.args.pack.now c.args.from.now c.args.work.now c.args.words.now c.args.cells.now c.args.flex.now c.args.c c.requires _ c.lifting-l.ensures _ _ c.open_store-empty.ensures c.read_list.new.work c.read_list.new.words c.read_list.auto.words _ E c.copy_from.new.words c.args.p c.args.copies c.args.read c.copy_from.result c.copy_from.ensures

pub returns-in-Err-Broken : goal.returns-in-Err-Broken
returns-in-Err-Broken c = let E = rw c.in-Err-Broken.field-0-is at c.in-Err-Broken.ensures in list_broken c.args.pack.now c.args.from.now c.args.work.now c.args.words.now c.args.cells.now c.args.flex.now c.args.c c.requires _ c.lifting-l.ensures _ _ c.open_store-empty.ensures c.read_list.new.work c.read_list.new.words c.read_list.auto.words E c.args.p c.args.copies c.args.read

pub returns-in-Err-Full : goal.returns-in-Err-Full
returns-in-Err-Full c = let E = rw c.in-Err-Full.field-0-is at c.in-Err-Full.ensures in list_full c.args.pack.now c.args.from.now c.args.work.now c.args.words.now c.args.cells.now c.args.flex.now c.args.c c.requires _ c.lifting-l.ensures _ _ c.open_store-empty.ensures c.read_list.new.work c.read_list.new.words c.read_list.auto.words E c.args.p c.args.copies c.args.read
