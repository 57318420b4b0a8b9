-- `copies_in` meets its contract.
use Rattle.host_walk.specs.CopyCalls.{copied_started, copied_short, copied-last, copied_read}
use Rattle.host_walk.proofs.copies.copies_in.Goals as goal

pub copy_times-requires : goal.copy_times-requires
copy_times-requires c = copied_started _ _ _ _ _ _ _ _ _ c.requires _ c.copying-k.ensures

pub read_last-requires : goal.read_last-requires
read_last-requires c = let T = c.in-Some.ensures in copied-last _ _ _ _ _ _ _ _ _ c.requires _ c.copying-k.ensures c.args.copies c.args.read c.copy_times.new.work c.copy_times.new.cells _ _ T

pub returns : goal.returns
returns c = let T = c.in-Some.ensures in copied_read _ _ _ _ _ _ _ _ _ c.requires _ c.copying-k.ensures c.args.copies c.args.read c.copy_times.new.work c.copy_times.new.cells _ _ T c.read_last.new.words c.read_last.result c.read_last.ensures

pub returns-in_default : goal.returns-in_default
returns-in_default c = let T = c.in_default.ensures in copied_short _ _ _ _ _ _ _ _ _ c.requires _ c.copying-k.ensures c.args.copies c.args.read c.copy_times.new.work c.copy_times.new.cells c.args.words.now T
