-- `lay_key` meets its contract.
use mathlib.Core.Path.{refl}
use Rattle.emit_case.specs.Laying.{key-room, key_laid}
use Rattle.emit_case.proofs.case.lay_key.Goals as goal

pub slice_bounds-copy_cells-end : goal.slice_bounds-copy_cells-end
slice_bounds-copy_cells-end c = key-room _ c.args.vs.now c.args.key.now c.requires.0 c.requires.1

pub returns : goal.returns
returns c = (refl, key_laid c.args.c c.args.vs.now c.args.key.now _ c.copy_cells.ensures c.requires.1)
