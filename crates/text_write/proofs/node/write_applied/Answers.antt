-- `write_applied` meets its contract.
use mathlib.Core.Path.{sym, ◌∙◌}
use Rattle.pack_read.specs.Held.{readable}
use Rattle.text_write.specs.Written.{adds_then}
use Rattle.text_write.specs.Nodes.{bare-written, open_written}
use Rattle.text_write.proofs.node.write_applied.Goals as goal

pub is_bare-requires : goal.is_bare-requires
is_bare-requires c = c.requires.nodes

pub put_symbol-requires : goal.put_symbol-requires
put_symbol-requires c = readable _ _ _ c.requires.nodes.0.held

pub returns-then-is_bare : goal.returns-then-is_bare
returns-then-is_bare c =
    let p = c.requires in
    λ P R Q. bare-written _ _ _ _ _ p.nodes P R Q _ (p.head P R Q) p.applied (sym c.if-is_bare.true ∙ c.is_bare.ensures P R Q) _ _ _ _ (c.put_symbol.ensures P R)

pub put_symbol-requires-2 : goal.put_symbol-requires-2
put_symbol-requires-2 c = readable _ _ _ c.requires.nodes.0.held

pub returns : goal.returns
returns c =
    let p = c.requires in
    λ P R Q. open_written _ _ _ _ _ p.nodes P R Q _ (p.head P R Q) p.applied (sym c.if-is_bare.false ∙ c.is_bare.ensures P R Q) _ _ _ _ (adds_then _ _ _ _ _ _ _ _ c.put_byte-open.ensures.byte (c.put_symbol-2.ensures P R))
