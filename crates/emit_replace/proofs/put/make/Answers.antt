-- `make` meets its contract.
use mathlib.Core.Path.{refl, sym, ◌∙◌}
use native.Mathlib.Omega.{arith}
use Rattle.emit_replace.specs.Making.{made-bare, key-lent, key_some, makes}
use Rattle.emit_replace.proofs.put.make.Goals as goal

pub returns-then-arguments-eq0 : goal.returns-then-arguments-eq0
returns-then-arguments-eq0 c = made-bare _ _ _ _ _ _ c.requires.0 (sym c.arguments.ensures ∙ omega arith) _ refl

pub intern-requires : goal.intern-requires
intern-requires c = (rw c.index_end-to.ensures c.requires.0.readable.stored, key_some _ _ _ _ _ _ _ _ c.key_of-k.ensures)

pub returns : goal.returns
returns c =
    let t = c.index_end-to.ensures in
    let n = c.intern in
    rw t (makes _ _ _ _ _ _ c.requires.0 (omega (arith, c.arguments.ensures, c.if-arguments-eq0.false)) _ (key-lent _ _ _ _ _ _ _ _ c.key_of-k.ensures) n.new.index (rw t at n.auto.index) n.new.words n.result (rw t at n.ensures))
