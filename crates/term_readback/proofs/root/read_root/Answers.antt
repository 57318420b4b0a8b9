-- `read_root` meets its contract.
use native.Mathlib.Omega.{arith}
use Rattle.term_readback.specs.Ways.{opening_few}
use Rattle.term_readback.specs.Noted.{notes_short, notes_small, notes_read}
use Rattle.term_readback.proofs.root.read_root.Goals as goal

pub overflow_add-p : goal.overflow_add-p
overflow_add-p c = omega (arith, notes_small _ _ _ _ _ _ _ _ _ _ _ _ c.requires c.read_either.new.work c.read_either.new.words _ _ _ c.in_ok-p.ensures)

pub put_word-requires : goal.put_word-requires
put_word-requires c = let f = opening_few _ _ _ _ _ _ _ _ _ _ _ _ _ c.requires in (omega (arith, f.0, f.2, c.patterns_at.ensures), omega (arith, f.3, c.read_either.auto.work))

pub returns : goal.returns
returns c = rw (rw c.patterns_at.ensures at c.put_word.ensures) (notes_read _ _ _ _ _ _ _ _ _ _ _ _ c.requires c.read_either.new.work c.read_either.new.words _ _ _ c.in_ok-p.ensures)

pub returns-in_err-p : goal.returns-in_err-p
returns-in_err-p c = rw c.from_residual.ensures (notes_short _ _ _ _ _ _ _ _ _ _ _ _ c.requires c.read_either.new.work c.read_either.new.words c.in_err-p.ensures)
