-- `clear` meets its contract.
use Rattle.term_readback.specs.Frames.{clears}
use Rattle.term_readback.proofs.resolve.clear.Goals as goal

pub returns : goal.returns
returns c = rw c.patterns_at.ensures (let a = c.args in clears a.work.now a.cells.now a.t a.g c.requires.0 c.requires.1 c.requires.2 c.fill.new.self (rw c.patterns_at.ensures at (c.fill.ensures.after (λ y e. e))))
