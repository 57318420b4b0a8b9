-- `read_applied` meets its contract.
use mathlib.Core.Path.{refl}
use Rattle.term_readback.specs.Ways.{applied_ripe, applied-indexed, applied_short, applied_gives}
use Rattle.term_readback.specs.Keys.{keyed-lent}
use Rattle.term_readback.proofs.root.read_applied.Goals as goal

pub key_of-k-requires : goal.key_of-k-requires
key_of-k-requires c = (applied_ripe _ _ _ _ _ _ _ _ _ _ _ _ c.requires.opening, refl)

pub intern_key-requires : goal.intern_key-requires
intern_key-requires c = (applied-indexed _ _ _ _ _ _ _ _ _ _ _ _ c.requires.opening _ _ _ c.key_of-k.ensures, keyed-lent _ _ _ _ _ _ _ _ c.key_of-k.ensures c.requires.opening.graph c.requires.opening.holding.lies.stands.shows)

pub returns : goal.returns
returns c = λ b d f K. applied_gives _ _ _ _ _ _ _ _ _ _ _ _ K _ _ _ c.key_of-k.ensures c.intern_key.new.work c.intern_key.new.words _ _ c.in_ok-p.ensures

pub returns-in_err-p : goal.returns-in_err-p
returns-in_err-p c = rw c.from_residual.ensures (λ b d f K. applied_short _ _ _ _ _ _ _ _ _ _ _ _ K _ _ _ c.key_of-k.ensures c.intern_key.new.work c.intern_key.new.words c.in_err-p.ensures)
