-- `read_number` meets its contract.
use native.Mathlib.Omega.{arith}
use mathlib.Core.Path.{refl}
use Rattle.term_readback.specs.Ways.{opening_asking, opening_few, number_short, number_fits_in, number_gives}
use Rattle.term_readback.proofs.root.read_number.Goals as goal

pub sort-sort-requires : goal.sort-sort-requires
sort-sort-requires c = let A = opening_asking _ _ _ _ _ _ _ _ _ _ _ _ _ c.requires.opening in (A.graphed.shows.laid, A.node)

pub overflow_cast-key : goal.overflow_cast-key
overflow_cast-key c = omega (arith, (opening_few _ _ _ _ _ _ _ _ _ _ _ _ _ c.requires.opening).1, c.requires.opening.holding.lies.stands.shows.laid.small)

pub overflow_add-numbers_at : goal.overflow_add-numbers_at
overflow_add-numbers_at c = let f = opening_few _ _ _ _ _ _ _ _ _ _ _ _ _ c.requires.opening in omega (arith, f.1, f.2, f.3, c.requires.opening.holding.lies.stands.shows.laid.small, c.numbers_at.ensures)

pub put_word-requires : goal.put_word-requires
put_word-requires c = rw c.numbers_at.ensures (number_fits_in _ _ _ _ _ _ _ _ _ _ _ _ c.requires.opening _ _ c.sort-sort.ensures refl _ _ _ _ c.in_ok-p.ensures)

pub overflow_add-result : goal.overflow_add-result
overflow_add-result c = let f = opening_few _ _ _ _ _ _ _ _ _ _ _ _ _ c.requires.opening in omega (arith, f.1, c.requires.opening.holding.lies.stands.shows.laid.small)

pub returns : goal.returns
returns c = λ b d f K. rw (rw c.numbers_at.ensures at c.put_word.ensures) (number_gives _ _ _ _ _ _ _ _ _ _ _ _ K _ _ c.sort-sort.ensures refl c.intern_key.new.work c.intern_key.new.words _ _ c.in_ok-p.ensures)

pub returns-in_err-p : goal.returns-in_err-p
returns-in_err-p c = rw c.from_residual.ensures (λ b d f K. number_short _ _ _ _ _ _ _ _ _ _ _ _ K _ _ c.sort-sort.ensures refl c.intern_key.new.work c.intern_key.new.words c.in_err-p.ensures)
