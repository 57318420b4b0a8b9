-- `lengths_unfit` meets its contract.
use mathlib.Core.Path.{sym}
use Rattle.host_store.specs.Turns.{unfit_long, unfit_index}
use Rattle.host_store.proofs.lengths_unfit.Goals as goal

pub returns-then-words : goal.returns-then-words
returns-then-words c = let a = c.args in sym (unfit_long a.index a.words c.if-words.true)

pub returns : goal.returns
returns c = let a = c.args in sym (unfit_index a.index a.words c.if-words.false)
