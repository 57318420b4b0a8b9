-- `top_of` meets its contract.
use mathlib.Core.Path.{sym, ap}
use Rattle.emit_words.specs.Pending.{top_of}
use Rattle.emit_words.proofs.walk.top_of.Goals as goal

pub returns-in-Some : goal.returns-in-Some
returns-in-Some c =
    let took = c.in-Some.ensures in
    sym (ap (top_of c.args.j) took.2)

pub returns-in-None : goal.returns-in-None
returns-in-None c =
    sym (ap (top_of c.args.j) c.in-None.ensures)
