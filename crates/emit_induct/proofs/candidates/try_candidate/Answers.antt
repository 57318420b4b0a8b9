-- `try_candidate` meets its contract.
use mathlib.Core.Path.{◌∙◌}
use Rattle.emit_state.specs.Holding.{lends}
use Rattle.emit_case.specs.Under.{front}
use Rattle.emit_case.specs.Casing.{key-asked}
use Rattle.emit_induct.specs.Trying.{try_short, try_asked, try_on}
use Rattle.emit_induct.proofs.candidates.try_candidate.Goals as goal

pub intern-requires : goal.intern-requires
intern-requires c = key-asked _ _ _ _ _ _ _ _ _ _ (front c.lay_filled-n.result c.lay_filled-n.new.key ∙ c.lay_filled-n.ensures.1) c.requires.0

pub prove_cut-requires : goal.prove_cut-requires
prove_cut-requires c =
    let I = c.in-Ok.ensures in
    (try_asked _ _ _ _ _ _ _ _ _ _ _ _ (front c.lay_filled-n.result c.lay_filled-n.new.key ∙ c.lay_filled-n.ensures.1) _ _ I c.requires.0, c.requires.1, c.requires.2)

pub returns-in-Ok : goal.returns-in-Ok
returns-in-Ok c =
    let I = c.in-Ok.ensures in
    try_on _ _ _ _ _ _ _ _ _ _ _ _ (front c.lay_filled-n.result c.lay_filled-n.new.key ∙ c.lay_filled-n.ensures.1) _ _ I (lends _ _ _ _) _ c.prove_cut.ensures

pub returns-in-Err : goal.returns-in-Err
returns-in-Err c =
    let I = c.in-Err.ensures in
    try_short _ _ _ _ _ _ _ _ _ _ _ _ (front c.lay_filled-n.result c.lay_filled-n.new.key ∙ c.lay_filled-n.ensures.1) _ I
