-- `case_over` meets its contract.
use mathlib.Core.Path.{◌∙◌}
use Rattle.emit_state.specs.Holding.{lends}
use Rattle.emit_case.specs.Under.{front}
use Rattle.emit_case.specs.Casing.{key-asked, over_short, over-asked, over_on}
use Rattle.emit_case.proofs.case.case_over.Goals as goal

pub intern-requires : goal.intern-requires
intern-requires c =
    key-asked _ _ _ _ _ _ _ _ _ _ (front c.lay_key-n.result c.lay_key-n.new.key ∙ c.lay_key-n.ensures.1) c.requires

pub prove_supposing-requires : goal.prove_supposing-requires
prove_supposing-requires c =
    let I = c.in-Ok.ensures in
    over-asked _ _ _ _ _ _ _ _ _ _ _ _ _ (front c.lay_key-n.result c.lay_key-n.new.key ∙ c.lay_key-n.ensures.1) _ _ I c.requires

pub returns-in-Ok : goal.returns-in-Ok
returns-in-Ok c =
    let I = c.in-Ok.ensures in
    record { answer = over_on _ _ _ _ _ _ _ _ _ _ _ _ _ (front c.lay_key-n.result c.lay_key-n.new.key ∙ c.lay_key-n.ensures.1) _ _ I (lends _ _ _ _) _ c.prove_supposing.ensures.answer; line = c.prove_supposing.ensures.line }

pub returns-in-Err : goal.returns-in-Err
returns-in-Err c =
    let I = c.in-Err.ensures in
    record { answer = over_short _ _ _ _ _ _ _ _ _ _ _ _ _ (front c.lay_key-n.result c.lay_key-n.new.key ∙ c.lay_key-n.ensures.1) _ I; line = tt }
