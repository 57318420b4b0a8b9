-- `write_term` meets its contract.
use Rattle.text_write.specs.Walk.{writes_visits, writes_finishing, writes_all}
use Rattle.text_write.proofs.term.write_term.Goals as goal

pub visit-p-requires : goal.visit-p-requires
visit-p-requires c = let a = c.args in writes_visits a.pack.now a.work.now a.words.now a.text.now a.s a.stack a.at a.budget a.x c.requires

pub finish-requires : goal.finish-requires
finish-requires c = let a = c.args in writes_finishing _ _ _ a.text.now _ _ a.at a.budget a.x c.requires _ _ _ c.visit-p.ensures

pub returns : goal.returns
returns c = let a = c.args in writes_all _ _ _ _ _ _ a.at a.budget a.x c.requires _ _ _ c.visit-p.ensures _ _ _ c.finish.ensures
