-- `search_pack` meets its contract.
use Rattle.host_search.specs.Ends.{opened_read, opened-refused, comes_as, refused_as}
use Rattle.definition.specs.Answer.{answer}
use Rattle.host_search.specs.Opened.{opens}
use Rattle.host_search.specs.Calls.{pack_as}
use Rattle.host_search.proofs.search.search_pack.Goals as goal

pub search_opened-requires : goal.search_opened-requires
search_opened-requires c =
    let o = c.in-Ok.ensures in
    opens _ _ _ _ _ c.open_pack.auto.work o.0 o.1 o.2 o.3

pub returns-in-Ok : goal.returns-in-Ok
returns-in-Ok c =
    let o = c.in-Ok.ensures in
    let w = c.search_opened in
    opened_read _ _ w.new.proof _ o.1 w.result o.0 o.2
    (pack_as c.args.pack.now c.open_pack.new.work w.new.proof _ _ _ c.args.q o.1 w.result c.open_pack.auto.work (w.ensures o.1 o.2 o.3))

pub returns-in-Err : goal.returns-in-Err
unfolding answer
returns-in-Err c =
    comes_as c.args.proof.now _ _ _ (refused_as _ _ c.outcome_answer.ensures) (opened-refused _ _ c.args.proof.now _ _ c.in-Err.ensures)
