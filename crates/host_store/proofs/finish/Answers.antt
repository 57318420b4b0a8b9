-- `finish` meets its contract.
use Rattle.host_store.specs.Turns.{finished}
use Rattle.host_store.proofs.finish.Goals as goal

pub returns : goal.returns
returns c =
    let a = c.args in
    let S = c.requires.0 in
    finished a.index.now a.words.now a.numbers.now a.st a.n S c.requires.1 _ _ (c.len.ensures _ _ S) (c.used.ensures _ _ S) _ _ _
    (c.fill.ensures.after (λ y e. e)) c.fill_from.ensures c.fill_from-2.ensures
