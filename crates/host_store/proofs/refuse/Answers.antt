-- `refuse` meets its contract.
use Rattle.host_store.specs.Turns.{cleared}
use Rattle.host_store.proofs.refuse.Goals as goal

pub returns : goal.returns
returns c =
    let a = c.args in
    cleared a.code a.index.now a.words.now a.numbers.now _ _ _ (c.fill.ensures.after (λ y e. e)) (c.fill-2.ensures.after (λ y e. e)) (c.fill-3.ensures.after (λ y e. e))
