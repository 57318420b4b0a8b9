-- `clear_chains` meets its contract.
use Rattle.emit_chains.specs.Places.{cleared-empty, cleared_outside}
use Rattle.emit_chains.proofs.chain.clear_chains.Goals as goal

pub returns : goal.returns
returns c =
    let a = c.args in
    let z = c.fill in
    record { empty = cleared-empty a.work.now a.chains c.requires z.new.self (z.ensures.after (λ y e. e)); frame = cleared_outside a.work.now a.chains c.requires z.new.self (z.ensures.after (λ y e. e)) }
