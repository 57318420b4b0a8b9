-- `clear_values` meets its contract.
use Rattle.emit_match.specs.Values.{cleared-empty, cleared_outside}
use Rattle.emit_match.proofs.values.clear_values.Goals as goal

pub returns : goal.returns
returns c =
    let a = c.args in
    let z = c.fill in
    record { empty = cleared-empty a.work.now a.at c.requires z.new.self (z.ensures.after (λ y e. e)); frame = cleared_outside a.work.now a.at c.requires z.new.self (z.ensures.after (λ y e. e)) }
