-- `begin` meets its contract.
use Rattle.emit_maps.specs.Asking.{begun}
use Rattle.emit_maps.proofs.maps.begin.Goals as goal

pub returns : goal.returns
returns c =
    let z = c.fill in
    begun c.args.work.now c.args.m c.requires z.new.self (z.ensures.after (λ y e. e))
