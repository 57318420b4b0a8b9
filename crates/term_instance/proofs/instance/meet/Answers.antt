-- `meet` meets its contract.
use Rattle.term_instance.specs.Meets.{seen_placed, meets-same, meets-other}
use Rattle.term_instance.proofs.instance.meet.Goals as goal

pub get-requires : goal.get-requires
get-requires c = let P = seen_placed _ _ _ _ _ _ _ _ _ _ _ _ c.requires in (P.0, P.1, P.3)

pub returns : goal.returns
returns c = meets-same _ _ _ _ _ _ _ _ _ _ _ _ c.requires _ c.in-Some.ensures c.if-m-n.false

pub returns-then-m-n : goal.returns-then-m-n
returns-then-m-n c = meets-other _ _ _ _ _ _ _ _ _ _ _ _ c.requires _ c.in-Some.ensures c.if-m-n.true
