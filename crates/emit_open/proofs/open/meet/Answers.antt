-- `meet` meets its contract.
use Rattle.emit_open.specs.Meets.{meets-known, meets-room, meets-new}
use Rattle.emit_open.proofs.open.meet.Goals as goal

pub push-requires : goal.push-requires
push-requires c = meets-room _ _ _ _ _ c.requires c.in-None.ensures _ c.put.ensures

pub returns-in-Some : goal.returns-in-Some
returns-in-Some c = meets-known _ _ _ _ _ c.requires _ c.in-Some.ensures

pub returns-in-None : goal.returns-in-None
returns-in-None c = let p = c.push in meets-new _ _ _ _ _ c.requires c.in-None.ensures _ c.put.ensures _ _ p.ensures.stack p.ensures.frame
