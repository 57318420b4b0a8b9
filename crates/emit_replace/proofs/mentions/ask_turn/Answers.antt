-- `ask_turn` meets its contract.
use Rattle.emit_replace.specs.AskTurns.{ask_at, ask_remembers, ask_stack, asks_on, asks_done}
use Rattle.emit_replace.proofs.mentions.ask_turn.Goals as goal

pub mark_of-mark-requires : goal.mark_of-mark-requires
mark_of-mark-requires c = ask_at _ _ _ _ _ _ _ _ c.requires _ c.descend-top.ensures

pub remember-requires : goal.remember-requires
remember-requires c = ask_remembers _ _ _ _ _ _ _ _ c.requires _ c.descend-top.ensures

pub pop-requires : goal.pop-requires
pop-requires c = ask_stack _ _ _ _ _ _ _ _ c.requires _ c.descend-top.ensures _ c.mark_of-mark.ensures _ c.remember.ensures

pub returns-in-Some : goal.returns-in-Some
returns-in-Some c = asks_on _ _ _ _ _ _ _ _ c.requires _ c.descend-top.ensures _ c.mark_of-mark.ensures _ c.remember.ensures _ _ c.in-Some.ensures

pub returns-in-None : goal.returns-in-None
returns-in-None c = asks_done _ _ _ _ _ _ _ _ c.requires _ c.descend-top.ensures _ c.mark_of-mark.ensures _ c.remember.ensures c.in-None.ensures
