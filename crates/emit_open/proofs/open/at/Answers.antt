-- `at` meets its contract: with each turn a node that waits is taken, and less is left.
use Rattle.emit_open.specs.Opens.{going_inside, going_ready, going_on, going_fewer, going_done, clean-placed, first_meetable, first_going}
use Rattle.emit_open.proofs.open.at.Goals as goal

pub clear-fresh-requires : goal.clear-fresh-requires
clear-fresh-requires c = let z = c.fill in clean-placed _ _ _ _ _ c.requires.0 c.args.p.0 c.requires.1 z.new.self z.auto.self (z.ensures.after (λ y e. e))

pub meet-todo-requires : goal.meet-todo-requires
meet-todo-requires c = let z = c.fill in first_meetable _ _ _ _ _ c.requires.0 c.args.p.0 c.requires.1 z.new.self z.auto.self (z.ensures.after (λ y e. e)) _ _ c.clear-fresh.ensures

pub pop-requires : goal.pop-requires
pop-requires c = let G = c.loop-q.invariant _ _ (first_going _ _ _ _ _ c.requires.0 c.args.p.0 c.requires.1 c.fill.new.self c.fill.auto.self (c.fill.ensures.after (λ y e. e)) _ _ c.clear-fresh.ensures _ _ _ _ c.meet-todo.ensures) in going_inside _ _ _ _ _ _ _ _ _ _ G

pub take-todo-requires : goal.take-todo-requires
take-todo-requires c = let G = c.loop-q.invariant _ _ (first_going _ _ _ _ _ c.requires.0 c.args.p.0 c.requires.1 c.fill.new.self c.fill.auto.self (c.fill.ensures.after (λ y e. e)) _ _ c.clear-fresh.ensures _ _ _ _ c.meet-todo.ensures) in going_ready _ _ _ _ _ _ _ _ _ _ G _ _ c.in-Some.ensures c.requires.2

pub loop-q-smaller : goal.loop-q-smaller
loop-q-smaller c = let G = c.loop-q.invariant _ _ (first_going _ _ _ _ _ c.requires.0 c.args.p.0 c.requires.1 c.fill.new.self c.fill.auto.self (c.fill.ensures.after (λ y e. e)) _ _ c.clear-fresh.ensures _ _ _ _ c.meet-todo.ensures) in going_fewer _ _ _ _ _ _ _ _ _ _ G _ _ c.in-Some.ensures _ _ c.take-todo.ensures

pub loop-q-preserved : goal.loop-q-preserved
loop-q-preserved c = λ before p G. going_on _ _ _ _ _ _ _ _ _ _ (c.loop-q.invariant before p G) _ _ c.in-Some.ensures _ _ c.take-todo.ensures

pub returns : goal.returns
returns c = let G = c.loop-q.invariant _ _ (first_going _ _ _ _ _ c.requires.0 c.args.p.0 c.requires.1 c.fill.new.self c.fill.auto.self (c.fill.ensures.after (λ y e. e)) _ _ c.clear-fresh.ensures _ _ _ _ c.meet-todo.ensures) in going_done _ _ _ _ _ _ _ _ _ _ G c.in_default.ensures
