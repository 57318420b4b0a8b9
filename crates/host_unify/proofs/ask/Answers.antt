-- `ask` meets its contract.
use native.Mathlib.Omega.{arith}
use Rattle.host_unify.specs.Tells.{nodes_small, refusal-told, asks_left, asks_right, asks_room, asks_solves}
use Rattle.host_unify.proofs.ask.Goals as goal

pub returns-then-n-x : goal.returns-then-n-x
returns-then-n-x c = asks_left _ _ _ _ _ _ _ _ (omega arith) (refusal-told 2 _ c.args.roots.now c.refusal.ensures c.requires.2)

pub returns-then-n-y : goal.returns-then-n-y
returns-then-n-y c = asks_right _ _ _ _ _ _ _ _ (omega arith) (omega arith) (refusal-told 2 _ c.args.roots.now c.refusal-then-n-y.ensures c.requires.2)

pub returns-then-roots-g : goal.returns-then-roots-g
returns-then-roots-g c = asks_room _ _ _ _ _ _ _ _ (omega arith) (omega arith) (omega arith) (refusal-told 3 _ c.args.roots.now c.refusal-then-roots-g.ensures c.requires.2)

pub overflow_cast-x : goal.overflow_cast-x
overflow_cast-x c = let H = c.requires.0 in record { fits = omega (arith, nodes_small _ _ _ H.0 H.1) }

pub overflow_cast-y : goal.overflow_cast-y
overflow_cast-y c = let H = c.requires.0 in record { fits = omega (arith, nodes_small _ _ _ H.0 H.1) }

pub solve-requires : goal.solve-requires
solve-requires c = (c.requires.0, record { room = omega arith; zeros = c.requires.2 }, c.requires.1, omega arith, omega arith)

pub shape_of-work : goal.shape_of-work
shape_of-work c = search

pub shape_of-roots : goal.shape_of-roots
shape_of-roots c = search

pub returns : goal.returns
returns c = asks_solves _ _ _ _ _ _ _ _ (omega arith) (omega arith) (omega arith) c.solve.ensures
