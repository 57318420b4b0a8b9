-- A turn of unification: the pairs left, and what two roots come to.
pub mod Pairs
pub mod Meets
-- Unification by a worklist: all turns.
pub mod Unifies
-- The test for circles: a walk along arguments, and what it says of the graph that is held.
pub mod Paths
pub mod Circles
pub mod CircleWords
pub mod CircleTurns
