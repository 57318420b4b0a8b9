-- The copy of one pattern node in the graph: where its tables stand, and what is written.
pub mod Places
pub mod Steps
pub mod Writes
pub mod Nodes
-- Copying a pattern into the graph: one turn of the walk, and the run.
pub mod Held
pub mod Frames
pub mod Passes
pub mod Begun
pub mod Grown
pub mod Turns
pub mod Ways
pub mod Measure
pub mod Runs
pub mod Whole
