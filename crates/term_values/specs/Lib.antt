-- The words that ground values stand in.
pub mod Words
pub mod Stores
-- The ground values of a graph's nodes: their words, and the walk that gives them.
pub mod Pushes
pub mod Taking
pub mod Gives
pub mod Takes
pub mod Turns
pub mod Fixes
