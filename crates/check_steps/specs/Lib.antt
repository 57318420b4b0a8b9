-- A rule's words against nodes: what is left to match, the values of variables, the turns.
pub mod Matching
pub mod Pending
pub mod Pushed
pub mod MatchTurns
pub mod Values
pub mod Words
-- The verdict: steps and goals.
pub mod First
pub mod Decided
pub mod Goals
