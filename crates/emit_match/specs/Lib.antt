-- A rule's words against the nodes of a well-sorted store, and how that is matching its terms.
pub mod Words
-- Where things stand in work; values and patterns that wait there.
pub mod Places
pub mod Values
pub mod Pushed
-- The turns, and the whole.
pub mod Partly
pub mod Turns
pub mod Goings
pub mod Begins
