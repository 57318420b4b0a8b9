-- What class building comes to, of the lengths lent.
pub mod Comes
-- What showing the goals comes to, of the lengths lent.
pub mod ComesShown
-- A pack that was read, and what judging it comes to.
pub mod Opened
-- What the calls of a dock promise.
pub mod Check
pub mod Classes
pub mod Shown
