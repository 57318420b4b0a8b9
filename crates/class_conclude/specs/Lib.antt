-- What reading the copies' variables back answers.
pub mod Entries
-- Fixed variables counted: the numbered ones get a colour, and the others are looked at one by one.
pub mod FixedMarks
pub mod Fixed
pub mod FixedWhole
-- A rule's conclusion behind its premises: what is asked, and what is answered.
pub mod Top
pub mod Back
pub mod Counted
pub mod Concludes
pub mod Beyond
