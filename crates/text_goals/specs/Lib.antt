-- Where a goal's lines are read, the lines of its variables, and all of them.
pub mod Form
pub mod Lines
pub mod Goals
-- Goal after goal, when all classes are made.
pub mod Showable
pub mod OneShown
pub mod EachShown
pub mod AllShown
-- The goals as shown, whole: from a pack that was read to the classes, the text and the figures.
pub mod Ends
pub mod Shows
