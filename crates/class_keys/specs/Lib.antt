-- The first step of each judgment, and marks of the needed steps.
pub mod Upto
pub mod Firsts
pub mod Marks
pub mod Marking
-- What keys say, and the words of the classes.
pub mod Spell
pub mod Writing
pub mod ClassWords
-- Which steps are needed, and the class of each.
pub mod Table
pub mod Stands
pub mod Turns
pub mod Keyed
