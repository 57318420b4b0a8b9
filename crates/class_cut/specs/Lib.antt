-- The row of a cut class, word by word.
pub mod Marks
-- What making a cut class owes to the definition.
pub mod Fresh
pub mod Conclusion
pub mod Making
