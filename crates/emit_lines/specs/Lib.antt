-- Names that the pack lacks; texts side by side; the words and the cases of a line as numbers.
pub mod Names
pub mod Side
pub mod Words
pub mod Cases
pub mod Cased
-- What the writers of lines promise.
pub mod Lines
