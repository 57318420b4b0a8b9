-- What the store holds, and its laws.
pub mod Words
pub mod Stored
pub mod Table
