-- What follows from the definition of emission.
pub mod Text
pub mod Written
pub mod Goals
