-- What follows from the definition alone: unification keeps the solutions, demand 3 of class building, the walk that code will do.
pub mod Derive
pub mod Unification
pub mod Copies
pub mod Patterns
pub mod Keys
pub mod Classes
pub mod Walks
pub mod Making
pub mod Principal
