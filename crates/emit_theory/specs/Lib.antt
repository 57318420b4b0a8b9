-- What follows from the definition of emission; docs/EMISSION.md says what each law is for.
pub mod Came
pub mod Outcomes
pub mod Again
pub mod Stores
pub mod Graphs
pub mod Spoken
pub mod Graph
pub mod Built
pub mod Patterns
pub mod Said
pub mod Sound
pub mod Comes
pub mod Writes
pub mod Search
pub mod Goal
pub mod Whole
