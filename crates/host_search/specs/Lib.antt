-- The search for one judgment as a call: what it comes to, by the definition of emission, and the laws of its parts.
pub mod Came
pub mod Searched
pub mod Ends
pub mod Asked
pub mod Judged
pub mod Begun
pub mod Opened
pub mod Calls
