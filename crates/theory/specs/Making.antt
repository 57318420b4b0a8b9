-- What the steps of class building keep, of the definition alone.
pub mod Runs
pub mod Values
pub mod Resolves
pub mod Circles
pub mod Unified
pub mod FewArgs
pub mod Interns
pub mod Lifts
pub mod ReadBack
pub mod Firsts
pub mod Numbers
pub mod Variables
