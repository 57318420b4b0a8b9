-- A goal's graph stays well sorted whatever is done to it, and what is raised from it is well sorted and can be spoken of.
pub mod Kept
pub mod Push
pub mod Unify
pub mod Intern
pub mod Read
pub mod Raise
pub mod Instantiate
pub mod Lower
pub mod Settle
pub mod Terms
pub mod Patterns
