-- Patterns as words of lines.
pub mod Searches
pub mod Naming
pub mod Enough
pub mod First
pub mod Pending
pub mod Spelling
pub mod Telling
pub mod Gathering
pub mod Putting
pub mod Defining
pub mod Walking
pub mod Turning
pub mod Readying
pub mod Numbering
pub mod Stating
