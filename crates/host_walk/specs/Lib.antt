-- What the walks over patterns and graphs have in common: where their words stand, a list of patterns, reading back, and leaving.
pub mod Came
pub mod Walks
pub mod Back
pub mod Places
pub mod Listed
pub mod Lists
-- Copies of patterns read back: what the call comes to, and the laws of its parts.
pub mod Plain
pub mod Copies
pub mod Times
pub mod CopyCalls
