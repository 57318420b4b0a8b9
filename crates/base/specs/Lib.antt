-- Laws of parts of a buffer, of what a call leaves as it was, and of probe tables.
pub mod Part
pub mod Outside
pub mod Lent
pub mod Word
pub mod Upto
pub mod Listed
pub mod Below
pub mod Hash
pub mod Probe
pub mod Stack
pub mod Pairs
pub mod Same
