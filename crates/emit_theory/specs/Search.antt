-- The search: rules matched and premises built, patterns in words, `prove` and `chain`, induction. Every state stays sound.
pub mod Matching
pub mod Naming
pub mod Stating
pub mod Proving
pub mod Replacing
pub mod Cases
pub mod Inducting
pub mod Memory
