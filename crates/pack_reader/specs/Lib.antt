-- What reading a rule's terms holds, asks and answers.
pub mod Terms
pub mod Reading
pub mod TermsTurns
pub mod TermsRun
-- The refusal that a fault is.
pub mod Fault
-- What the reader holds between two records, and what taking up one of the theory answers.
pub mod Taking
pub mod Sound
pub mod Named
pub mod Sort
pub mod Symbol
pub mod Rule
-- What taking up a record of the certificate answers.
pub mod Node
pub mod Step
pub mod Goal
pub mod Result
pub mod Abstracted
-- A cut record, and the marks of cut predicates.
pub mod Cut
pub mod Marks
-- Reading a pack: a record of any kind, from one record to the next, the whole.
pub mod Kinds
pub mod Walk
pub mod Parsed
pub mod Said
pub mod Ahead
