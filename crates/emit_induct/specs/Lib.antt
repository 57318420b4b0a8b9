-- All cases of an induction, and cut judgments.
pub mod Cases
pub mod Cutting
pub mod CasesLeft
pub mod CasesGo
pub mod ByInduction
-- Candidates for an output.
pub mod Candidates
pub mod Filling
pub mod Trying
pub mod Choosing
