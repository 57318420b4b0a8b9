-- What the functions of a case ask and answer.
pub mod Leaves
pub mod Asked
pub mod Runs
-- A pattern made.
pub mod Interning
-- Hypotheses, and the goal under them.
pub mod Supposing
pub mod Putting
pub mod Hypotheses
pub mod One
pub mod Each
pub mod EachGoes
pub mod Under
-- Variables.
pub mod Variables
pub mod Naming
pub mod Making
pub mod VariablesLeft
pub mod Inputs
pub mod Filtering
-- The case.
pub mod Case
pub mod Laying
pub mod Casing
pub mod CaseOn
