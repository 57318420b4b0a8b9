-- Ground values of a rule's premises.
pub mod OneValue
pub mod AllValues
-- The classes of rules.
pub mod Stages
pub mod Valuing
pub mod Solves
