-- Demand 3 proved of class building, and that each part of it can fail.
pub mod DemandThree
pub mod Teeth
