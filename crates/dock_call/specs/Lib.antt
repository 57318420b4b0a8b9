-- A call's outcome, the tests of its lengths, and the pack read behind them.
pub mod Outcome
pub mod Lengths
pub mod Opening
