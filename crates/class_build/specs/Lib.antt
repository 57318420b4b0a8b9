-- The goals' tests behind class building.
pub mod Values
pub mod Results
pub mod Runs
pub mod Testable
pub mod OneGoal
pub mod EachGoal
pub mod Tests
-- What the figures owe to the definition.
pub mod Slots
pub mod Figures
-- What stands ready before the first class is made.
pub mod Places
pub mod Begin
pub mod Ready
-- Class building, whole: where the goals' tests have their tables, and what all of it comes to.
pub mod GoalTables
pub mod LeftWords
pub mod Build
pub mod Finish
pub mod Goes
