-- Classes as they are made: each is exact, and none is refused.
pub mod Steps
pub mod Premise
pub mod Built
pub mod CutClass
pub mod Premises
pub mod FirstStep
pub mod RuleExact
pub mod AllClasses
pub mod RuleClass
pub mod GoalsMet
