-- Judgments that have a line, or were tried in vain.
pub mod Known
pub mod Failed
-- The rules of a predicate.
pub mod Rules
-- The search's cycle.
pub mod Trying
pub mod Turning
pub mod RulesLeft
pub mod Predicate
pub mod PremisesLeft
pub mod Asking
pub mod Answering
pub mod Going
